-- What calls leave to those who have started something.
use Rattle.std.specs.Prelude.{ℕ, List}
use Rattle.pl_ports.specs.declared.gate.Actor.{Actor}
use Rattle.pl_tech.specs.Technology.{Meaning}
use Rattle.pl_machine.specs.declared.entry.Entry.{Entry}
use Rattle.pl_machine.specs.Tickets.{StandsIn}

module _ {T P E R O J B : Type 0} where
  -- each start that stands in the old history stands in the new one
  abbrev pub StandOn : Meaning P E R O → List (Entry T P E R O J B) → List (Entry T P E R O J B) → Type 0
  StandOn m old new = (actor : Actor) (slot epoch : ℕ) (value : O) → StandsIn m old actor slot epoch value → StandsIn m new actor slot epoch value
