-- What is kept after a command, and what of it is handed out.
use Rattle.std.specs.Prelude.{◌≡◌, ℕ, ◌<◌, List, if◌then◌else◌}
use Rattle.std.specs.Prelude.{Option, None, Some}
use Rattle.pl_tech.specs.Technology.{Meaning}
use Rattle.pl_tech.specs.Slots.{has}
use Rattle.pl_tech.specs.Kept.{kept_at}
use Rattle.pl_machine.specs.declared.entry.Command.{Command}
use Rattle.pl_machine.specs.declared.entry.Command.TheVariants.{Apply, Export}
use Rattle.pl_machine.specs.declared.entry.Reply.{Reply}
use Rattle.pl_machine.specs.declared.entry.Reply.TheVariants.{Invalidated, Gcode}
use Rattle.pl_machine.specs.Machine.{Machine, is_hit}

-- an apply leaves nothing for the slots that it makes Invalid, and for each other slot what was kept; other commands leave all
abbrev pub KeepsAfter : {P E R O : Type 0} → Meaning P E R O → Machine P → Command E → List (Option O) → List (Option O) → Type 0
KeepsAfter m st Apply old new = (k : ℕ) → k < 100 → kept_at new k ≡ (if is_hit m st k then None else kept_at old k)
KeepsAfter m st command old new = new ≡ old

-- an export is given what is kept for slot 99
abbrev pub IsLastGiven : {E O : Type 0} → Command E → List (Option O) → Option O → Type 0
IsLastGiven Export kept given = given ≡ kept_at kept 99
IsLastGiven command kept given = Unit {0}

module _ {T P E R O J B : Type 0} where
  -- the result that a reply hands out is this
  abbrev pub IsHandedOut : Reply T P E R O J B → Option O → Type 0
  IsHandedOut (Gcode output) given = given ≡ Some output
  IsHandedOut reply given = Unit {0}

  -- nothing is kept for the slots that a reply names as fallen, and for each other slot what was kept
  abbrev pub Forgets : Reply T P E R O J B → List (Option O) → List (Option O) → Type 0
  Forgets (Invalidated set) old new = (k : ℕ) → k < 100 → kept_at new k ≡ (if has set k then None else kept_at old k)
  Forgets reply old new = new ≡ old
