-- Why work was stopped.
use Rattle.std.specs.Prelude.{◌≡◌, ℕ, true, List, ◌∷◌, ◌++◌}
use Rattle.pl_tech.specs.Technology.{Meaning}
use Rattle.pl_tech.specs.Slots.{has}
use Rattle.pl_ports.specs.declared.gate.Actor.{Actor}
use Rattle.pl_machine.specs.declared.entry.Mode.TheVariants.{Started}
use Rattle.pl_machine.specs.declared.entry.Command.TheVariants.{Apply, Cancel}
use Rattle.pl_machine.specs.declared.entry.Reply.TheVariants.{Invalidated}
use Rattle.pl_machine.specs.declared.entry.What.{What}
use Rattle.pl_machine.specs.declared.entry.What.TheVariants.{Call, Start, Finish, Late, Bye}
use Rattle.pl_machine.specs.declared.entry.Entry.{Entry}
use Rattle.pl_machine.specs.Machine.{Machine, mode_of, is_started}
use Rattle.pl_machine.specs.History.{replay}
use Rattle.pl_machine.specs.Tickets.{start_of}

module _ {T P E R O J B : Type 0} where
  -- in this state the entry makes the slot Invalid: an apply whose reply names it, or a cancel while it is started
  abbrev pub Invalidates : Machine P → What T P E R O J B → ℕ → Type 0
  Invalidates st (Call Apply (Invalidated set)) slot = has set slot ≡ true
  Invalidates st (Call Cancel reply) slot = is_started (mode_of st slot) ≡ true
  Invalidates st what slot = ⊥

  -- the actor started the slot at this epoch, and while it worked at it an entry made the slot Invalid
  pub record WasInvalidated (m : Meaning P E R O) (history : List (Entry T P E R O J B)) (actor : Actor) (slot epoch : ℕ) : Type 0 where
    pub before : List (Entry T P E R O J B)
    pub between : List (Entry T P E R O J B)
    pub entry : Entry T P E R O J B
    pub after : List (Entry T P E R O J B)
    pub split : history ≡ before ++ start_of actor slot epoch ∷ (between ++ entry ∷ after)
    pub at_work : mode_of (replay m (before ++ start_of actor slot epoch ∷ between)) slot ≡ Started actor
    pub invalidates : Invalidates (replay m (before ++ start_of actor slot epoch ∷ between)) entry.what slot

  -- a fact of what is late and of the epoch at its start, where an entry is a late one
  abbrev pub IfLate : What T P E R O J B → (ℕ → ℕ → Type 0) → Type 0
  IfLate (Call command reply) F = Unit {0}
  IfLate (Start slot epoch) F = Unit {0}
  IfLate (Finish slot epoch) F = Unit {0}
  IfLate (Late slot since now) F = F slot since
  IfLate Bye F = Unit {0}

  -- of a late entry and the history before it: what is late was invalidated
  abbrev pub LateWasInvalidated : Meaning P E R O → List (Entry T P E R O J B) → Entry T P E R O J B → Type 0
  LateWasInvalidated m before e = IfLate e.what (λ slot since. WasInvalidated m before e.actor slot since)
