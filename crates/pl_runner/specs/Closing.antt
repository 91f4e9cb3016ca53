-- What a runner adds to a history where it closes its job.
use Rattle.std.specs.Prelude.{◌≡◌, ℕ, Bool, true, false, List, [], ◌∷◌, ◌++◌, Result, Ok, Err}
use Rattle.std.specs.Prelude.{None, Some}
use Rattle.pl_units.specs.declared.NoMemory as units
use Rattle.pl_tech.specs.Technology.{Meaning}
use Rattle.pl_tech.specs.declared.technology.Ran.{Ran}
use Rattle.pl_tech.specs.declared.technology.Ran.TheVariants as ran
use Rattle.pl_machine.specs.declared.entry.Command.{Command}
use Rattle.pl_machine.specs.declared.entry.What.TheVariants as what
use Rattle.pl_machine.specs.declared.entry.Entry.{Entry}
use Rattle.pl_epochs.specs.declared.seats.TableName.{TableName}
use Rattle.pl_turn.specs.declared.lock.TurnLock.{TurnLock}
use Rattle.pl_turn.specs.Passes.{home_of}
use Rattle.pl_plant.specs.declared.ticket.Ticket.{Ticket}
use Rattle.pl_plant.specs.Planted.{Planted}
use Rattle.pl_order.specs.Order.{Work, IsInOrder}
use Rattle.pl_runner.specs.declared.closed.Closed.{Closed}
use Rattle.pl_runner.specs.declared.closed.Closed.TheVariants.{Done, Late, NoMemory}

-- one statement for each way that a closing may go
abbrev pub MatchClosed : Closed → Type 0 → (ℕ → ℕ → Type 0) → Type 0 → Type 0
MatchClosed Done P F Q = P
MatchClosed (Late since now) P F Q = F since now
MatchClosed NoMemory P F Q = Q

-- where it was too late
abbrev pub IfLate : Closed → (ℕ → ℕ → Type 0) → Type 0
IfLate closed F = MatchClosed closed (Unit {0}) F (Unit {0})

-- the work of a job of this slot that was started at this epoch; job_value says what a job makes
abbrev pub job_work : {O J : Type 0} → (J → O) → ℕ → ℕ → J → Work O
job_work job_value slot epoch job = record { slot = slot; epoch = epoch; value = job_value job }

module _ {T P E R O J B : Type 0} where
  -- the work that a ticket is for
  abbrev pub ticket_work : (J → O) → Ticket T P E R O J B → Work O
  ticket_work job_value t = job_work job_value t.slot t.epoch t.job.value

  -- the entry of a ticket's job that was published
  abbrev pub finish_of : Ticket T P E R O J B → Entry T P E R O J B
  finish_of t = record { actor = t.actor; what = what.Finish t.slot t.epoch }

  -- the entry of a ticket's job that was too late
  abbrev pub late_of : Ticket T P E R O J B → ℕ → ℕ → Entry T P E R O J B
  late_of t since now = record { actor = t.actor; what = what.Late t.slot since now }

  -- one entry came to these, which closes the ticket's job as done or as late; none, where memory was wanting
  abbrev pub GrewByClosing : Closed → Ticket T P E R O J B → List (Entry T P E R O J B) → List (Entry T P E R O J B) → Type 0
  GrewByClosing closed t old new = MatchClosed closed (new ≡ old ++ finish_of t ∷ []) (λ since now. new ≡ old ++ late_of t since now ∷ []) (new ≡ old)

  -- the same of a job that was stopped, which is never done
  abbrev pub GrewByStopping : Closed → Ticket T P E R O J B → List (Entry T P E R O J B) → List (Entry T P E R O J B) → Type 0
  GrewByStopping closed t old new = MatchClosed closed ⊥ (λ since now. new ≡ old ++ late_of t since now ∷ []) (new ≡ old)

  module _ (m : Meaning P E R O) (job_value : J → O) (t : Ticket T P E R O J B) (old new : List (Entry T P E R O J B)) where
    -- who was in order with the ticket's work, whatever its commands, is in order after this closing: without work, or still with
    -- it where memory was wanting
    abbrev pub ClosesInOrder : Closed → Type 0
    ClosesInOrder closed = (commands : List (Command E)) → IsInOrder m commands t.actor old (Some (ticket_work job_value t))
        → MatchClosed closed (IsInOrder m commands t.actor new None) (λ _ _. IsInOrder m commands t.actor new None) (IsInOrder m commands t.actor new (Some (ticket_work job_value t)))

    -- the same where memory was not wanting
    abbrev pub ClosesInOrderIfClosed : Closed → Type 0
    ClosesInOrderIfClosed closed = (commands : List (Command E)) → IsInOrder m commands t.actor old (Some (ticket_work job_value t))
        → MatchClosed closed (IsInOrder m commands t.actor new None) (λ _ _. IsInOrder m commands t.actor new None) (Unit {0})

  -- the table whose words are the epochs of the plant under the lock
  abbrev pub epochs_of : TurnLock (Planted T P E R O J B) (Entry T P E R O J B) TableName → TableName
  epochs_of lock = home_of (λ p. p.home) lock

-- whether a run was stopped
abbrev pub is_stopped : {O : Type 0} → Result (Ran O) units.NoMemory → Bool
is_stopped (Ok ran.Stopped) = true
is_stopped (Ok (ran.Done output)) = false
is_stopped (Err none) = false

-- where it was stopped, nothing was published
abbrev pub IsNotDone : Closed → Type 0
IsNotDone closed = MatchClosed closed ⊥ (λ _ _. Unit {0}) (Unit {0})
