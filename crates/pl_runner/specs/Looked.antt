-- What a turn of a runner without work came to.
use Rattle.std.specs.Prelude.{◌≡◌, ℕ, ◌+◌, List, [], ◌∷◌, ◌++◌}
use Rattle.std.specs.Prelude.{Option, None, Some, IfSome}
use Rattle.pl_ports.specs.declared.gate.Actor.{Actor}
use Rattle.pl_ports.specs.declared.gate.Actor.TheVariants.{Session, Worker}
use Rattle.pl_machine.specs.declared.entry.Command.{Command}
use Rattle.pl_machine.specs.declared.entry.Entry.{Entry}
use Rattle.pl_machine.specs.Machine.{Machine}
use Rattle.pl_machine.specs.Tickets.{start_of}
use Rattle.pl_order.specs.Order.{HasSaidBye, Work, bye_of}
use Rattle.pl_plant.specs.declared.ticket.Ticket.{Ticket}
use Rattle.pl_runner.specs.declared.looked.Looked.{Looked}
use Rattle.pl_runner.specs.declared.looked.Looked.TheVariants.{Called, Begun, Ended, Waits, NoMemory}
use Rattle.pl_runner.specs.declared.runner.Started.{Started}
use Rattle.pl_runner.specs.declared.step.Step.{Step}
use Rattle.pl_runner.specs.declared.step.Step.TheVariants as step
use Rattle.pl_runner.specs.Causes.{GrewByCall, HasCalled, HasEndedIn, MayGoOn}
use Rattle.pl_runner.specs.Closing.{job_work}

module _ {T P E R O J B : Type 0} where
  -- a fact for each of the five
  abbrev pub MatchLooked : Looked T P E R O J B → Type 0 → (Ticket T P E R O J B → J → Type 0) → Type 0 → Type 0 → Type 0 → Type 0
  MatchLooked Called called begun ended waits memory = called
  MatchLooked (Begun ticket job) called begun ended waits memory = begun ticket job
  MatchLooked Ended called begun ended waits memory = ended
  MatchLooked Waits called begun ended waits memory = waits
  MatchLooked NoMemory called begun ended waits memory = memory

  -- a fact where a call was made
  abbrev pub IfCalled : Looked T P E R O J B → Type 0 → Type 0
  IfCalled looked called = MatchLooked looked called (λ _ _. Unit {0}) (Unit {0}) (Unit {0}) (Unit {0})

  -- a fact of what was begun
  abbrev pub IfBegun : Looked T P E R O J B → (Ticket T P E R O J B → J → Type 0) → Type 0
  IfBegun looked begun = MatchLooked looked (Unit {0}) begun (Unit {0}) (Unit {0}) (Unit {0})

  -- a fact of what waits
  abbrev pub IfWaits : Looked T P E R O J B → Type 0 → Type 0
  IfWaits looked waits = MatchLooked looked (Unit {0}) (λ _ _. Unit {0}) (Unit {0}) waits (Unit {0})

  -- a fact of what ended
  abbrev pub IfEnded : Looked T P E R O J B → Type 0 → Type 0
  IfEnded looked ended = MatchLooked looked (Unit {0}) (λ _ _. Unit {0}) ended (Unit {0}) (Unit {0})

  -- one fact where memory was wanting, and one elsewhere
  abbrev pub MatchMemory : Looked T P E R O J B → Type 0 → Type 0 → Type 0
  MatchMemory looked memory other = MatchLooked looked other (λ _ _. other) other other memory

  -- the work that was begun, or none
  abbrev pub work_in : (J → O) → Looked T P E R O J B → Option (Work O)
  work_in job_value Called = None
  work_in job_value (Begun ticket job) = Some (job_work job_value ticket.slot ticket.epoch job)
  work_in job_value Ended = None
  work_in job_value Waits = None
  work_in job_value NoMemory = None

  module _ (old new : List (Entry T P E R O J B)) where
    -- how the entries grew in a turn of this actor: by the start of what was begun, by nothing where it waits, and else so that
    -- these facts hold where it called, where it ended and where memory was wanting
    abbrev pub GrewInTurn : Actor → Type 0 → Type 0 → Type 0 → Looked T P E R O J B → Type 0
    GrewInTurn actor called ended memory looked = MatchLooked looked called (λ t _. new ≡ old ++ start_of actor t.slot t.epoch ∷ []) ended (new ≡ old) memory

    -- of a worker, which never calls: by a start, or by nothing
    abbrev pub GrewAsWorker : ℕ → Looked T P E R O J B → Type 0
    GrewAsWorker worker looked = GrewInTurn (Worker worker) ⊥ (new ≡ old) (new ≡ old) looked

    -- of a session that asks for this command, which never ends: by the call, by a start, or by nothing
    abbrev pub GrewByAsking : ℕ → Command E → Type 0 → Looked T P E R O J B → Type 0
    GrewByAsking session command memory looked = GrewInTurn (Session session) (GrewByCall session command old new) ⊥ memory looked

    -- of a session whose next command is this, which never ends
    abbrev pub GrewByNext : ℕ → Option (Command E) → Looked T P E R O J B → Type 0
    GrewByNext session next looked = GrewInTurn (Session session) (IfSome next (λ command. GrewByCall session command old new)) ⊥ (new ≡ old) looked

    -- of a session that has made its commands: by its bye, or by nothing for want of memory
    abbrev pub GrewByBye : ℕ → Looked T P E R O J B → Type 0
    GrewByBye session looked = MatchLooked looked ⊥ (λ _ _. ⊥) (new ≡ old ++ bye_of (Session session) ∷ []) ⊥ (new ≡ old)

    -- of a runner without work, whose next command is this; what has left, the state says
    abbrev pub GrewWithoutWork : Machine P → Actor → Option (Command E) → ℕ → Looked T P E R O J B → Type 0
    GrewWithoutWork st actor next sessions looked = GrewInTurn actor (HasCalled actor next old new) (HasEndedIn st actor sessions old new) (new ≡ old) looked

  -- a number of calls counts on by one where a call was made
  abbrev pub CountsCall : ℕ → ℕ → Looked T P E R O J B → Type 0
  CountsCall old new looked = MatchLooked looked (new ≡ old + 1) (λ _ _. new ≡ old) (new ≡ old) (new ≡ old) (new ≡ old)

  -- the actor may go on, but where it ended: there a session has said bye
  abbrev pub GoesOnUnlessEnded : Actor → List (Entry T P E R O J B) → Looked T P E R O J B → Type 0
  GoesOnUnlessEnded actor history looked = MatchLooked looked (MayGoOn actor history) (λ _ _. MayGoOn actor history) (HasSaidBye actor history) (MayGoOn actor history) (Unit {0})

  -- the step that a turn makes
  abbrev pub IsStepOf : Looked T P E R O J B → Step → Type 0
  IsStepOf looked s = MatchLooked looked (s ≡ step.Moved) (λ _ _. s ≡ step.Moved) (s ≡ step.Ended) (s ≡ step.Waits) (s ≡ step.NoMemory)

  -- what was begun is taken up as what is under way
  abbrev pub TakesUp : Option (Started T P E R O J B) → Option (Started T P E R O J B) → Looked T P E R O J B → Type 0
  TakesUp old new looked = MatchLooked looked (new ≡ old) (λ t job. new ≡ Some (record { slot = t.slot; epoch = t.epoch; job = job })) (new ≡ old) (new ≡ old) (new ≡ old)
