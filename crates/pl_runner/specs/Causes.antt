-- What a runner without work adds to a history, and why it waits.
use Rattle.std.specs.Prelude.{◌≡◌, ◌⊎◌, ℕ, ◌<◌, List, [], ◌∷◌, ◌++◌, length}
use Rattle.std.specs.Prelude.{Option, Some}
use Rattle.pl_tech.specs.Technology.{Meaning}
use Rattle.pl_ports.specs.declared.gate.Actor.{Actor}
use Rattle.pl_ports.specs.declared.gate.Actor.TheVariants.{Session, Worker}
use Rattle.pl_machine.specs.declared.entry.Command.{Command}
use Rattle.pl_machine.specs.declared.entry.Reply.{Reply}
use Rattle.pl_machine.specs.declared.entry.What.TheVariants.{Call}
use Rattle.pl_machine.specs.declared.entry.Entry.{Entry}
use Rattle.pl_machine.specs.Machine.{Machine}
use Rattle.pl_machine.specs.Startable.{HasNone, AllLeft}
use Rattle.pl_machine.specs.Calls.{WaitsForCalls, WaitsForSlot}
use Rattle.pl_order.specs.Order.{HasSaidBye, bye_of}

-- the new entries are the old ones and one more, this call of the session with some reply
abbrev pub GrewByCall : {T P E R O J B : Type 0} → ℕ → Command E → List (Entry T P E R O J B) → List (Entry T P E R O J B) → Type 0
GrewByCall {T} {P} {E} {R} {O} {J} {B} session command old new =
    (reply : Reply T P E R O J B) × (new ≡ old ++ record { actor = Session session; what = Call command reply } ∷ [])

module _ {P E R O : Type 0} (m : Meaning P E R O) where
  -- the command is an export that waits for a slot
  abbrev pub LacksResults : Machine P → Command E → Type 0
  LacksResults st command = (slot : ℕ) × WaitsForSlot m st command slot

  -- a session waits: for the calls of another, or for results of which none may be started
  abbrev pub SessionWaits : Machine P → Command E → Type 0
  SessionWaits st command = ((made : ℕ) × WaitsForCalls st command made) ⊎ (LacksResults st command × HasNone m st)

  -- a worker waits: a session has not left, and no slot may be started
  abbrev pub WorkerWaits : Machine P → ℕ → Type 0
  WorkerWaits st sessions = (¬ AllLeft st sessions) × HasNone m st

  -- a runner waits: a session whose next command is this, or a worker
  abbrev pub RunnerWaits : Machine P → Actor → Option (Command E) → ℕ → Type 0
  RunnerWaits st (Session i) next sessions = (command : Command E) × (next ≡ Some command) × SessionWaits st command
  RunnerWaits st (Worker k) next sessions = WorkerWaits st sessions

module _ {T P E R O J B : Type 0} where
  -- of a session, that it has not said bye
  abbrev pub MayGoOn : Actor → List (Entry T P E R O J B) → Type 0
  MayGoOn (Session i) history = ¬ HasSaidBye (Session i) history
  MayGoOn (Worker k) history = Unit {0}

  -- the actor has called its next command, which is this
  abbrev pub HasCalled : Actor → Option (Command E) → List (Entry T P E R O J B) → List (Entry T P E R O J B) → Type 0
  HasCalled (Session i) next old new = (command : Command E) × (next ≡ Some command) × GrewByCall i command old new
  HasCalled (Worker k) next old new = ⊥

  -- the actor has ended: a session has said bye; a worker has added nothing, and each of these sessions has left
  abbrev pub HasEndedIn : Machine P → Actor → ℕ → List (Entry T P E R O J B) → List (Entry T P E R O J B) → Type 0
  HasEndedIn st (Session i) sessions old new = new ≡ old ++ bye_of (Session i) ∷ []
  HasEndedIn st (Worker k) sessions old new = (new ≡ old) × AllLeft st sessions

-- of a session, that it has not made all of these commands
abbrev pub HasNext : {E : Type 0} → Actor → ℕ → List (Command E) → Type 0
HasNext (Session i) made commands = made < length commands
HasNext (Worker k) made commands = Unit {0}

-- of a worker, that there are none
abbrev pub HasNoneAsWorker : {E : Type 0} → Actor → List (Command E) → Type 0
HasNoneAsWorker (Session i) commands = Unit {0}
HasNoneAsWorker (Worker k) commands = commands ≡ []

-- of a worker, that each of these sessions has left
abbrev pub SeesAllLeft : {P : Type 0} → Machine P → Actor → ℕ → Type 0
SeesAllLeft st (Session i) sessions = Unit {0}
SeesAllLeft st (Worker k) sessions = AllLeft st sessions

abbrev pub IsSession : Actor → Type 0
IsSession (Session i) = Unit {0}
IsSession (Worker k) = ⊥

abbrev pub IsWorker : Actor → Type 0
IsWorker (Session i) = ⊥
IsWorker (Worker k) = Unit {0}
