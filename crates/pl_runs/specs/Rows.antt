-- Whole lists of a run: its script, its crews and its accounts.
use Rattle.std.specs.Prelude.{◌≡◌, ℕ, ◌+◌, ◌<◌, ◌≤◌, List, [], ◌++◌, map, All, MatchOption, Option}
use Rattle.std.specs.declared.sync.Arc.{Arc}
use Rattle.std.specs.Arc.{arc_value}
use Rattle.std.specs.declared.vec.Vec.{Vec}
use Rattle.pl_tech.specs.Technology.{Meaning}
use Rattle.pl_ports.specs.declared.gate.Actor.{Actor}
use Rattle.pl_turn.specs.declared.turned.Turned.{Ghosts}
use Rattle.pl_turn.specs.declared.lock.TurnLock.{TurnLock}
use Rattle.pl_turn.specs.declared.lock.Pass.{Pass}
use Rattle.pl_turn.specs.Passes.{number}
use Rattle.pl_epochs.specs.declared.seats.TableName.{TableName}
use Rattle.pl_epochs.specs.Words.{table_of}
use Rattle.pl_machine.specs.declared.entry.Command.{Command}
use Rattle.pl_machine.specs.declared.entry.Entry.{Entry}
use Rattle.pl_order.specs.Ended.{commands_for}
use Rattle.pl_plant.specs.declared.plant.Plant.{Plant}
use Rattle.pl_runner.specs.Closing.{epochs_of}
use Rattle.pl_runs.specs.declared.crew.Account.{Account}
use Rattle.pl_runs.specs.declared.crew.Crew.{Crew}
use Rattle.pl_runs.specs.declared.crew.Desk.{Desk}
use Rattle.pl_runs.specs.Places.{Place, place_of, place_of_some}
use Rattle.pl_runs.specs.Script.{commands_at}
use Rattle.pl_runs.specs.Seats.{AreSeated, HasSeat, IsSeated}
use Rattle.pl_runs.specs.Went.{HasComeBack, HasEndedWith, MayStart}

-- the commands of each item
abbrev pub commands_in : {E Z A : Type 0} → List (Vec (Arc (Command E) Z) A) → List (List (Command E))
commands_in sessions = map (λ s. map arc_value s.items) sessions

-- the commands of each session
abbrev pub script_of : {E Z A : Type 0} → List (Vec (Arc (Command E) Z) A) → ℕ → List (Command E)
script_of sessions = commands_at (commands_in sessions)

-- nobody has this number: a session without a command, or one above those of so many workers
abbrev pub HasNobody : {E : Type 0} → List (Command E) → ℕ → ℕ → Type 0
HasNobody commands workers n = (n ≤ 16 → commands ≡ []) × (16 < n → 16 + workers < n)

module _ {T P E R O J B H : Type 0} {g : Ghosts (Plant T P E R O J B) (Entry T P E R O J B) H} where
  -- the place of the first pass, where there is one, those of the accounts, and those of the idle passes
  abbrev pub places_in : Option (Pass (Plant T P E R O J B) (Entry T P E R O J B) H g) → List (Account T P E R O J B (Entry T P E R O J B) H g) → List (Pass (Plant T P E R O J B) (Entry T P E R O J B) H g) → List (Place (Entry T P E R O J B))
  places_in first accounts idle = (place_of_some first ++ map (λ a. place_of a.pass) accounts) ++ map (λ p. place_of p) idle

  -- each account is of a runner that has ended with the commands of its actor
  abbrev pub HaveEnded : Meaning P E R O → TurnLock (Plant T P E R O J B) (Entry T P E R O J B) H → (Actor → List (Command E)) → List (Account T P E R O J B (Entry T P E R O J B) H g) → Type 0
  HaveEnded m lock commands accounts = All (λ a. HasEndedWith m lock (commands a.actor) a.actor a.pass a.runs) accounts

  -- what holds of all commands and workers with which these took part, where each account is of a runner that has ended with its own
  abbrev pub WhereAllEnded : Meaning P E R O → TurnLock (Plant T P E R O J B) (Entry T P E R O J B) H → List (Account T P E R O J B (Entry T P E R O J B) H g) → List (Pass (Plant T P E R O J B) (Entry T P E R O J B) H g)
      → ((ℕ → List (Command E)) → ℕ → Type 0) → Type 0
  WhereAllEnded m lock accounts idle F = (commands : ℕ → List (Command E)) (workers : ℕ) → AreSeated commands workers 25 (map (λ a. a.actor) accounts) (map (λ p. number p) idle)
      → HaveEnded m lock (commands_for commands) accounts → F commands workers

module _ {T P E R O J B G H : Type 0} {g : Ghosts (Plant T P E R O J B) (Entry T P E R O J B) H} (m : Meaning P E R O) (job_value : J → O) (runs : B → ℕ) where
  -- the runner of a crew may be run at the lock and the table of this desk, with the commands of its actor
  abbrev pub IsCrewOf : Desk T G P E R O J B (Entry T P E R O J B) H → (Actor → List (Command E)) → Crew T G P E R O J B (Entry T P E R O J B) H g → Type 0
  IsCrewOf desk commands c = IsSeated m job_value runs desk.lock.now (table_of desk.epochs.now) (commands c.actor) c.actor c.runner

  -- the same of each crew, which runs at that lock and that table
  abbrev pub AreCrewsOf : Desk T G P E R O J B (Entry T P E R O J B) H → (Actor → List (Command E)) → List (Crew T G P E R O J B (Entry T P E R O J B) H g) → Type 0
  AreCrewsOf desk commands crews = All (λ c. HasSeat m job_value runs desk.lock.now (table_of desk.epochs.now) (commands c.actor) c.lock.now (table_of c.epochs.now) c.actor c.runner) crews

module _ {T P E R O J B G H : Type 0} {g : Ghosts (Plant T P E R O J B) (Entry T P E R O J B) H} (m : Meaning P E R O) where
  -- the account is what the crew's runner leaves where it has ended
  abbrev pub IsAccountOf : Crew T G P E R O J B (Entry T P E R O J B) H g → Account T P E R O J B (Entry T P E R O J B) H g → Type 0
  IsAccountOf c a = MatchOption c.runner ⊥ (λ r. HasComeBack m c.lock.now r a.actor a.pass a.runs)

module _ {T P E R O J B G : Type 0} {g : Ghosts (Plant T P E R O J B) (Entry T P E R O J B) TableName} (m : Meaning P E R O) (job_value : J → O) (runs : B → ℕ) where
  -- the runner of a crew may be run at the crew's lock, whose plant has its epochs at the crew's table
  abbrev pub MayGo : Crew T G P E R O J B (Entry T P E R O J B) TableName g → Type 0
  MayGo c = (epochs_of c.lock.now ≡ table_of c.epochs.now) × MatchOption c.runner ⊥ (λ r. (r.actor ≡ c.actor) × MayStart m job_value runs c.lock.now (table_of c.epochs.now) r)
