-- What a runner is on its way, when it is in order, and what a step of it came to.
use Rattle.std.specs.Prelude.{◌≡◌, ℕ, ◌+◌, ◌-◌, ◌<◌, ◌≤◌, ◌^◌, List, [], length, map, All, MatchOption, IfSome}
use Rattle.std.specs.Prelude.{Option, None, Some}
use Rattle.std.specs.Option.{option_map, unwrap_or}
use Rattle.std.specs.Arc.{arc_value}
use Rattle.pl_tech.specs.Technology.{Meaning}
use Rattle.pl_turn.specs.declared.turned.Turned.{Ghosts}
use Rattle.pl_turn.specs.declared.view.View.{View}
use Rattle.pl_turn.specs.declared.lock.TurnLock.{TurnLock}
use Rattle.pl_turn.specs.Passes.{IsOf, known}
use Rattle.pl_turn.specs.Steps.{spent_view}
use Rattle.pl_epochs.specs.declared.seats.TableName.{TableName}
use Rattle.pl_epochs.specs.Words.{reads_at}
use Rattle.pl_machine.specs.declared.entry.Command.{Command}
use Rattle.pl_machine.specs.declared.entry.Entry.{Entry}
use Rattle.pl_machine.specs.Calls.{NamesSession}
use Rattle.pl_machine.specs.Tickets.{number_of}
use Rattle.pl_plant.specs.declared.plant.Plant.{Plant}
use Rattle.pl_session.specs.Complete.{runs_of}
use Rattle.pl_order.specs.Order.{Work, IsInOrder, calls_in}
use Rattle.pl_ports.specs.declared.gate.Actor.{Actor}
use Rattle.pl_epochs.specs.declared.seats.ReaderSeat.{ReaderSeat}
use Rattle.pl_turn.specs.declared.lock.Pass.{Pass}
use Rattle.pl_runner.specs.declared.runner.Started.{Started}
use Rattle.pl_runner.specs.declared.runner.Runner.{Runner}
use Rattle.pl_runner.specs.Causes.{HasNext, HasNoneAsWorker}
use Rattle.pl_runner.specs.Closing.{job_work}

-- how many jobs these are, one or none
abbrev pub jobs_in : {T P E R O J B : Type 0} → Option (Started T P E R O J B) → ℕ
jobs_in None = 0
jobs_in (Some started) = 1

module _ {T P E R O J B H : Type 0} {g : Ghosts (Plant T P E R O J B) (Entry T P E R O J B) H} where
  -- who it is
  abbrev pub actor_of : Runner T P E R O J B (Entry T P E R O J B) H g → Actor
  actor_of r = r.actor

  -- what its pass knows
  abbrev pub known_by : Runner T P E R O J B (Entry T P E R O J B) H g → View (Entry T P E R O J B) H
  known_by r = unwrap_or (option_map (λ h. known h.pass) r.hands) spent_view

  -- the history as far as it has seen it
  abbrev pub seen_by : Runner T P E R O J B (Entry T P E R O J B) H g → List (Entry T P E R O J B)
  seen_by r = (known_by r).seen

  -- the entries that it made
  abbrev pub own_of : Runner T P E R O J B (Entry T P E R O J B) H g → List (Entry T P E R O J B)
  own_of r = (known_by r).own

  -- its commands
  abbrev pub commands_of : Runner T P E R O J B (Entry T P E R O J B) H g → List (Command E)
  commands_of r = map arc_value r.commands.items

  -- how many jobs were run at its bench
  abbrev pub runs_at : (B → ℕ) → Runner T P E R O J B (Entry T P E R O J B) H g → ℕ
  runs_at runs r = runs r.bench

  -- how many of its jobs were stopped
  abbrev pub stopped_of : Runner T P E R O J B (Entry T P E R O J B) H g → ℕ
  stopped_of r = r.stopped

  -- it has no job under way
  abbrev pub IsIdle : Runner T P E R O J B (Entry T P E R O J B) H g → Type 0
  IsIdle r = r.started ≡ None

  -- it has a job under way
  abbrev pub IsBusy : Runner T P E R O J B (Entry T P E R O J B) H g → Type 0
  IsBusy r = MatchOption r.started ⊥ (λ _. Unit {0})

  -- the work that it has under way, whose value its job makes
  abbrev pub work_of : (J → O) → Runner T P E R O J B (Entry T P E R O J B) H g → Option (Work O)
  work_of job_value r = option_map (λ s. job_work job_value s.slot s.epoch s.job) r.started

  -- its pass is one of this lock, and its reader reads at this table
  abbrev pub IsAt : TurnLock (Plant T P E R O J B) (Entry T P E R O J B) H → TableName → Runner T P E R O J B (Entry T P E R O J B) H g → Type 0
  IsAt lock table r = MatchOption r.hands ⊥ (λ h. IsOf lock h.pass × (reads_at h.reader ≡ table))

  -- it has what it takes turns with
  abbrev pub HasHands : Runner T P E R O J B (Entry T P E R O J B) H g → Type 0
  HasHands r = MatchOption r.hands ⊥ (λ _. Unit {0})

  -- the runner is in order: at this lock and this table, with the number of its actor and without joined passes. It has made its
  -- first commands, and has run a job for each of its starts but the one under way. It is in order in what it has seen
  pub record IsReady (m : Meaning P E R O) (job_value : J → O) (runs : B → ℕ) (lock : TurnLock (Plant T P E R O J B) (Entry T P E R O J B) H) (table : TableName) (r : Runner T P E R O J B (Entry T P E R O J B) H g) : Type 0 where
    pub at : IsAt lock table r
    pub number : (known_by r).number ≡ number_of r.actor
    pub joined : (known_by r).joined ≡ []
    pub few : length r.commands.items ≤ 2 ^ 32 - 1
    pub named : All NamesSession (commands_of r)
    pub plain : HasNoneAsWorker r.actor (commands_of r)
    pub made : length (calls_in (own_of r)) ≡ r.made
    pub within : r.made ≤ length r.commands.items
    pub order : IsInOrder m (commands_of r) r.actor (seen_by r) (work_of job_value r)
    pub counted : runs r.bench + jobs_in r.started ≡ runs_of (own_of r)
    -- no more jobs were stopped than were run
    pub few_stopped : r.stopped ≤ runs r.bench
    -- a session has a command left where a job is under way
    pub due : IfSome r.started (λ _. HasNext r.actor r.made (commands_of r))
    -- what it has seen has fewer than 2^64 entries where a job is under way, so its bench has room for one run more
    pub short : IfSome r.started (λ _. length (seen_by r) < 2 ^ 64)

  -- the runner is in order wherever its pass is one of the lock, and its reader reads at the table
  abbrev pub IsReadyWherever : Meaning P E R O → (J → O) → (B → ℕ) → Pass (Plant T P E R O J B) (Entry T P E R O J B) H g → ReaderSeat → Runner T P E R O J B (Entry T P E R O J B) H g → Type 0
  IsReadyWherever m job_value runs pass reader r =
      (lock : TurnLock (Plant T P E R O J B) (Entry T P E R O J B) H) (table : TableName) → IsOf lock pass → reads_at reader ≡ table → IsReady m job_value runs lock table r

  -- the pass is one of each lock that the runner is at
  abbrev pub IsOfItsLock : Pass (Plant T P E R O J B) (Entry T P E R O J B) H g → Runner T P E R O J B (Entry T P E R O J B) H g → Type 0
  IsOfItsLock pass r = (lock : TurnLock (Plant T P E R O J B) (Entry T P E R O J B) H) (table : TableName) → IsAt lock table r → IsOf lock pass
