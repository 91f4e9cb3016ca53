-- When a runner may start, and what it leaves where it has ended.
use Rattle.std.specs.Prelude.{◌≡◌, ℕ, List, [], None, Result, OnOk}
use Rattle.pl_units.specs.declared.NoMemory.{NoMemory}
use Rattle.pl_tech.specs.Technology.{Meaning}
use Rattle.pl_ports.specs.declared.gate.Actor.{Actor}
use Rattle.pl_turn.specs.declared.turned.Turned.{Ghosts}
use Rattle.pl_turn.specs.declared.lock.TurnLock.{TurnLock}
use Rattle.pl_turn.specs.declared.lock.Pass.{Pass}
use Rattle.pl_turn.specs.Passes.{IsOf, joined, number, own, seen, splits}
use Rattle.pl_epochs.specs.declared.seats.TableName.{TableName}
use Rattle.pl_machine.specs.declared.entry.Command.{Command}
use Rattle.pl_machine.specs.declared.entry.Entry.{Entry}
use Rattle.pl_machine.specs.Tickets.{number_of}
use Rattle.pl_plant.specs.declared.plant.Plant.{Plant}
use Rattle.pl_session.specs.Complete.{runs_of}
use Rattle.pl_order.specs.Order.{HasSaidBye, IsInOrder, entries_of}
use Rattle.pl_runner.specs.declared.runner.Runner.{Runner}
use Rattle.pl_runner.specs.Causes.{MayGoOn}
use Rattle.pl_runner.specs.Running.{IsAt, IsReady, commands_of, known_by, seen_by}
use Rattle.pl_runner.specs.Stepping.{Keeps}

module _ {T P E R O J B H : Type 0} {g : Ghosts (Plant T P E R O J B) (Entry T P E R O J B) H} (m : Meaning P E R O) where
  -- a runner that may be run
  abbrev pub MayStart : (J → O) → (B → ℕ) → TurnLock (Plant T P E R O J B) (Entry T P E R O J B) H → TableName → Runner T P E R O J B (Entry T P E R O J B) H g → Type 0
  MayStart job_value runs lock table r = IsReady m job_value runs lock table r × MayGoOn r.actor (seen_by r)

  -- a runner after a whole run; after Ok it is in order, has nothing under way, and a session has said bye
  pub record HasGone (job_value : J → O) (runs : B → ℕ) (lock : TurnLock (Plant T P E R O J B) (Entry T P E R O J B) H) (table : TableName) (old : Runner T P E R O J B (Entry T P E R O J B) H g) (went : Result (Unit {0}) NoMemory) (new : Runner T P E R O J B (Entry T P E R O J B) H g) : Type 0 where
    pub keeps : Keeps old new
    pub at : IsAt lock table new
    pub ready : OnOk went (IsReady m job_value runs lock table new)
    pub idle : OnOk went (new.started ≡ None)
    pub said : OnOk went (HasSaidBye new.actor (seen_by new))

  -- a pass of this lock, of a runner that has ended with these commands: it is in order in what it has seen, has nothing under way,
  -- has made no entry that it has not seen, has run a job for each of its starts, and a session has said bye
  pub record HasEndedWith (lock : TurnLock (Plant T P E R O J B) (Entry T P E R O J B) H) (commands : List (Command E)) (actor : Actor) (pass : Pass (Plant T P E R O J B) (Entry T P E R O J B) H g) (runs : ℕ) : Type 0 where
    pub lock_is : IsOf lock pass
    pub number_is : number pass ≡ number_of actor
    pub joined_are : joined pass ≡ []
    pub order : IsInOrder m commands actor (seen pass) None
    pub own_are : own pass ≡ entries_of actor (seen pass)
    pub runs_are : runs ≡ runs_of (own pass)
    pub bye : HasSaidBye actor (seen pass)

  -- what a runner leaves that has ended, with its actor and its commands
  abbrev pub HasComeBack : TurnLock (Plant T P E R O J B) (Entry T P E R O J B) H → Runner T P E R O J B (Entry T P E R O J B) H g → Actor → Pass (Plant T P E R O J B) (Entry T P E R O J B) H g → ℕ → Type 0
  HasComeBack lock r actor pass runs = (actor ≡ r.actor) × HasEndedWith lock (commands_of r) actor pass runs × (splits pass ≡ (known_by r).splits)
