-- What stands of a session that is alone, before each of its commands.
use Rattle.std.specs.Prelude.{◌≡◌, ℕ, ◌≤◌, false, not, List, length, take, count_by}
use Rattle.std.specs.Prelude.{None}
use Rattle.pl_tech.specs.Technology.{Meaning}
use Rattle.pl_ports.specs.declared.gate.Actor.{Actor}
use Rattle.pl_machine.specs.declared.entry.Command.{Command}
use Rattle.pl_machine.specs.declared.entry.Command.TheVariants.{Export}
use Rattle.pl_machine.specs.declared.entry.Entry.{Entry}
use Rattle.pl_machine.specs.Machine.{Machine, is_started, is_done, mode_of, pending_of, calls_of, has_left}
use Rattle.pl_machine.specs.History.{replay, IsLegal}
use Rattle.pl_machine.specs.Startable.{IsLeast, HasNone}
use Rattle.pl_plant.specs.Planted.{Planted}
use Rattle.pl_session.specs.Complete.{commands_by, byes_by, runs_of, EachEntry, IfStart, IsDue, TakesPart}
use Rattle.pl_session.specs.Alone.{first_alone}

module _ {P : Type 0} where
  -- how many slots are not done
  unfoldable pub undone_in : Machine P → ℕ
  undone_in st = count_by (λ mode. not (is_done mode)) st.modes

  -- session 1 has made at most so many calls and may make one, nobody has anything pending, and no slot is started
  pub record IsFree (st : Machine P) (made : ℕ) : Type 0 where
    pub modes_long : length st.modes ≡ 100
    pub pending_long : length st.pending ≡ 24
    pub stays : has_left st 1 ≡ false
    pub idle : (actor : Actor) → pending_of st actor ≡ None
    pub unstarted : (k : ℕ) → is_started (mode_of st k) ≡ false
    pub few : calls_of st 1 ≤ made

module _ {T P E R O J B : Type 0} where
  -- session 1 has made the first `made` of its commands, and has not left
  pub record IsUnderWay (m : Meaning P E R O) (commands : List (Command E)) (made : ℕ) (history : List (Entry T P E R O J B)) : Type 0 where
    pub legal : IsLegal m history
    pub calls : (i : ℕ) → commands_by i history ≡ first_alone (take made commands) i
    pub byes : (i : ℕ) → byes_by i history ≡ 0
    pub actors : EachEntry history (λ before e. TakesPart (first_alone commands) 0 e.actor)
    pub least : EachEntry history (λ before e. IfStart e.what (λ slot. IsLeast m (replay m before) slot))
    pub due : EachEntry history (λ before e. IfStart e.what (λ slot. IsDue (first_alone commands) before e.actor))
    pub free : IsFree (replay m history) made

  -- the plant is as its journal says, in which the session is under way, and each start was run
  pub record IsOnItsWay (m : Meaning P E R O) (commands : List (Command E)) (made : ℕ) (plant : Planted T P E R O J B) (runs : ℕ) : Type 0 where
    pub replayed : plant.state ≡ replay m plant.journal
    pub counted : runs ≡ runs_of plant.journal
    pub way : IsUnderWay m commands made plant.journal

-- an export has no slot to start before it
abbrev pub LacksNothing : {P E R O : Type 0} → Meaning P E R O → Machine P → Command E → Type 0
LacksNothing m st Export = HasNone m st
LacksNothing m st command = Unit {0}
