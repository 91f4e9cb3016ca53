-- When a runner, a session or a worker on its way, is in order.
use Rattle.std.specs.Prelude.{◌≡◌, ℕ, ◌==◌, List, [], ◌∷◌, ◌++◌, length, filter, slice_get, MatchOption}
use Rattle.std.specs.Prelude.{Option, None, Some}
use Rattle.std.specs.List.{filter_map}
use mathlib.Core.List.{IsPrefix}
use Rattle.pl_tech.specs.Technology.{Meaning}
use Rattle.pl_ports.specs.declared.gate.Actor.{Actor}
use Rattle.pl_ports.specs.declared.gate.Actor.TheVariants.{Session, Worker}
use Rattle.pl_machine.specs.declared.entry.Command.{Command}
use Rattle.pl_machine.specs.declared.entry.Command.TheVariants.{Export}
use Rattle.pl_machine.specs.declared.entry.What.TheVariants.{Bye}
use Rattle.pl_machine.specs.declared.entry.Entry.{Entry}
use Rattle.pl_machine.specs.Machine.{IsActor, pending_of}
use Rattle.pl_machine.specs.History.{replay, IsLegal}
use Rattle.pl_machine.specs.Startable.{IsLeast}
use Rattle.pl_machine.specs.Tickets.{StandsIn, number_of}
use Rattle.pl_session.specs.Complete.{command_of, EachEntry, IfStart}

-- work under way: a slot that was started, its epoch at the start, and the result that its job makes
pub record Work (O : Type 0) : Type 0 where
  pub slot : ℕ
  pub epoch : ℕ
  pub value : O

module _ {T P E R O J B : Type 0} where
  -- the number of an entry's actor
  abbrev pub number_in : Entry T P E R O J B → ℕ
  number_in e = number_of e.actor

  -- the entries of an actor, in order
  abbrev pub entries_of : Actor → List (Entry T P E R O J B) → List (Entry T P E R O J B)
  entries_of actor history = filter (λ e. number_in e == number_of actor) history

  -- the commands of the calls among these entries, in order
  abbrev pub calls_in : List (Entry T P E R O J B) → List (Command E)
  calls_in entries = filter_map (λ e. command_of e.what) entries

  -- the bye of an actor
  abbrev pub bye_of : Actor → Entry T P E R O J B
  bye_of actor = record { actor = actor; what = Bye }

  -- the first of these commands that the actor has not called
  abbrev pub next_command : List (Command E) → Actor → List (Entry T P E R O J B) → Option (Command E)
  next_command commands actor history = slice_get commands (length (calls_in (entries_of actor history)))

  -- of a session, that its next command is an export
  abbrev pub IsExportNext : List (Command E) → Actor → List (Entry T P E R O J B) → Type 0
  IsExportNext commands (Session i) history = next_command commands (Session i) history ≡ Some Export
  IsExportNext commands (Worker k) history = Unit {0}

  -- a session has said bye; of a worker nothing is asked
  abbrev pub HasSaidBye : Actor → List (Entry T P E R O J B) → Type 0
  HasSaidBye (Session i) history = (before after : List (Entry T P E R O J B)) × (history ≡ before ++ bye_of (Session i) ∷ after)
  HasSaidBye (Worker k) history = Unit {0}

  -- a runner is in order: it has this actor and these commands, has seen this beginning of the history, in which all its entries stand,
  -- and has this work under way, or none
  pub record IsInOrder (m : Meaning P E R O) (commands : List (Command E)) (actor : Actor) (seen : List (Entry T P E R O J B)) (work : Option (Work O)) : Type 0 where
    pub actor_is : IsActor actor
    pub legal : IsLegal m seen
    -- its calls are its first commands, each once, in order
    pub calls : IsPrefix (calls_in (entries_of actor seen)) commands
    -- its work is a start that stands in the history; without work it has nothing pending
    pub work_is : MatchOption work (pending_of (replay m seen) actor ≡ None) (λ w. StandsIn m seen actor w.slot w.epoch w.value)
    -- each of its starts takes the least slot that may be started there
    pub least : EachEntry seen (λ before e. e.actor ≡ actor → IfStart e.what (λ slot. IsLeast m (replay m before) slot))
    -- a session starts a slot only where its next command is an export
    pub due : EachEntry seen (λ before e. e.actor ≡ actor → IfStart e.what (λ slot. IsExportNext commands actor before))
    -- it says bye only after all its commands, and makes no entry after it
    pub bye : (before after : List (Entry T P E R O J B)) → seen ≡ before ++ bye_of actor ∷ after → (calls_in (entries_of actor before) ≡ commands) × (entries_of actor after ≡ [])
