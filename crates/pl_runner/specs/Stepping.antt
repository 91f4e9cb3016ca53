-- What a step of a runner came to.
use Rattle.std.specs.Prelude.{◌≡◌, ◌⊎◌, ℕ, ◌+◌, ◌<◌, List, [], ◌∷◌, ◌++◌, MatchOption}
use Rattle.std.specs.Prelude.{Option, None}
use mathlib.Core.List.{IsPrefix}
use Rattle.pl_tech.specs.Technology.{Meaning}
use Rattle.pl_ports.specs.declared.gate.Actor.{Actor}
use Rattle.pl_turn.specs.declared.turned.Turned.{Ghosts}
use Rattle.pl_machine.specs.declared.entry.Entry.{Entry}
use Rattle.pl_machine.specs.declared.entry.What.TheVariants.{Finish, Late}
use Rattle.pl_machine.specs.History.{replay}
use Rattle.pl_machine.specs.Tickets.{start_of}
use Rattle.pl_plant.specs.declared.plant.Plant.{Plant}
use Rattle.pl_order.specs.Order.{HasSaidBye, next_command}
use Rattle.pl_runner.specs.declared.runner.Started.{Started}
use Rattle.pl_runner.specs.declared.runner.Runner.{Runner}
use Rattle.pl_runner.specs.declared.step.Step.{Step}
use Rattle.pl_runner.specs.declared.step.Step.TheVariants.{Moved, Waits, Ended, NoMemory}
use Rattle.pl_runner.specs.Causes.{HasCalled, HasEndedIn, MayGoOn, RunnerWaits}
use Rattle.pl_runner.specs.Running.{known_by, seen_by, own_of, commands_of}

-- a fact for each of the four
abbrev pub MatchStep : Step → Type 0 → Type 0 → Type 0 → Type 0 → Type 0
MatchStep Moved moved waits ended memory = moved
MatchStep Waits moved waits ended memory = waits
MatchStep Ended moved waits ended memory = ended
MatchStep NoMemory moved waits ended memory = memory

-- a fact where memory was not wanting
abbrev pub UnlessMemory : Step → Type 0 → Type 0
UnlessMemory step fact = MatchStep step fact fact fact (Unit {0})

module _ {T P E R O J B : Type 0} where
  -- an entry closes what the actor has started: as done, or as late at an epoch above that of the start
  abbrev pub IsClosing : Actor → Started T P E R O J B → Entry T P E R O J B → Type 0
  IsClosing actor s e = (e ≡ record { actor = actor; what = Finish s.slot s.epoch }) ⊎ ((now : ℕ) × (s.epoch < now) × (e ≡ record { actor = actor; what = Late s.slot s.epoch now }))

  -- exactly one entry came to these, and it closes what was started
  abbrev pub HasClosed : Actor → Started T P E R O J B → List (Entry T P E R O J B) → List (Entry T P E R O J B) → Type 0
  HasClosed actor s old new = (e : Entry T P E R O J B) × IsClosing actor s e × (new ≡ old ++ e ∷ [])

  -- exactly one entry came to these: the start of what is started now
  abbrev pub HasStarted : Actor → Option (Started T P E R O J B) → List (Entry T P E R O J B) → List (Entry T P E R O J B) → Type 0
  HasStarted actor started old new = MatchOption started ⊥ (λ s. new ≡ old ++ start_of actor s.slot s.epoch ∷ [])

module _ {T P E R O J B H : Type 0} {g : Ghosts (Plant T P E R O J B) (Entry T P E R O J B) H} where
  -- what no step of a runner changes; and it has seen at least what it had
  pub record Keeps (old new : Runner T P E R O J B (Entry T P E R O J B) H g) : Type 0 where
    pub actor : new.actor ≡ old.actor
    pub commands : commands_of new ≡ commands_of old
    pub number : (known_by new).number ≡ (known_by old).number
    pub joined : (known_by new).joined ≡ (known_by old).joined
    pub splits : (known_by new).splits ≡ (known_by old).splits
    pub seen : IsPrefix (seen_by old) (seen_by new)

  -- a session that may go on may still, but after a step that ended: then it has said bye
  abbrev pub MayGoOnUnlessEnded : Step → Runner T P E R O J B (Entry T P E R O J B) H g → Type 0
  MayGoOnUnlessEnded step r = MatchStep step (MayGoOn r.actor (seen_by r)) (MayGoOn r.actor (seen_by r)) (HasSaidBye r.actor (seen_by r)) (Unit {0})

  -- a step that moved: what was under way is closed; else the next call is made, or a slot is started
  abbrev pub HasMoved : Runner T P E R O J B (Entry T P E R O J B) H g → Runner T P E R O J B (Entry T P E R O J B) H g → Type 0
  HasMoved old new = MatchOption old.started
      (HasCalled old.actor (next_command (commands_of old) old.actor (seen_by old)) (own_of old) (own_of new) ⊎ HasStarted old.actor new.started (own_of old) (own_of new))
      (λ s. HasClosed old.actor s (own_of old) (own_of new))

  module _ (m : Meaning P E R O) (sessions : ℕ) where
    -- a step that waits: nothing is under way, and in what was seen then there is nothing to do
    abbrev pub HasWaited : Runner T P E R O J B (Entry T P E R O J B) H g → Runner T P E R O J B (Entry T P E R O J B) H g → Type 0
    HasWaited old new = (old.started ≡ None) × (own_of new ≡ own_of old) × RunnerWaits m (replay m (seen_by new)) old.actor (next_command (commands_of old) old.actor (seen_by old)) sessions

    -- a step that ended: nothing is under way; a session without a next command has said bye, or all sessions had left
    abbrev pub HasCome : Runner T P E R O J B (Entry T P E R O J B) H g → Runner T P E R O J B (Entry T P E R O J B) H g → Type 0
    HasCome old new = (old.started ≡ None) × (next_command (commands_of old) old.actor (seen_by old) ≡ None) × HasEndedIn (replay m (seen_by new)) old.actor sessions (own_of old) (own_of new)

  -- jobs that were stopped: at most one more, only where one was under way, and after a late entry where the step moved
  abbrev pub CountsStopped : Step → Runner T P E R O J B (Entry T P E R O J B) H g → Runner T P E R O J B (Entry T P E R O J B) H g → Type 0
  CountsStopped step old new = (new.stopped ≡ old.stopped) ⊎ MatchOption old.started ⊥ (λ s. (new.stopped ≡ old.stopped + 1) × MatchStep step
      ((now : ℕ) × (own_of new ≡ own_of old ++ record { actor = old.actor; what = Late s.slot s.epoch now } ∷ [])) ⊥ ⊥ (Unit {0}))
