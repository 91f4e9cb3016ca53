-- The machine: its state, which steps it has, and the state after each.
use Rattle.std.specs.Prelude.{◌≡◌, ℕ, ◌+◌, ◌-◌, ◌<◌, ◌≤◌, Bool, true, false, not, ◌&&◌, ◌⊎◌, if◌then◌else◌, List, length, slice_set, slice_index_or, count_by, replicate, sum, All, ◌^◌}
use Rattle.std.specs.Prelude.{Option, None, Some}
use Rattle.pl_tech.specs.Technology.{Meaning}
use Rattle.pl_tech.specs.Slots.{has}
use Rattle.pl_ports.specs.declared.gate.Actor.{Actor}
use Rattle.pl_ports.specs.declared.gate.Actor.TheVariants.{Session, Worker}
use Rattle.pl_machine.specs.declared.entry.Mode.{Mode}
use Rattle.pl_machine.specs.declared.entry.Mode.TheVariants.{Invalid, Started, Done}
use Rattle.pl_machine.specs.declared.entry.Pending.{Pending}
use Rattle.pl_machine.specs.declared.entry.Command.{Command}
use Rattle.pl_machine.specs.declared.entry.Command.TheVariants.{Edit, Apply, Export, Status, Cancel, After}
use Rattle.pl_machine.specs.declared.entry.Reply.{Reply}
use Rattle.pl_machine.specs.declared.entry.Reply.TheVariants.{Edited, Unchanged, Changed, Invalidated, Cancelled, Modes, Gcode, Refused, Passed}
use Rattle.pl_machine.specs.declared.entry.What.{What}
use Rattle.pl_machine.specs.declared.entry.What.TheVariants.{Call, Start, Finish, Late, Bye}
use Rattle.pl_machine.specs.declared.entry.Entry.{Entry}
use Rattle.pl_machine.specs.Each.{each_slot}

-- the state: the plate that is edited, the one that is applied, a mode and an epoch for each slot,
-- each session's number of calls and whether it has left, and for each actor what it has pending
pub record Machine (Plate : Type 0) : Type 0 where
  pub edited : Plate
  pub applied : Plate
  pub modes : List Mode
  pub epochs : List ℕ
  pub calls : List ℕ
  pub left : List Bool
  pub pending : List (Option Pending)

-- an actor's place in the list of what is pending: sessions 1 to 16, then workers 1 to 8
abbrev pub seat_of : Actor → ℕ
seat_of (Session i) = i - 1
seat_of (Worker k) = 15 + k

abbrev pub IsActor : Actor → Type 0
IsActor (Session i) = (1 ≤ i) × (i ≤ 16)
IsActor (Worker k) = (1 ≤ k) × (k ≤ 8)

-- the session that an actor is
abbrev pub session_of : Actor → ℕ
session_of (Session i) = i
session_of (Worker k) = 0

abbrev pub OfSession : Actor → (ℕ → Type 0) → Type 0
OfSession (Session i) F = F i
OfSession (Worker k) F = ⊥

abbrev pub is_invalid : Mode → Bool
is_invalid Invalid = true
is_invalid (Started a) = false
is_invalid Done = false

abbrev pub is_started : Mode → Bool
is_started Invalid = false
is_started (Started a) = true
is_started Done = false

abbrev pub is_done : Mode → Bool
is_done Invalid = false
is_done (Started a) = false
is_done Done = true

module _ {P : Type 0} where
  abbrev pub mode_of : Machine P → ℕ → Mode
  mode_of st slot = slice_index_or st.modes slot Invalid

  abbrev pub epoch_of : Machine P → ℕ → ℕ
  epoch_of st slot = slice_index_or st.epochs slot 0

  abbrev pub pending_of : Machine P → Actor → Option Pending
  pending_of st actor = slice_index_or st.pending (seat_of actor) None

  -- the calls of a session from 1 to 16
  abbrev pub calls_of : Machine P → ℕ → ℕ
  calls_of st session = slice_index_or st.calls (session - 1) 0

  abbrev pub has_left : Machine P → ℕ → Bool
  has_left st session = slice_index_or st.left (session - 1) false

  -- whether an actor has left: a session that has said bye. A worker never leaves
  abbrev pub is_gone : Machine P → Actor → Bool
  is_gone st (Session i) = has_left st i
  is_gone st (Worker k) = false

  -- the slots that hit become Invalid, and their epochs rise
  abbrev pub modes_after : Machine P → (ℕ → Bool) → List Mode
  modes_after st hit = each_slot (λ k. if hit k then Invalid else mode_of st k)

  abbrev pub epochs_after : Machine P → (ℕ → Bool) → List ℕ
  epochs_after st hit = each_slot (λ k. if hit k then epoch_of st k + 1 else epoch_of st k)

  -- one more call of a session
  abbrev pub called : Machine P → ℕ → Machine P
  called st session = record st { calls = slice_set st.calls (session - 1) (calls_of st session + 1) }

  -- the actor starts the slot, finishes it, drops what it has pending, or leaves
  abbrev pub started : Machine P → Actor → ℕ → ℕ → Machine P
  started st actor slot epoch =
      record st { modes = slice_set st.modes slot (Started actor); pending = slice_set st.pending (seat_of actor) (Some (record { slot = slot; epoch = epoch })) }

  abbrev pub finished : Machine P → Actor → ℕ → Machine P
  finished st actor slot = record st { modes = slice_set st.modes slot Done; pending = slice_set st.pending (seat_of actor) None }

  abbrev pub freed : Machine P → Actor → Machine P
  freed st actor = record st { pending = slice_set st.pending (seat_of actor) None }

  abbrev pub without : Machine P → ℕ → Machine P
  without st session = record st { left = slice_set st.left (session - 1) true }

-- what an actor has pending is Started by it at that epoch, or the slot's epoch is above
abbrev pub Stands : {P : Type 0} → Machine P → Actor → Pending → Type 0
Stands st actor p = (p.epoch < epoch_of st p.slot) ⊎ ((mode_of st p.slot ≡ Started actor) × (epoch_of st p.slot ≡ p.epoch))

-- who has left has nothing pending
abbrev pub LeftAreIdle : {P : Type 0} → Machine P → Type 0
LeftAreIdle st = (i : ℕ) → 1 ≤ i → i ≤ 16 → has_left st i ≡ true → pending_of st (Session i) ≡ None

-- the slot is pending at the actor, with the slot's epoch
pub record IsPendingAt {P : Type 0} (st : Machine P) (actor : Actor) (slot : ℕ) : Type 0 where
  pub actor_is : IsActor actor
  pub pending : pending_of st actor ≡ Some (record { slot = slot; epoch = epoch_of st slot })

-- each slot that is started is pending at the actor that works at it
abbrev pub StartedArePending : {P : Type 0} → Machine P → Type 0
StartedArePending st = (slot : ℕ) (actor : Actor) → mode_of st slot ≡ Started actor → IsPendingAt st actor slot

-- what the actor has pending may be finished, or is late
pub record Finishes {P : Type 0} (st : Machine P) (actor : Actor) (slot epoch : ℕ) : Type 0 where
  pub actor_is : IsActor actor
  pub pending : pending_of st actor ≡ Some (record { slot = slot; epoch = epoch })
  pub started_by : mode_of st slot ≡ Started actor
  pub current : epoch_of st slot ≡ epoch

pub record Drops {P : Type 0} (st : Machine P) (actor : Actor) (slot since now : ℕ) : Type 0 where
  pub actor_is : IsActor actor
  pub pending : pending_of st actor ≡ Some (record { slot = slot; epoch = since })
  pub current : epoch_of st slot ≡ now
  pub later : since < now

-- whether a session may make a command, or leave
pub record MayCall {P : Type 0} (st : Machine P) (session : ℕ) : Type 0 where
  pub from_1 : 1 ≤ session
  pub to_16 : session ≤ 16
  pub stays : has_left st session ≡ false
  pub free : pending_of st (Session session) ≡ None

module _ {P E R O : Type 0} (m : Meaning P E R O) where
  abbrev pub blank : Machine P
  blank = record {
    edited = m.blank;
    applied = m.blank;
    modes = replicate 100 Invalid;
    epochs = replicate 100 0;
    calls = replicate 16 0;
    left = replicate 16 false;
    pending = replicate 24 None;
  }

  -- the slots that an apply makes Invalid
  abbrev pub is_hit : Machine P → ℕ → Bool
  is_hit st slot = m.touched st.applied st.edited slot && not (is_invalid (mode_of st slot))

  -- the state after a command
  abbrev pub after_command : Machine P → Command E → Machine P
  after_command st (Edit e) = record st { edited = m.edited st.edited e }
  after_command st Apply = record st { applied = st.edited; modes = modes_after st (is_hit st); epochs = epochs_after st (is_hit st) }
  after_command st Cancel = record st { modes = modes_after st (λ k. is_started (mode_of st k)); epochs = epochs_after st (λ k. is_started (mode_of st k)) }
  after_command st Export = st
  after_command st Status = st
  after_command st (After s n) = st

  -- the slot is present, and all that it needs is Done
  pub record IsReady (st : Machine P) (slot : ℕ) : Type 0 where
    pub present : m.present st.applied slot ≡ true
    pub needed : (n : ℕ) → m.needs st.applied slot n ≡ true → mode_of st n ≡ Done

  -- the slot is Invalid and ready, whatever problem the plate has
  pub record IsOpen (st : Machine P) (slot : ℕ) : Type 0 where
    pub invalid : mode_of st slot ≡ Invalid
    pub ready : IsReady st slot

  -- an actor that has nothing pending and has not left may start the slot
  pub record CanStart (st : Machine P) (slot : ℕ) : Type 0 where
    pub no_problem : m.problem st.applied ≡ None
    pub invalid : mode_of st slot ≡ Invalid
    pub ready : IsReady st slot

  -- the actor may start the slot, at this epoch
  pub record Starts (st : Machine P) (actor : Actor) (slot epoch : ℕ) : Type 0 where
    pub actor_is : IsActor actor
    pub stays : is_gone st actor ≡ false
    pub free : pending_of st actor ≡ None
    pub can : CanStart st slot
    pub current : epoch_of st slot ≡ epoch

  -- what the state after every legal history keeps
  pub record IsCoherent (st : Machine P) : Type 0 where
    pub modes_long : length st.modes ≡ 100
    pub epochs_long : length st.epochs ≡ 100
    pub calls_long : length st.calls ≡ 16
    pub left_long : length st.left ≡ 16
    pub pending_long : length st.pending ≡ 24
    pub pending_stands : (actor : Actor) (p : Pending) → IsActor actor → pending_of st actor ≡ Some p → Stands st actor p
    pub started_pending : StartedArePending st
    pub left_idle : LeftAreIdle st
    -- what is started or done is present, and all that it needs is Done
    pub held_ready : (k : ℕ) → is_invalid (mode_of st k) ≡ false → IsReady st k

  -- what every state of the program keeps
  pub record IsSound (st : Machine P) : Type 0 where
    pub kept : IsCoherent st
    pub calls_fit : All (λ n. n ≤ 2 ^ 32 - 1) st.calls
    -- no epoch is above the number of calls
    pub epochs_low : (k : ℕ) → epoch_of st k ≤ sum st.calls

  module _ {T J B : Type 0} where
    -- the command has this reply
    abbrev pub Replies : Machine P → Command E → Reply T P E R O J B → Type 0
    Replies st (Edit e) (Edited r) = r ≡ m.reply st.edited e
    Replies st Apply Unchanged = m.same st.applied st.edited ≡ true
    Replies st Apply Changed = (m.same st.applied st.edited ≡ false) × ((k : ℕ) → k < 100 → is_hit st k ≡ false)
    Replies st Apply (Invalidated set) =
        (m.same st.applied st.edited ≡ false) × ((k : ℕ) → has set k ≡ is_hit st k) × ((k : ℕ) × (is_hit st k ≡ true))
    Replies st Cancel (Cancelled n) = n ≡ count_by is_started st.modes
    Replies st Export (Refused p) = m.problem st.applied ≡ Some p
    Replies st Export (Gcode o) = (m.problem st.applied ≡ None) × (mode_of st 99 ≡ Done) × (o ≡ m.value st.applied 99)
    Replies st Status (Modes present started finished) =
        ((k : ℕ) → has present k ≡ m.present st.applied k)
        × ((k : ℕ) → has started k ≡ (m.present st.applied k && is_started (mode_of st k)))
        × ((k : ℕ) → has finished k ≡ (m.present st.applied k && is_done (mode_of st k)))
    Replies st (After s n) Passed = (1 ≤ s) × (s ≤ 16) × (n ≤ calls_of st s)
    Replies st command reply = ⊥

    -- the machine may make this step
    abbrev pub Allows : Machine P → Actor → What T P E R O J B → Type 0
    Allows st actor (Call command reply) = OfSession actor (λ i. MayCall st i × Replies st command reply)
    Allows st actor (Start slot epoch) = Starts st actor slot epoch
    Allows st actor (Finish slot epoch) = Finishes st actor slot epoch
    Allows st actor (Late slot since now) = Drops st actor slot since now
    Allows st actor Bye = OfSession actor (MayCall st)

    -- the state after it
    abbrev pub next : Machine P → Actor → What T P E R O J B → Machine P
    next st actor (Call command reply) = called (after_command st command) (session_of actor)
    next st actor (Start slot epoch) = started st actor slot epoch
    next st actor (Finish slot epoch) = finished st actor slot
    next st actor (Late slot since now) = freed st actor
    next st actor Bye = without st (session_of actor)

    -- one step of the machine
    abbrev pub Step : Machine P → Entry T P E R O J B → Machine P → Type 0
    Step st entry st' = Allows st entry.actor entry.what × (st' ≡ next st entry.actor entry.what)
