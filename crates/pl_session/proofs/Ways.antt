-- A plant whose session is under way goes on.
use Rattle.std.proofs.Common.{◌≡◌, ◌≢◌, ℕ, ◌+◌, ◌-◌, ◌<◌, ◌≤◌, ◌^◌, List, [], ◌∷◌, ◌++◌, length, ap, sym, subst, ◌∙◌, Some, Ok, Err, OnOk, arith}
use Rattle.std.specs.declared.result.Result.{Result}
use Rattle.std.specs.List.{slice_get}
use Rattle.std.proofs.lemmas.List.{nil_from_length}
use Rattle.std.proofs.lemmas.Option.{slice_get_within}
use Rattle.pl_tech.specs.Technology.{Meaning, IsLawful}
use Rattle.pl_ports.specs.declared.gate.Actor.TheVariants.{Session}
use Rattle.pl_machine.specs.declared.entry.Command.{Command}
use Rattle.pl_machine.specs.declared.entry.Command.TheVariants.{Edit, Apply, Export, Status, Cancel, After}
use Rattle.pl_machine.specs.declared.entry.Reply.{Reply}
use Rattle.pl_machine.specs.declared.entry.What.TheVariants.{Call, Finish, Bye}
use Rattle.pl_machine.specs.Machine.{blank, called, after_command, started, finished, Replies, Starts, MayCall, calls_of}
use Rattle.pl_machine.specs.History.{replay}
use Rattle.pl_machine.specs.Calls.{WaitsForSlot}
use Rattle.pl_machine.specs.Startable.{IsLeast}
use Rattle.pl_machine.specs.Tickets.{start_of}
use Rattle.pl_machine.proofs.Runs.{replay_from-append}
use Rattle.pl_plant.specs.Planted.{Planted}
use Rattle.pl_session.specs.Complete.{runs_of, IsComplete}
use Rattle.pl_session.specs.Alone.{first_alone}
use Rattle.pl_session.specs.UnderWay.{IsFree, IsUnderWay, IsOnItsWay, LacksNothing, undone_in}
use Rattle.pl_session.proofs.Entries.{runs_more}
use Rattle.pl_session.proofs.Free.{may_call, never_waits, fewer_undone}
use Rattle.pl_session.proofs.Alone.{by_first, under_way_none, under_way_called, under_way_made, complete_none, complete_left}

-- what follows from three facts of a call that did not fail
pub on_ok_three : {A F : Type 0} (r : Result A F) {X Y Z W : Type 0} → (X → Y → Z → W) → OnOk r X → OnOk r Y → OnOk r Z → OnOk r W
on_ok_three (Ok a) f x y z = f x y z
on_ok_three (Err e) f x y z = x

module _ {T P E R O J B : Type 0} (m : Meaning P E R O) (commands : List (Command E)) where
  pub way_none : (plant : Planted T P E R O J B) (runs : ℕ) → plant.state ≡ blank m → plant.journal ≡ [] → runs ≡ 0 → IsOnItsWay m commands 0 plant runs
  way_none plant runs state journal none = record {
    replayed = state ∙ ap (replay m) (sym journal);
    counted = none ∙ ap runs_of (sym journal);
    way = subst (IsUnderWay m commands 0) (sym journal) (under_way_none m commands);
  }

  pub free_of : (made : ℕ) (plant : Planted T P E R O J B) (runs : ℕ) → IsOnItsWay m commands made plant runs → IsFree plant.state made
  free_of made plant runs way = subst (λ st. IsFree st made) (sym way.replayed) way.way.free

  pub way_kept : (made : ℕ) (old new : Planted T P E R O J B) (runs : ℕ) → new.state ≡ old.state → new.journal ≡ old.journal
      → IsOnItsWay m commands made old runs → IsOnItsWay m commands made new runs
  way_kept made old new runs state journal way = record {
    replayed = state ∙ way.replayed ∙ ap (replay m) (sym journal);
    counted = way.counted ∙ ap runs_of (sym journal);
    way = subst (IsUnderWay m commands made) (sym journal) way.way;
  }

  pub may_of : (made : ℕ) (plant : Planted T P E R O J B) (runs : ℕ) → IsOnItsWay m commands made plant runs → MayCall plant.state 1
  may_of made plant runs way = may_call plant.state made (free_of made plant runs way)

  -- there is room for a call more
  pub room_of : (made : ℕ) (plant : Planted T P E R O J B) (runs : ℕ) (c : Command E) → slice_get commands made ≡ Some c → length commands ≤ 2 ^ 32 - 1
      → IsOnItsWay m commands made plant runs → calls_of plant.state 1 < 2 ^ 32 - 1
  room_of made plant runs c here most way = let few = (free_of made plant runs way).few in let within = slice_get_within commands made c here in omega (arith, few, within, most)

  -- a command that lacks nothing waits for no slot
  pub no_wait : IsLawful m → (made : ℕ) (plant : Planted T P E R O J B) (runs : ℕ) (c : Command E) → LacksNothing m plant.state c
      → IsOnItsWay m commands made plant runs → (slot : ℕ) → WaitsForSlot m plant.state c slot → ⊥
  no_wait laws made plant runs Export none way slot waits = never_waits m laws plant.state made (free_of made plant runs way) none slot waits
  no_wait laws made plant runs (Edit e) none way slot waits = waits
  no_wait laws made plant runs Apply none way slot waits = waits
  no_wait laws made plant runs Status none way slot waits = waits
  no_wait laws made plant runs Cancel none way slot waits = waits
  no_wait laws made plant runs (After s n) none way slot waits = waits

  pub way_called : (made : ℕ) (old new : Planted T P E R O J B) (runs : ℕ) (c : Command E) (reply : Reply T P E R O J B)
      → slice_get commands made ≡ Some c → Replies m old.state c reply → new.state ≡ called (after_command m old.state c) 1 → new.journal ≡ old.journal ++ by_first (Call c reply) ∷ []
      → IsOnItsWay m commands made old runs → IsOnItsWay m commands (made + 1) new runs
  way_called made old new runs c reply here replies state journal way =
      let e = by_first (Call c reply) in
      record {
        replayed = state ∙ ap (λ st. called (after_command m st c) 1) way.replayed ∙ sym (replay_from-append m (blank m) old.journal e) ∙ ap (replay m) (sym journal);
        counted = (let more = runs_more old.journal e in let same = ap runs_of journal in omega (arith, more, same, way.counted));
        way = subst (IsUnderWay m commands (made + 1)) (sym journal)
            (under_way_called m commands made old.journal c reply here (subst (λ st. Replies m st c reply) way.replayed replies) way.way);
      }

  -- a slot is started and finished
  pub way_made : IsLawful m → (made : ℕ) (old between new : Planted T P E R O J B) (before after slot epoch : ℕ)
      → slice_get commands made ≡ Some Export → IsLeast m old.state slot → Starts m old.state (Session 1) slot epoch
      → between.state ≡ started old.state (Session 1) slot epoch → between.journal ≡ old.journal ++ start_of (Session 1) slot epoch ∷ []
      → new.state ≡ finished between.state (Session 1) slot → new.journal ≡ between.journal ++ by_first (Finish slot epoch) ∷ []
      → after ≡ before + 1 → IsOnItsWay m commands made old before → IsOnItsWay m commands made new after
  way_made laws made old between new before after slot epoch here least starts began first ended last count way =
      let s = start_of (Session 1) slot epoch in
      let f = by_first (Finish slot epoch) in
      let journal : new.journal ≡ (old.journal ++ s ∷ []) ++ f ∷ [] = last ∙ ap (λ l. l ++ f ∷ []) first in
      record {
        replayed = ended ∙ ap (λ st. finished st (Session 1) slot) (began ∙ ap (λ st. started st (Session 1) slot epoch) way.replayed ∙ sym (replay_from-append m (blank m) old.journal s))
            ∙ sym (replay_from-append m (blank m) (old.journal ++ s ∷ []) f) ∙ ap (replay m) (sym journal);
        counted = (let one = runs_more old.journal s in let two = runs_more (old.journal ++ s ∷ []) f in let same = ap runs_of journal in omega (arith, one, two, same, way.counted, count));
        way = subst (IsUnderWay m commands made) (sym journal)
            (under_way_made m commands laws made old.journal slot epoch here (subst (λ st. Starts m st (Session 1) slot epoch) way.replayed starts)
            (subst (λ st. IsLeast m st slot) way.replayed least) way.way);
      }

  pub fewer : IsLawful m → (made : ℕ) (old between new : Planted T P E R O J B) (runs slot epoch : ℕ) → IsLeast m old.state slot
      → between.state ≡ started old.state (Session 1) slot epoch → new.state ≡ finished between.state (Session 1) slot
      → IsOnItsWay m commands made old runs → undone_in new.state < undone_in old.state
  fewer laws made old between new runs slot epoch least began ended way =
      let low : slot < 100 = laws.present_below old.state.applied slot least.can.ready.present in
      subst (λ st. undone_in st < undone_in old.state) (sym (ended ∙ ap (λ st. finished st (Session 1) slot) began))
      (fewer_undone old.state slot epoch made low least.can.invalid (free_of made old runs way))

  pub ends_empty : (made : ℕ) (plant : Planted T P E R O J B) (runs : ℕ) → made ≡ length commands → made ≡ 0 → IsOnItsWay m commands made plant runs
      → IsComplete m (first_alone commands) 0 plant.journal
  ends_empty made plant runs all none way = complete_none m commands made plant.journal (nil_from_length commands (sym all ∙ none)) way.way

  pub ends_left : (made : ℕ) (old new : Planted T P E R O J B) (runs : ℕ) → made ≡ length commands → made ≢ 0 → new.journal ≡ old.journal ++ by_first Bye ∷ []
      → IsOnItsWay m commands made old runs → IsComplete m (first_alone commands) 0 new.journal
  ends_left made old new runs all some journal way =
      subst (IsComplete m (first_alone commands) 0) (sym journal)
      (complete_left m commands old.journal (λ none. some (all ∙ ap length none)) (subst (λ n. IsUnderWay m commands n old.journal) all way.way))
