-- A start that is not closed stays pending, and where the epochs agree its value is the slot's.
use Rattle.std.proofs.Common.{◌≡◌, ℕ, ◌<◌, inl, inr, true, false, List, [], ◌∷◌, ◌++◌, get_or, set, refl, ap, sym, subst, ◌∙◌, None, Some, arith, get_or-set_same, get_or-set_other}
use Rattle.std.proofs.lemmas.Bool.Decides.{eqb_tells}
use Rattle.std.specs.declared.option.Option.{Option}
use Rattle.pl_tech.specs.Technology.{Meaning, IsLawful}
use Rattle.pl_ports.specs.declared.gate.Actor.{Actor}
use Rattle.pl_machine.specs.declared.entry.Pending.{Pending}
use Rattle.pl_machine.specs.declared.entry.Mode.TheVariants.{Invalid, Started}
use Rattle.pl_machine.specs.declared.entry.Command.{Command}
use Rattle.pl_machine.specs.declared.entry.Command.TheVariants.{Edit, Apply, Export, Status, Cancel, After}
use Rattle.pl_machine.specs.declared.entry.What.{What}
use Rattle.pl_machine.specs.declared.entry.What.TheVariants.{Call, Start, Finish, Late, Bye}
use Rattle.pl_machine.specs.declared.entry.Entry.{Entry}
use Rattle.pl_machine.specs.Machine.{Machine, IsActor, blank, mode_of, epoch_of, is_invalid, pending_of, seat_of, called, after_command, session_of, Starts, started, Allows, next}
use Rattle.pl_machine.specs.History.{replay, replay_from, IsRunFrom, IsLegal}
use Rattle.pl_machine.specs.Tickets.{closes, HasNotClosed, start_of, StandsIn}
use Rattle.pl_machine.proofs.Sound.{seat_below, same_seat}
use Rattle.pl_machine.proofs.Runs.{replay_from-append, run_split, replay_split}
use Rattle.pl_machine.proofs.Lasting.{is_stable}
use Rattle.pl_machine.proofs.Coherence.{coherent_history}

module _ {P E R O : Type 0} (m : Meaning P E R O) where
  -- a command leaves what is pending
  pub command_pending : (st : Machine P) (c : Command E) (i : ℕ) → (called (after_command m st c) i).pending ≡ st.pending
  command_pending st (Edit e) i = refl
  command_pending st Apply i = refl
  command_pending st Cancel i = refl
  command_pending st Export i = refl
  command_pending st Status i = refl
  command_pending st (After s n) i = refl

  -- another seat is written
  written : (st : Machine P) (actor a : Actor) (v : Option Pending) (p : Pending) → IsActor actor → IsActor a → (actor ≡ a → ⊥)
      → pending_of st actor ≡ Some p → get_or (set st.pending (seat_of a) v) (seat_of actor) None ≡ Some p
  written st actor a v p ok oka ne is = elim (eqb_tells (seat_of actor) (seat_of a)) [
    | inl same ↦ absurd (ne (same_seat actor a ok oka same.1))
    | inr other ↦ get_or-set_other st.pending (seat_of a) (seat_of actor) v None other.1 ∙ is
  ]

  -- what a ticket that stands says of the state now
  pub record TicketTells (st : Machine P) (actor : Actor) (slot epoch : ℕ) (value : O) : Type 0 where
    pub actor_is : IsActor actor
    pub pending : pending_of st actor ≡ Some (record { slot = slot; epoch = epoch })
    pub low : slot < 100
    pub value_is : epoch_of st slot ≡ epoch → value ≡ m.value st.applied slot

  module _ {T J B : Type 0} where
    step_pending : (st : Machine P) (a : Actor) (w : What T P E R O J B) (actor : Actor) (p : Pending) → IsActor actor → pending_of st actor ≡ Some p
        → Allows m st a w → (a ≡ actor → closes w ≡ false) → pending_of (next m st a w) actor ≡ Some p
    step_pending st a (Call command reply) actor p ok is may not = ap (λ ps. get_or ps (seat_of actor) None) (command_pending st command (session_of a)) ∙ is
    step_pending st a (Start slot e) actor p ok is may not =
        written st actor a _ p ok may.actor_is (λ same. let f : None ≡ Some p = sym may.free ∙ ap (pending_of st) (sym same) ∙ is in cc) is
    step_pending st a (Finish slot e) actor p ok is may not =
        written st actor a _ p ok may.actor_is (λ same. let f : true ≡ false = not (sym same) in cc) is
    step_pending st a (Late slot since now) actor p ok is may not =
        written st actor a _ p ok may.actor_is (λ same. let f : true ≡ false = not (sym same) in cc) is
    step_pending st a Bye actor p ok is may not = is

    run_pending : (st : Machine P) (es : List (Entry T P E R O J B)) (actor : Actor) (p : Pending) → IsActor actor → pending_of st actor ≡ Some p
        → IsRunFrom m st es → HasNotClosed actor es → pending_of (replay_from m st es) actor ≡ Some p
    run_pending st [] actor p ok is run not = is
    run_pending st (e ∷ es) actor p ok is run not =
        run_pending (next m st e.actor e.what) es actor p ok (step_pending st e.actor e.what actor p ok is run.0 not.0) run.1 not.1

    -- the start's own guard, in the history up to it
    pub opened_by : IsLawful m → (before : List (Entry T P E R O J B)) (actor : Actor) (slot epoch : ℕ) → IsLegal m (before ++ start_of actor slot epoch ∷ [])
        → Starts m (replay m before) actor slot epoch
    opened_by laws before actor slot epoch legal = (run_split m (blank m) before (start_of actor slot epoch ∷ []) legal).1.0

    pub ticket_tells : IsLawful m → (history : List (Entry T P E R O J B)) (actor : Actor) (slot epoch : ℕ) (value : O)
        → IsLegal m history → StandsIn m history actor slot epoch value → TicketTells (replay m history) actor slot epoch value
    ticket_tells laws history actor slot epoch value legal stands =
        let first = stands.before ++ start_of actor slot epoch ∷ [] in
        let whole : IsLegal m (first ++ stands.rest) = subst (IsLegal m) stands.split legal in
        let runs = run_split m (blank m) first stands.rest whole in
        let starts = opened_by laws stands.before actor slot epoch runs.0 in
        let at : replay m first ≡ started (replay m stands.before) actor slot epoch = replay_from-append m (blank m) stands.before (start_of actor slot epoch) in
        let low : slot < 100 = laws.present_below _ slot starts.can.ready.present in
        let there : replay m history ≡ replay_from m (replay m first) stands.rest = ap (replay m) stands.split ∙ replay_split m (blank m) first stands.rest in
        let kept = coherent_history m laws stands.before (run_split m (blank m) stands.before (start_of actor slot epoch ∷ []) runs.0).0 in
        let began : pending_of (replay m first) actor ≡ Some (record { slot = slot; epoch = epoch }) =
        ap (λ s. pending_of s actor) at ∙ get_or-set_same (replay m stands.before).pending (seat_of actor) (Some (record { slot = slot; epoch = epoch })) None
        (let b = seat_below actor starts.actor_is in omega (arith, b, kept.pending_long)) in
        let mode : mode_of (replay m first) slot ≡ Started actor =
        ap (λ s. mode_of s slot) at ∙ get_or-set_same (replay m stands.before).modes slot (Started actor) Invalid
        (omega (arith, kept.modes_long, low)) in
        record {
          actor_is = starts.actor_is;
          pending = ap (λ s. pending_of s actor) there ∙ run_pending (replay m first) stands.rest actor (record { slot = slot; epoch = epoch }) starts.actor_is began runs.1 stands.unclosed;
          low = low;
          value_is = λ same. stands.value_is
              ∙ sym (is_stable m laws first stands.rest whole slot low (ap is_invalid mode)
              (ap (λ h. epoch_of (replay m h) slot) (sym stands.split) ∙ same ∙ sym (ap (λ s. epoch_of s slot) at ∙ starts.current))).value
              ∙ ap (λ h. m.value (replay m h).applied slot) (sym stands.split);
        }
