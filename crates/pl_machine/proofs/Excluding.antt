-- A call that is no step has no reply, and one that is a step waits for nothing.
use Rattle.std.proofs.Common.{◌≡◌, ℕ, inl, inr, true, ap, sym, ◌∙◌, None, Some, Ok, Err, IfOk, arith}
use Rattle.std.proofs.lemmas.Bool.{cases_lt}
use Rattle.std.specs.declared.result.Result.{Result}
use Rattle.pl_tech.specs.Technology.{Meaning, IsLawful}
use Rattle.pl_machine.specs.declared.entry.Mode.TheVariants.{Done}
use Rattle.pl_machine.specs.declared.entry.Command.{Command}
use Rattle.pl_machine.specs.declared.entry.Command.TheVariants.{Edit, Apply, Export, Status, Cancel, After}
use Rattle.pl_machine.specs.declared.entry.Reply.{Reply}
use Rattle.pl_machine.specs.declared.entry.Reply.TheVariants.{Edited, Unchanged, Changed, Invalidated, Cancelled, Modes, Gcode, Refused, Passed}
use Rattle.pl_machine.specs.declared.entry.Answer.{Answer}
use Rattle.pl_machine.specs.declared.entry.Answer.TheVariants.{Now, NotYet, Behind}
use Rattle.pl_machine.specs.Calls.{WaitsForSlot, WaitsForCalls, MatchAnswer, Excludes}
use Rattle.pl_machine.specs.Machine.{Machine, IsCoherent, is_invalid, mode_of, Replies}

module _ {P E R O : Type 0} (m : Meaning P E R O) (laws : IsLawful m) where
  -- where slot 99 is Done, so is each present slot
  pub whole : (st : Machine P) → IsCoherent m st → mode_of st 99 ≡ Done → (k : ℕ) → m.present st.applied k ≡ true → mode_of st k ≡ Done
  whole st kept last k here = elim (cases_lt k 99) [
    | inl below ↦ (kept.held_ready 99 (ap is_invalid last)).needed k (laws.last_needs st.applied k here below)
    | inr not_below ↦ let low = laws.present_below st.applied k here in let e : k ≡ 99 = omega arith in ap (mode_of st) e ∙ last
  ]

  module _ {T J B : Type 0} where
    slot_waits : (st : Machine P) → IsCoherent m st → (c : Command E) (r : Reply T P E R O J B) (k : ℕ) → Replies m st c r → WaitsForSlot m st c k → ⊥
    slot_waits st kept Export (Gcode o) k replies waits = waits.1.undone (whole st kept replies.1 k waits.1.present)
    slot_waits st kept Export (Refused p) k replies waits = let e : None ≡ Some p = sym waits.0 ∙ replies in cc
    slot_waits st kept Export (Edited r) k replies waits = replies
    slot_waits st kept Export Unchanged k replies waits = replies
    slot_waits st kept Export Changed k replies waits = replies
    slot_waits st kept Export (Invalidated s) k replies waits = replies
    slot_waits st kept Export (Cancelled n) k replies waits = replies
    slot_waits st kept Export (Modes a b d) k replies waits = replies
    slot_waits st kept Export Passed k replies waits = replies
    slot_waits st kept (Edit e) r k replies waits = waits
    slot_waits st kept Apply r k replies waits = waits
    slot_waits st kept Status r k replies waits = waits
    slot_waits st kept Cancel r k replies waits = waits
    slot_waits st kept (After s n) r k replies waits = waits

    calls_wait : (st : Machine P) (c : Command E) (r : Reply T P E R O J B) (n : ℕ) → Replies m st c r → WaitsForCalls st c n → ⊥
    calls_wait st (After s wanted) Passed n replies waits = omega (arith, replies.2, waits.0, waits.1)
    calls_wait st (After s wanted) (Edited r) n replies waits = replies
    calls_wait st (After s wanted) Unchanged n replies waits = replies
    calls_wait st (After s wanted) Changed n replies waits = replies
    calls_wait st (After s wanted) (Invalidated hit) n replies waits = replies
    calls_wait st (After s wanted) (Cancelled count) n replies waits = replies
    calls_wait st (After s wanted) (Modes a b d) n replies waits = replies
    calls_wait st (After s wanted) (Gcode o) n replies waits = replies
    calls_wait st (After s wanted) (Refused p) n replies waits = replies
    calls_wait st (Edit e) r n replies waits = waits
    calls_wait st Apply r n replies waits = waits
    calls_wait st Export r n replies waits = waits
    calls_wait st Status r n replies waits = waits
    calls_wait st Cancel r n replies waits = waits

    excludes : (st : Machine P) → IsCoherent m st → (c : Command E) (a : Answer T P E R O J B)
        → MatchAnswer a (λ r. Replies m st c r) (λ s. WaitsForSlot m st c s) (λ n. WaitsForCalls st c n) → Excludes m st c a
    excludes st kept c (Now r) step = ((λ k. slot_waits st kept c r k step), (λ n. calls_wait st c r n step))
    excludes st kept c (NotYet s) step = λ r replies. slot_waits st kept c r s replies step
    excludes st kept c (Behind n) step = λ r replies. calls_wait st c r n replies step

    pub excludes_if_ok : {N : Type 0} (st : Machine P) → IsCoherent m st → (c : Command E) (r : Result (Answer T P E R O J B) N)
        → IfOk r (λ a. MatchAnswer a (λ r. Replies m st c r) (λ s. WaitsForSlot m st c s) (λ n. WaitsForCalls st c n)) → IfOk r (λ a. Excludes m st c a)
    excludes_if_ok st kept c (Ok a) step = excludes st kept c a step
    excludes_if_ok st kept c (Err e) step = step
