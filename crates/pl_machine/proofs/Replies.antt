-- A command has one reply in a state.
use Rattle.std.proofs.Common.{◌≡◌, ◌==◌, ◌&&◌, not, ◌<◌, ℕ, Bool, true, false, length, Option, Some, None, refl, ap, sym, ◌∙◌, arith, true≢false, inl, inr}
use Rattle.std.specs.Int.{bit_at}
use Rattle.std.proofs.lemmas.Nat.Bits.{bit_at-lt, same_from_bits}
use Rattle.std.proofs.lemmas.Bool.{cases_lt}
use Rattle.std.proofs.lemmas.Bool.Decides.{nat_tests}
use Rattle.std.proofs.Math.ListN.{get_or-eq_default}
use Rattle.pl_tech.specs.Technology.{Meaning}
use Rattle.pl_tech.specs.Slots.{has}
use Rattle.pl_machine.specs.declared.entry.Command.{Command}
use Rattle.pl_machine.specs.declared.entry.Command.TheVariants as command
use Rattle.pl_machine.specs.declared.entry.Reply.{Reply}
use Rattle.pl_machine.specs.declared.entry.Reply.TheVariants as reply
use Rattle.pl_machine.specs.declared.entry.Mode.TheVariants.{Invalid}
use Rattle.pl_machine.specs.Machine.{Machine, Replies, is_hit, mode_of, is_invalid}

same_bit : (a b : ℕ) → (a == 1) ≡ (b == 1) → a < 2 → b < 2 → a ≡ b
same_bit a b e p q = grind (arith, nat_tests)

-- two sets with the same slots are one number
pub same_set : (a b : ℕ) → ((k : ℕ) → has a k ≡ has b k) → a ≡ b
same_set a b h = same_from_bits a b (λ i. same_bit (bit_at a i) (bit_at b i) (h i) (bit_at-lt a i) (bit_at-lt b i))

pub some_same : {A : Type 0} (x y : A) → Some x ≡ Some y → x ≡ y
some_same x y e = cc

and_false : (a b : Bool) → b ≡ false → (a && b) ≡ false
and_false true b e = e
and_false false b e = refl

-- a slot that no plate has is not hit
hit_low : {P E R O : Type 0} (m : Meaning P E R O) (st : Machine P) (k : ℕ) → length st.modes ≡ 100 → is_hit m st k ≡ true → k < 100
hit_low m st k long h = elim (cases_lt k 100) [
  | inl low ↦ low
  | inr high ↦
      let beyond : mode_of st k ≡ Invalid = get_or-eq_default st.modes Invalid (omega (arith, high, long)) in
      absurd (true≢false (sym h ∙ and_false (m.touched st.applied st.edited k) _ (ap (λ mode. not (is_invalid mode)) beyond)))
]

hit_not : {A P E R O : Type 0} (m : Meaning P E R O) (st : Machine P) → length st.modes ≡ 100 → ((k : ℕ) → k < 100 → is_hit m st k ≡ false) → (k : ℕ) × (is_hit m st k ≡ true) → A
hit_not m st long none some = absurd (true≢false (sym some.1 ∙ none some.0 (hit_low m st some.0 long some.1)))

some_none : {A B : Type 0} (o : Option A) (x : A) → o ≡ None → o ≡ Some x → B
some_none o x p q = absurd (let e = p in let f = q in cc)

module _ {T P E R O J B : Type 0} (m : Meaning P E R O) (st : Machine P) where
  edit_one : (e : E) (r q : Reply T P E R O J B) → Replies m st (command.Edit e) r → Replies m st (command.Edit e) q → r ≡ q
  edit_one e (reply.Edited a) (reply.Edited b) h k = ap reply.Edited (h ∙ sym k)
  edit_one e (reply.Edited a) q h k = absurd k
  edit_one e r q h k = absurd h

  apply_one : (r q : Reply T P E R O J B) → length st.modes ≡ 100 → Replies m st command.Apply r → Replies m st command.Apply q → r ≡ q
  apply_one reply.Unchanged reply.Unchanged long h k = refl
  apply_one reply.Unchanged reply.Changed long h k = absurd (true≢false (sym h ∙ k.0))
  apply_one reply.Unchanged (reply.Invalidated set) long h k = absurd (true≢false (sym h ∙ k.0))
  apply_one reply.Changed reply.Unchanged long h k = absurd (true≢false (sym k ∙ h.0))
  apply_one reply.Changed reply.Changed long h k = refl
  apply_one reply.Changed (reply.Invalidated set) long h k = hit_not m st long h.1 k.2
  apply_one (reply.Invalidated set) reply.Unchanged long h k = absurd (true≢false (sym k ∙ h.0))
  apply_one (reply.Invalidated set) reply.Changed long h k = hit_not m st long k.1 h.2
  apply_one (reply.Invalidated set) (reply.Invalidated other) long h k = ap reply.Invalidated (same_set set other (λ i. h.1 i ∙ sym (k.1 i)))
  apply_one reply.Unchanged q long h k = absurd k
  apply_one reply.Changed q long h k = absurd k
  apply_one (reply.Invalidated set) q long h k = absurd k
  apply_one r q long h k = absurd h

  cancel_one : (r q : Reply T P E R O J B) → Replies m st command.Cancel r → Replies m st command.Cancel q → r ≡ q
  cancel_one (reply.Cancelled a) (reply.Cancelled b) h k = ap reply.Cancelled (h ∙ sym k)
  cancel_one (reply.Cancelled a) q h k = absurd k
  cancel_one r q h k = absurd h

  export_one : (r q : Reply T P E R O J B) → Replies m st command.Export r → Replies m st command.Export q → r ≡ q
  export_one (reply.Refused a) (reply.Refused b) h k = ap reply.Refused (some_same a b (sym h ∙ k))
  export_one (reply.Refused a) (reply.Gcode b) h k = some_none (m.problem st.applied) a k.0 h
  export_one (reply.Gcode a) (reply.Refused b) h k = some_none (m.problem st.applied) b h.0 k
  export_one (reply.Gcode a) (reply.Gcode b) h k = ap reply.Gcode (h.2 ∙ sym k.2)
  export_one (reply.Refused a) q h k = absurd k
  export_one (reply.Gcode a) q h k = absurd k
  export_one r q h k = absurd h

  status_one : (r q : Reply T P E R O J B) → Replies m st command.Status r → Replies m st command.Status q → r ≡ q
  status_one (reply.Modes a b c) (reply.Modes d e f) h k =
      let present : a ≡ d = same_set a d (λ i. h.0 i ∙ sym (k.0 i)) in
      let begun : b ≡ e = same_set b e (λ i. h.1 i ∙ sym (k.1 i)) in
      let finished : c ≡ f = same_set c f (λ i. h.2 i ∙ sym (k.2 i)) in
      cc
  status_one (reply.Modes a b c) q h k = absurd k
  status_one r q h k = absurd h

  after_one : (s n : ℕ) (r q : Reply T P E R O J B) → Replies m st (command.After s n) r → Replies m st (command.After s n) q → r ≡ q
  after_one s n reply.Passed reply.Passed h k = refl
  after_one s n reply.Passed q h k = absurd k
  after_one s n r q h k = absurd h

  pub one_reply : (c : Command E) (r q : Reply T P E R O J B) → length st.modes ≡ 100 → Replies m st c r → Replies m st c q → r ≡ q
  one_reply (command.Edit e) r q long h k = edit_one e r q h k
  one_reply command.Apply r q long h k = apply_one r q long h k
  one_reply command.Export r q long h k = export_one r q h k
  one_reply command.Status r q long h k = status_one r q h k
  one_reply command.Cancel r q long h k = cancel_one r q h k
  one_reply (command.After s n) r q long h k = after_one s n r q h k
