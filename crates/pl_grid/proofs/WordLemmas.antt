-- The bits of one word.
use Rattle.std.proofs.Common.{◌≡◌, ◌==◌, ◌+◌, ◌-◌, ◌*◌, ◌/◌, ◌%◌, ◌^◌, ◌<◌, ◌≤◌, ℕ, zero, suc, Bool, true, false, cond, not, ◌&&◌, refl, ap, sym, ◌∙◌, arith, max, min, add-zero}
use Rattle.std.specs.Int.{bit_at, bit_not, w64}
use Rattle.std.specs.Prelude.{bit_or, bit_and, nat_lt}
use Rattle.std.proofs.lemmas.Nat.{shr-shr, pow_pos}
use Rattle.std.proofs.lemmas.Nat.Bits.{bit_at_or, bit_at_cat_low, bit_at_cat_high, bit_at-zero, bit_at_above, bit_at_set_same, bit_at_set_other, bit_at_clear_same, bit_at_clear_other, bit_at-trailing_zeros, ones_shr}
use Rattle.std.specs.Int.Count.{count_trailing_zeros, trailing_of_zero}
use Rattle.pl_lanes.specs.Bits.{has_bit}
use Rattle.pl_lanes.proofs.BitLemmas.{has_bit-and, has_bit-not, has_bit-ones}
use Rattle.pl_lanes.proofs.SquareLemmas.{cut}
use Rattle.pl_grid.proofs.Cases.{by_eq, by_lt, eq_yes, eq_no, lt_yes, lt_no, false_not_true}

-- ---- one bit changed

pub has_bit-set : (word at : ℕ) (v : Bool) → at < 64 → v ≡ true → (k : ℕ) → has_bit (bit_or word (1 * 2 ^ at % 2 ^ 64)) k ≡ cond (k == at) v (has_bit word k)
unfolding has_bit
has_bit-set word at v h ev k = by_eq k at
    (λ e. ap (λ i. bit_at (bit_or word (1 * 2 ^ at % 2 ^ 64)) i == 1) e ∙ ap (λ b. b == 1) (bit_at_set_same w64 word at h) ∙ sym (ap (λ b. cond b v (bit_at word k == 1)) (eq_yes k at e) ∙ ev))
    (λ apart. ap (λ b. b == 1) (bit_at_set_other w64 word at h k apart) ∙ sym (ap (λ b. cond b v (bit_at word k == 1)) (eq_no k at apart)))

pub has_bit-cleared : (word at : ℕ) (v : Bool) → at < 64 → v ≡ false → (k : ℕ) → k < 64 → has_bit (bit_and word (bit_not w64 (1 * 2 ^ at % 2 ^ 64))) k ≡ cond (k == at) v (has_bit word k)
unfolding has_bit
has_bit-cleared word at v h ev k hk = by_eq k at
    (λ e. ap (λ i. bit_at (bit_and word (bit_not w64 (1 * 2 ^ at % 2 ^ 64))) i == 1) e ∙ ap (λ b. b == 1) (bit_at_clear_same w64 word at h) ∙ sym (ap (λ b. cond b v (bit_at word k == 1)) (eq_yes k at e) ∙ ev))
    (λ apart. ap (λ b. b == 1) (bit_at_clear_other w64 word at h k hk apart) ∙ sym (ap (λ b. cond b v (bit_at word k == 1)) (eq_no k at apart)))

-- ---- the lowest bit

pub lowest_below : (word : ℕ) → word < 2 ^ 64 → (k : ℕ) → k < count_trailing_zeros 64 word → has_bit word k ≡ false
unfolding has_bit
lowest_below zero small k h = ap (λ b. b == 1) (bit_at-zero k)
lowest_below (suc n) small k h = ap (λ b. b == 1) ((bit_at-trailing_zeros w64 (suc n) (omega arith) small).2 k h)

pub lowest_here : (word : ℕ) → word < 2 ^ 64 → count_trailing_zeros 64 word < 64 → has_bit word (count_trailing_zeros 64 word) ≡ true
unfolding has_bit
lowest_here zero small h = absurd (omega (arith, trailing_of_zero 64))
lowest_here (suc n) small h = ap (λ b. b == 1) ((bit_at-trailing_zeros w64 (suc n) (omega arith) small).1)

-- the bits of a word moved down
pub has_bit-down : (word at k : ℕ) → has_bit (word / 2 ^ at) k ≡ has_bit word (at + k)
unfolding has_bit
has_bit-down word at k = ap (λ n. n % 2 == 1) (shr-shr word at k)

-- from one bit on, as far as the lowest that is set
pub unset_some : (word at low : ℕ) → at < 64 → has_bit word at ≡ false → (low < 64 → has_bit (word / 2 ^ at) low ≡ true) → 0 < min low (64 - at)
unset_some word at zero h e here = absurd (false_not_true (sym e ∙ sym (has_bit-down word at 0 ∙ ap (λ k. has_bit word k) (add-zero at)) ∙ here (omega arith)))
unset_some word at (suc low) h e here = omega arith

pub alike_set : (word at k : ℕ) → word < 2 ^ 64 → at + k < 64 → has_bit word at ≡ true → has_bit (bit_not w64 word) (at + k) ≡ false → has_bit word (at + k) ≡ has_bit word at
alike_set word at k small within e h = double (has_bit word (at + k)) (sym (has_bit-not word (at + k) small within) ∙ h) ∙ sym e
  where
    double : (b : Bool) → not b ≡ false → b ≡ true
    double true e = refl
    double false e = absurd (false_not_true (sym e))

pub unset_after_set : (word at : ℕ) → word < 2 ^ 64 → at < 64 → has_bit word at ≡ true → has_bit (bit_not w64 word) at ≡ false
unset_after_set word at small h e = has_bit-not word at small h ∙ ap not e

-- ---- a word moved up

up_low : (word by k : ℕ) → k < 64 → k < by → bit_at (word * 2 ^ by % 2 ^ 64) k ≡ 0
up_low word by k h low = cut (word * 2 ^ by) k h ∙ ap (λ m. bit_at m k) (sym (add-zero (word * 2 ^ by))) ∙ bit_at_cat_low word by 0 k low ∙ bit_at-zero k

up_high : (word by k : ℕ) → k < 64 → by ≤ k → bit_at (word * 2 ^ by % 2 ^ 64) k ≡ bit_at word (k - by)
up_high word by k h high = cut (word * 2 ^ by) k h ∙ ap (λ m. bit_at m k) (sym (add-zero (word * 2 ^ by))) ∙ bit_at_cat_high word by 0 k (pow_some by) high
  where
    pow_some : (n : ℕ) → 0 < 2 ^ n
    pow_some n = pow_pos n

none_max : (b : ℕ) → max 0 b ≡ b
none_max b = omega arith

max_none : (b : ℕ) → max b 0 ≡ b
max_none b = omega arith

pub has_bit-moved : (before word by k : ℕ) → before < 2 ^ 64 → by < 64 → k < 64 → has_bit (bit_or (word * 2 ^ by % 2 ^ 64) (before / 2 ^ (64 - by))) k ≡ cond (nat_lt k by) (has_bit before (64 - by + k)) (has_bit word (k - by))
unfolding has_bit
has_bit-moved before word by k small h hk =
    let moved : bit_at (before / 2 ^ (64 - by)) k ≡ bit_at before (64 - by + k) = ap (λ n. n % 2) (shr-shr before (64 - by) k) in
    by_lt k by
    (λ low. ap (λ b. b == 1) (bit_at_or (word * 2 ^ by % 2 ^ 64) (before / 2 ^ (64 - by)) k ∙ ap (λ b. max b (bit_at (before / 2 ^ (64 - by)) k)) (up_low word by k hk low) ∙ none_max (bit_at (before / 2 ^ (64 - by)) k) ∙ moved)
    ∙ sym (ap (λ b. cond b (bit_at before (64 - by + k) == 1) (bit_at word (k - by) == 1)) (lt_yes k by low)))
    (λ high. ap (λ b. b == 1) (bit_at_or (word * 2 ^ by % 2 ^ 64) (before / 2 ^ (64 - by)) k ∙ ap (λ b. max (bit_at (word * 2 ^ by % 2 ^ 64) k) b) (moved ∙ bit_at_above before 64 (64 - by + k) small (omega arith)) ∙ max_none (bit_at (word * 2 ^ by % 2 ^ 64) k) ∙ up_high word by k hk high)
    ∙ sym (ap (λ b. cond b (bit_at before (64 - by + k) == 1) (bit_at word (k - by) == 1)) (lt_no k by high)))

-- ---- the high bits unset

pub has_bit-kept : (word by k : ℕ) → by ≤ 64 → has_bit (bit_and word ((2 ^ 64 - 1) / 2 ^ by)) k ≡ (nat_lt k (64 - by) && has_bit word k)
has_bit-kept word by k h =
    has_bit-and word ((2 ^ 64 - 1) / 2 ^ by) k ∙ ap (λ b. has_bit word k && b) (ap (λ n. has_bit n k) (ones_shr 64 by h) ∙ has_bit-ones (64 - by) k) ∙ swap (has_bit word k) (nat_lt k (64 - by))
  where
    swap : (a b : Bool) → (a && b) ≡ (b && a)
    swap true true = refl
    swap true false = refl
    swap false true = refl
    swap false false = refl
