-- The bits of a row whose lowest bits are turned over, word by word.
use Rattle.std.proofs.Common.{◌≡◌, ◌-◌, ◌*◌, ◌/◌, ◌%◌, ◌<◌, ◌≤◌, ℕ, List, slice_index, false, cond, not, min, ap, sym, ◌∙◌, arith}
use Rattle.std.specs.Prelude.{nat_lt}
use Rattle.std.proofs.lemmas.Bool.Decides.{nat_tests}
use Rattle.pl_lanes.specs.Bits.{has_bit, is_set, toggled_word}
use Rattle.pl_lanes.proofs.BitLemmas.{has_bit-toggled, below_in_word}

-- in a word that is done
pub toggled_done : (row out : List ℕ) (at x k : ℕ) → ((w : ℕ) → w < at → slice_index out w ≡ toggled_word (slice_index row w) (min (x - 64 * w) 64)) → k / 64 < at → is_set out k ≡ cond (nat_lt k x) (not (is_set row k)) (is_set row k)
toggled_done row out at x k done word =
    ap (λ w. has_bit w (k % 64)) (done (k / 64) word)
    ∙ has_bit-toggled (slice_index row (k / 64)) (min (x - 64 * (k / 64)) 64) (k % 64)
    ∙ ap (λ b. cond b (not (is_set row k)) (is_set row k)) (below_in_word k x)

past : (k x : ℕ) → x ≤ k → nat_lt k x ≡ false
past k x h = grind (arith, nat_tests)

-- in a word past the last that has a bit to turn over
toggled_rest : (row out : List ℕ) (at x k : ℕ) → ((w : ℕ) → at ≤ w → slice_index out w ≡ slice_index row w) → x ≤ 64 * at → at ≤ k / 64 → is_set out k ≡ cond (nat_lt k x) (not (is_set row k)) (is_set row k)
toggled_rest row out at x k rest few word =
    ap (λ w. has_bit w (k % 64)) (rest (k / 64) word)
    ∙ sym (ap (λ b. cond b (not (is_set row k)) (is_set row k)) (past k x (omega arith)))

-- in each word, once no bit is left to turn over
pub toggled_each : (row out : List ℕ) (at x k : ℕ) → ((w : ℕ) → w < at → slice_index out w ≡ toggled_word (slice_index row w) (min (x - 64 * w) 64)) → ((w : ℕ) → at ≤ w → slice_index out w ≡ slice_index row w) → x ≤ 64 * at → is_set out k ≡ cond (nat_lt k x) (not (is_set row k)) (is_set row k)
toggled_each row out at x k done rest few =
    let low : k / 64 < at → is_set out k ≡ cond (nat_lt k x) (not (is_set row k)) (is_set row k) = λ h. toggled_done row out at x k done h in
    let high : at ≤ k / 64 → is_set out k ≡ cond (nat_lt k x) (not (is_set row k)) (is_set row k) = λ h. toggled_rest row out at x k rest few h in
    grind (arith, low, high)
