-- The bits of a square whose blocks swap over the diagonal.
use Rattle.std.proofs.Common.{◌≡◌, ◌==◌, ◌+◌, ◌-◌, ◌*◌, ◌/◌, ◌%◌, ◌^◌, ◌<◌, ◌≤◌, ℕ, Bool, true, false, cond, not, ◌&&◌, ◌||◌, refl, ap, sym, ◌∙◌, arith, add-zero}
use Rattle.std.specs.Int.{bit_at, bit_not, w64}
use Rattle.std.specs.Prelude.{bit_or, bit_and}
use Rattle.std.proofs.lemmas.Nat.{shr-shr, shr_split, pow_pos}
use Rattle.std.proofs.lemmas.Nat.Bits.{bit_at_cat_low, bit_at_cat_high, bit_at-zero}
use Rattle.pl_lanes.specs.Bits.{has_bit}
use Rattle.pl_lanes.specs.Squares.{IsHalves}
use Rattle.pl_lanes.proofs.BitLemmas.{has_bit-and, has_bit-or, has_bit-not}

-- ---- a word moved by some places

pub cut : (n k : ℕ) → k < 64 → bit_at (n % 2 ^ 64) k ≡ bit_at n k
cut n k h = sym (bit_at_cat_low (n / 2 ^ 64) 64 (n % 2 ^ 64) k h) ∙ ap (λ m. bit_at m k) (shr_split n 64)

shl_low : (word by k : ℕ) → k < 64 → k < by → has_bit (word * 2 ^ by % 2 ^ 64) k ≡ false
unfolding has_bit
shl_low word by k h low = ap (λ n. n == 1) (cut (word * 2 ^ by) k h ∙ ap (λ m. bit_at m k) (sym (add-zero (word * 2 ^ by))) ∙ bit_at_cat_low word by 0 k low ∙ bit_at-zero k)

shl_high : (word by k : ℕ) → k < 64 → by ≤ k → has_bit (word * 2 ^ by % 2 ^ 64) k ≡ has_bit word (k - by)
unfolding has_bit
shl_high word by k h high = ap (λ n. n == 1) (cut (word * 2 ^ by) k h ∙ ap (λ m. bit_at m k) (sym (add-zero (word * 2 ^ by))) ∙ bit_at_cat_high word by 0 k (pow_pos by) high)

shr_any : (word by k : ℕ) → has_bit (word / 2 ^ by) k ≡ has_bit word (k + by)
unfolding has_bit
shr_any word by k =
    let e : by + k ≡ k + by = omega arith in
    ap (λ n. n % 2 == 1) (shr-shr word by k) ∙ ap (λ i. bit_at word i == 1) e

-- ---- two rows that swap

only_first : (x y : Bool) (h : Bool) → h ≡ true → ((x && h) || false) ≡ cond h x y
only_first true y true e = refl
only_first false y true e = refl
only_first x y false e = absurd (cc e)

either_half : (x y g h : Bool) → h ≡ not g → ((x && h) || (y && g)) ≡ cond h x y
either_half true y false true e = refl
either_half false true false true e = refl
either_half false false false true e = refl
either_half true true true false e = refl
either_half true false true false e = refl
either_half false true true false e = refl
either_half false false true false e = refl
either_half x y true true e = absurd (cc e)
either_half x y false false e = absurd (cc e)

double_not : (h : Bool) → h ≡ not (not h)
double_not true = refl
double_not false = refl

far : (by halves j : ℕ) → IsHalves by halves → j < 64 → by ≤ j → has_bit halves j ≡ not (has_bit halves (j - by))
far by halves j is less high =
    let e : j ≡ j - by + by = omega arith in
    ap (has_bit halves) e ∙ is.pairs (j - by) (omega arith)

first_low : (a b by halves j : ℕ) → IsHalves by halves → j < 64 → j < by → has_bit (bit_or (bit_and a halves) (bit_and b halves * 2 ^ by % 2 ^ 64)) j ≡ cond (has_bit halves j) (has_bit a j) (has_bit b (j - by))
first_low a b by halves j is less low =
    has_bit-or (bit_and a halves) (bit_and b halves * 2 ^ by % 2 ^ 64) j
    ∙ ap (λ t. has_bit (bit_and a halves) j || t) (shl_low (bit_and b halves) by j less low)
    ∙ ap (λ t. t || false) (has_bit-and a halves j)
    ∙ only_first (has_bit a j) (has_bit b (j - by)) (has_bit halves j) (is.start j low)

first_high : (a b by halves j : ℕ) → IsHalves by halves → j < 64 → by ≤ j → has_bit (bit_or (bit_and a halves) (bit_and b halves * 2 ^ by % 2 ^ 64)) j ≡ cond (has_bit halves j) (has_bit a j) (has_bit b (j - by))
first_high a b by halves j is less high =
    has_bit-or (bit_and a halves) (bit_and b halves * 2 ^ by % 2 ^ 64) j
    ∙ ap (λ t. has_bit (bit_and a halves) j || t) (shl_high (bit_and b halves) by j less high ∙ has_bit-and b halves (j - by))
    ∙ ap (λ t. t || (has_bit b (j - by) && has_bit halves (j - by))) (has_bit-and a halves j)
    ∙ either_half (has_bit a j) (has_bit b (j - by)) (has_bit halves (j - by)) (has_bit halves j) (far by halves j is less high)

pub first_is : (a b by halves j : ℕ) → IsHalves by halves → j < 64 → has_bit (bit_or (bit_and a halves) (bit_and b halves * 2 ^ by % 2 ^ 64)) j ≡ cond (has_bit halves j) (has_bit a j) (has_bit b (j - by))
first_is a b by halves j is less =
    let low : j < by → has_bit (bit_or (bit_and a halves) (bit_and b halves * 2 ^ by % 2 ^ 64)) j ≡ cond (has_bit halves j) (has_bit a j) (has_bit b (j - by)) = λ h. first_low a b by halves j is less h in
    let high : by ≤ j → has_bit (bit_or (bit_and a halves) (bit_and b halves * 2 ^ by % 2 ^ 64)) j ≡ cond (has_bit halves j) (has_bit a j) (has_bit b (j - by)) = λ h. first_high a b by halves j is less h in
    grind (arith, low, high)

pub second_is : (a b by halves j : ℕ) → halves < 2 ^ 64 → j < 64 → has_bit (bit_or (bit_and (a / 2 ^ by) halves) (bit_and b (bit_not w64 halves))) j ≡ cond (has_bit halves j) (has_bit a (j + by)) (has_bit b j)
second_is a b by halves j small less =
    has_bit-or (bit_and (a / 2 ^ by) halves) (bit_and b (bit_not w64 halves)) j
    ∙ ap (λ t. has_bit (bit_and (a / 2 ^ by) halves) j || t) (has_bit-and b (bit_not w64 halves) j ∙ ap (λ t. has_bit b j && t) (has_bit-not halves j small less))
    ∙ ap (λ t. t || (has_bit b j && not (has_bit halves j))) (has_bit-and (a / 2 ^ by) halves j ∙ ap (λ t. t && has_bit halves j) (shr_any a by j))
    ∙ either_half (has_bit a (j + by)) (has_bit b j) (not (has_bit halves j)) (has_bit halves j) (double_not (has_bit halves j))
