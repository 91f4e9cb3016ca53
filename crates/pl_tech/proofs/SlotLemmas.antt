-- What the bits of a set say.
use Rattle.std.proofs.Common.{zero, suc, sym, filter, cond, length, length-append, count_ones, [], ◌∷◌, ◌++◌, ◌≡◌, ℕ, ◌+◌, ◌%◌, ◌*◌, ◌<◌, ◌≤◌, ◌^◌, ◌==◌, ◌||◌, ◌&&◌, not, Bool, true, false, refl, ap, ◌∙◌, min, max, arith, inl, inr, bit_and, bit_or}
use Rattle.std.specs.Int.RustNames.{bit_xor}
use Rattle.std.specs.Int.{bit_at}
use Rattle.std.proofs.lemmas.Nat.{pow_below, pow_pos}
use Rattle.std.proofs.lemmas.Nat.Bits.{bit_at_or, bit_at_and, bit_at_xor, bit_at-pow_same, bit_at-pow_other, bit_at-trailing_zeros}
use Rattle.std.proofs.Math.Nat.{mod-eq_of_lt, mod-lt, div-eq_of_lt}
use Rattle.std.proofs.Math.Pow.{pow_mono}
use Rattle.std.proofs.lemmas.Bool.{cases_lt}
use Rattle.std.specs.Int.{trailing_zeros, w128}
use Rattle.std.proofs.lemmas.Bool.Decides.{nat_tests}
use Rattle.pl_tech.specs.Slots.{has, members}
use Rattle.std.specs.List.{range_with_len}
use Rattle.std.proofs.lemmas.List.{map-id}
use Rattle.std.proofs.lemmas.List.FromFn.{filter_of_map_range_with_len_more}
use Rattle.std.proofs.lemmas.Nat.{ones_le_self, zero_from_ones, ones-le, ones_cat, mod-pow-add}

max_bits : (a b : ℕ) → a < 2 → b < 2 → (max a b == 1) ≡ ((a == 1) || (b == 1))
max_bits a b p q = grind arith

pub has-or : (a b k : ℕ) → has (bit_or a b) k ≡ (has a k || has b k)
has-or a b k = ap (λ n. n == 1) (bit_at_or a b k) ∙ max_bits (bit_at a k) (bit_at b k) (omega arith) (omega arith)

minus_bits : (a b : ℕ) → a < 2 → b < 2 → ((a + min a b) % 2 == 1) ≡ ((a == 1) && not (b == 1))
minus_bits a b p q = grind arith

pub has-minus : (a b k : ℕ) → has (bit_xor a (bit_and a b)) k ≡ (has a k && not (has b k))
has-minus a b k =
    ap (λ n. n == 1) (bit_at_xor a (bit_and a b) k ∙ ap (λ n. (bit_at a k + n) % 2) (bit_at_and a b k))
    ∙ minus_bits (bit_at a k) (bit_at b k) (omega arith) (omega arith)

one_is : (n : ℕ) → n < 100 → 1 * 2 ^ n % 2 ^ 128 ≡ 2 ^ n
one_is n p = let small : 2 ^ n < 2 ^ 128 = pow_below n 128 (omega arith) in omega (arith, mod-eq_of_lt small)

pub one_below : (n : ℕ) → n < 100 → 1 * 2 ^ n % 2 ^ 128 < 2 ^ 100
one_below n p = rw (one_is n p) (pow_below n 100 p)

has-pow : (n k : ℕ) → has (2 ^ n) k ≡ (k == n)
has-pow n k = grind (arith, nat_tests, bit_at-pow_same, bit_at-pow_other)

or_comm : (a b : Bool) → (a || b) ≡ (b || a)
or_comm true true = refl
or_comm true false = refl
or_comm false true = refl
or_comm false false = refl

with_bit : (a n k : ℕ) → n < 100 → has (bit_or a (2 ^ n)) k ≡ ((k == n) || has a k)
with_bit a n k p = has-or a (2 ^ n) k ∙ (rw (has-pow n k) (or_comm (has a k) (k == n)))

pub has-with : (a n k : ℕ) → n < 100 → has (bit_or a (1 * 2 ^ n % 2 ^ 128)) k ≡ ((k == n) || has a k)
has-with a n k p = rw (one_is n p) (with_bit a n k p)

-- no bit stands at 100 or above
pub high_bit : (n k : ℕ) → n < 2 ^ 100 → 100 ≤ k → bit_at n k ≡ 0
high_bit n k low far =
    let wide : 2 ^ 100 ≤ 2 ^ k = pow_mono far in
    ap (λ q. q % 2) (div-eq_of_lt (let less : n < 2 ^ k = omega arith in less))

pub record IsLeast (n z : ℕ) : Type 0 where
  pub below : z < 100
  pub member : has n z ≡ true
  pub first : (k : ℕ) → k < z → has n k ≡ false

pub least_bit : (n : ℕ) → n < 2 ^ 100 → 0 < n → IsLeast n (trailing_zeros w128 n)
least_bit n low some =
    let t = bit_at-trailing_zeros w128 n some (let fits : n < 2 ^ 128 = omega arith in fits) in
    record {
      below = elim (cases_lt (trailing_zeros w128 n) 100) [
        | inl here ↦ here
        | inr far ↦ absurd (let none = high_bit n (trailing_zeros w128 n) low far in omega (arith, none, t.1))
      ];
      member = ap (λ b. b == 1) t.1;
      first = λ k h. ap (λ b. b == 1) (t.2 k h);
    }

one_more : (p : ℕ → Bool) (d : ℕ) → filter p (range_with_len 0 (d + 1)) ≡ filter p (range_with_len 0 d) ++ cond (p d) (d ∷ []) []
one_more p d =
    let more = filter_of_map_range_with_len_more p (λ x. x) 0 d d (omega arith) in
    sym (ap (filter p) (map-id (range_with_len 0 (d + 1)))) ∙ more ∙ ap (λ l. filter p l ++ cond (p d) (d ∷ []) []) (map-id (range_with_len 0 d))

ones_of_bit : (b : ℕ) → b < 2 → count_ones b ≡ b
ones_of_bit zero h = omega (arith, ones_le_self 0)
ones_of_bit (suc zero) h =
    elim (cases_lt 0 (count_ones 1)) [
      | inl some ↦ omega (arith, ones_le_self 1)
      | inr none ↦ absurd (omega (arith, zero_from_ones 1 (omega arith)))
    ]
ones_of_bit (suc (suc b)) h = absurd (omega arith)

len_of_bit : (b d : ℕ) → b < 2 → length (cond (b == 1) (d ∷ []) []) ≡ b
len_of_bit b d h = grind (arith, nat_tests)

ones_below : (n d : ℕ) → count_ones (n % 2 ^ d) ≡ length (filter (has n) (range_with_len 0 d))
ones_below n zero = omega (arith, ones-le 0 (n % 1) (omega arith))
ones_below n (suc d) =
    let low : bit_at n d < 2 = omega arith in
    let next : suc d ≡ 1 + d = omega arith in
    let split : n % 2 ^ suc d ≡ bit_at n d * 2 ^ d + n % 2 ^ d = ap (λ k. n % 2 ^ k) next ∙ mod-pow-add n 1 d in
    let rest : n % 2 ^ d < 2 ^ d = mod-lt n (pow_pos d) in
    let ones = ap count_ones split ∙ ones_cat d (bit_at n d) (n % 2 ^ d) rest in
    let more = ap length (one_more (has n) d) ∙ length-append (filter (has n) (range_with_len 0 d)) (cond (has n d) (d ∷ []) []) in
    let count : count_ones (n % 2 ^ suc d) ≡ length (filter (has n) (range_with_len 0 (d + 1))) = omega (arith, ones, more, ones_below n d, ones_of_bit (bit_at n d) low, len_of_bit (bit_at n d) d low) in
    let here : d + 1 ≡ suc d = omega arith in
    count ∙ ap (λ k. length (filter (has n) (range_with_len 0 k))) here

pub count_members : (n : ℕ) → n < 2 ^ 100 → count_ones n ≡ length (members n)
unfolding members
count_members n low = ap count_ones (sym (mod-eq_of_lt low)) ∙ ones_below n 100
