-- The bits of words.
use Rattle.std.proofs.Common.{◌≡◌, ◌==◌, ◌+◌, ◌-◌, ◌*◌, ◌/◌, ◌%◌, ◌^◌, ◌<◌, ℕ, zero, suc, false, cond, not, ◌&&◌, ◌||◌, List, slice_index, refl, ap, sym, ◌∙◌, arith, max, min, lit<}
use Rattle.std.specs.Int.{bit_at, bit_not, w64}
use Rattle.std.specs.Prelude.{bit_or, bit_and, nat_lt}
use Rattle.std.proofs.lemmas.Nat.Bits.{bit_at_and, bit_at_or, bit_at_not, bit_at-lt, bit_at-zero, bit_at_above, bit_at_xor, bit_at_ones, bit_at_ones_above}
use Rattle.std.proofs.lemmas.Bool.Decides.{nat_tests}
use Rattle.pl_lanes.specs.Bits.{has_bit, is_set, is_set_before, stays_set, comes_set, minus_word, moved_up, moved_down, word_before, eroded_word, dilated_word, toggled_word}
use Rattle.pl_lanes.proofs.Moves.{up_first, up_more, max_zero, zero_max, halved, raised_low, raised_high}

and_of : (a b : ℕ) → a < 2 → b < 2 → (min a b == 1) ≡ ((a == 1) && (b == 1))
and_of a b h k = grind (arith, nat_tests)

or_of : (a b : ℕ) → a < 2 → b < 2 → (max a b == 1) ≡ ((a == 1) || (b == 1))
or_of a b h k = grind (arith, nat_tests)

not_of : (a : ℕ) → a < 2 → (1 - a == 1) ≡ not (a == 1)
not_of a h = grind (arith, nat_tests)

pub has_bit-and : (a b i : ℕ) → has_bit (bit_and a b) i ≡ (has_bit a i && has_bit b i)
unfolding has_bit
has_bit-and a b i = ap (λ n. n == 1) (bit_at_and a b i) ∙ and_of (bit_at a i) (bit_at b i) (bit_at-lt a i) (bit_at-lt b i)

pub has_bit-or : (a b i : ℕ) → has_bit (bit_or a b) i ≡ (has_bit a i || has_bit b i)
unfolding has_bit
has_bit-or a b i = ap (λ n. n == 1) (bit_at_or a b i) ∙ or_of (bit_at a i) (bit_at b i) (bit_at-lt a i) (bit_at-lt b i)

pub has_bit-not : (a i : ℕ) → a < 2 ^ 64 → i < 64 → has_bit (bit_not w64 a) i ≡ not (has_bit a i)
unfolding has_bit
has_bit-not a i h k = ap (λ n. n == 1) (bit_at_not w64 a i h k) ∙ not_of (bit_at a i) (bit_at-lt a i)

pub has_bit-minus : (a b i : ℕ) → b < 2 ^ 64 → i < 64 → has_bit (minus_word a b) i ≡ (has_bit a i && not (has_bit b i))
has_bit-minus a b i h k = has_bit-and a (bit_not w64 b) i ∙ ap (λ t. has_bit a i && t) (has_bit-not b i h k)

-- ---- a word moved by one place

pub has_bit-zero : (i : ℕ) → has_bit 0 i ≡ false
unfolding has_bit
has_bit-zero i = ap (λ n. n == 1) (bit_at-zero i)

up_zero : (before word : ℕ) → before < 2 ^ 64 → has_bit (moved_up before word) 0 ≡ has_bit before 63
unfolding has_bit
up_zero before word h = ap (λ n. n == 1) (up_first before word h)

up_suc : (before word i : ℕ) → before < 2 ^ 64 → suc i < 64 → has_bit (moved_up before word) (suc i) ≡ has_bit word i
unfolding has_bit
up_suc before word i h k =
    ap (λ n. n == 1) (up_more before word i h k)

down_low : (word after i : ℕ) → i < 63 → has_bit (moved_down word after) i ≡ has_bit word (suc i)
unfolding has_bit
down_low word after i h = ap (λ n. n == 1) (bit_at_or (word / 2) (after * 2 ^ 63 % 2 ^ 64) i ∙ ap (λ b. max (bit_at (word / 2) i) b) (raised_low after i h) ∙ max_zero (bit_at (word / 2) i) ∙ halved word i)

down_high : (word after : ℕ) → word < 2 ^ 64 → has_bit (moved_down word after) 63 ≡ has_bit after 0
unfolding has_bit
down_high word after h = ap (λ n. n == 1) (bit_at_or (word / 2) (after * 2 ^ 63 % 2 ^ 64) 63 ∙ ap (λ b. max b (bit_at (after * 2 ^ 63 % 2 ^ 64) 63)) (halved word 63 ∙ bit_at_above word 64 64 h (omega arith)) ∙ zero_max (bit_at (after * 2 ^ 63 % 2 ^ 64) 63) ∙ raised_high after)

-- ---- the neighbours of a bit in its row

before_fits : (row : List ℕ) (k : ℕ) → ((j : ℕ) → slice_index row j < 2 ^ 64) → word_before row k < 2 ^ 64
before_fits row zero fits = lit< tt
before_fits row (suc k) fits = fits k

before_at : (row : List ℕ) (y k i : ℕ) → ((j : ℕ) → slice_index row j < 2 ^ 64) → suc y ≡ 64 * k + i → i < 64 → is_set row y ≡ has_bit (moved_up (word_before row k) (slice_index row k)) i
before_at row y zero zero fits e h = absurd (omega arith)
before_at row y (suc m) zero fits e h =
    let word : y / 64 ≡ m = omega arith in
    let bit : y % 64 ≡ 63 = omega arith in
    ap (λ w. has_bit (slice_index row w) (y % 64)) word ∙ ap (λ b. has_bit (slice_index row m) b) bit ∙ sym (up_zero (slice_index row m) (slice_index row (suc m)) (fits m))
before_at row y k (suc j) fits e h =
    let word : y / 64 ≡ k = omega arith in
    let bit : y % 64 ≡ j = omega arith in
    let small = before_fits row k fits in
    ap (λ w. has_bit (slice_index row w) (y % 64)) word ∙ ap (λ b. has_bit (slice_index row k) b) bit ∙ sym (up_suc (word_before row k) (slice_index row k) j small h)

pub before_is : (row : List ℕ) (x : ℕ) → ((j : ℕ) → slice_index row j < 2 ^ 64) → is_set_before row x ≡ has_bit (moved_up (word_before row (x / 64)) (slice_index row (x / 64))) (x % 64)
before_is row zero fits = sym (up_zero 0 (slice_index row 0) (lit< tt) ∙ has_bit-zero 63)
before_is row (suc y) fits = before_at row y (suc y / 64) (suc y % 64) fits (omega arith) (omega arith)

pub after_is : (row : List ℕ) (x : ℕ) → ((j : ℕ) → slice_index row j < 2 ^ 64) → is_set row (x + 1) ≡ has_bit (moved_down (slice_index row (x / 64)) (slice_index row (x / 64 + 1))) (x % 64)
after_is row x fits =
    let inside : x % 64 < 63 → is_set row (x + 1) ≡ has_bit (moved_down (slice_index row (x / 64)) (slice_index row (x / 64 + 1))) (x % 64) = λ h.
    let word : (x + 1) / 64 ≡ x / 64 = omega arith in
    let bit : (x + 1) % 64 ≡ suc (x % 64) = omega arith in
    ap (λ w. has_bit (slice_index row w) ((x + 1) % 64)) word ∙ ap (λ b. has_bit (slice_index row (x / 64)) b) bit ∙ sym (down_low (slice_index row (x / 64)) (slice_index row (x / 64 + 1)) (x % 64) h) in
    let last : x % 64 ≡ 63 → is_set row (x + 1) ≡ has_bit (moved_down (slice_index row (x / 64)) (slice_index row (x / 64 + 1))) (x % 64) = λ e.
    let word : (x + 1) / 64 ≡ x / 64 + 1 = omega arith in
    let bit : (x + 1) % 64 ≡ 0 = omega arith in
    ap (λ w. has_bit (slice_index row w) ((x + 1) % 64)) word ∙ ap (λ b. has_bit (slice_index row (x / 64 + 1)) b) bit ∙ sym (ap (λ i. has_bit (moved_down (slice_index row (x / 64)) (slice_index row (x / 64 + 1))) i) e ∙ down_high (slice_index row (x / 64)) (slice_index row (x / 64 + 1)) (fits (x / 64))) in
    let within : x % 64 < 64 = omega arith in
    grind (arith, inside, last)

-- the bits of an eroded word are those that stay
pub stays_is : (below row above : List ℕ) (x : ℕ) → ((j : ℕ) → slice_index row j < 2 ^ 64) → has_bit (eroded_word below row above (x / 64)) (x % 64) ≡ stays_set below row above x
stays_is below row above x fits =
    let k = x / 64 in
    let i = x % 64 in
    has_bit-and (bit_and (slice_index row (x / 64)) (bit_and (moved_up (word_before row (x / 64)) (slice_index row (x / 64))) (moved_down (slice_index row (x / 64)) (slice_index row (x / 64 + 1))))) (bit_and (slice_index below (x / 64)) (slice_index above (x / 64))) (x % 64)
    ∙ ap (λ t. has_bit (bit_and (slice_index row (x / 64)) (bit_and (moved_up (word_before row (x / 64)) (slice_index row (x / 64))) (moved_down (slice_index row (x / 64)) (slice_index row (x / 64 + 1))))) (x % 64) && t) (has_bit-and (slice_index below (x / 64)) (slice_index above (x / 64)) (x % 64))
    ∙ ap (λ t. t && (is_set below x && is_set above x)) (has_bit-and (slice_index row (x / 64)) (bit_and (moved_up (word_before row (x / 64)) (slice_index row (x / 64))) (moved_down (slice_index row (x / 64)) (slice_index row (x / 64 + 1)))) (x % 64))
    ∙ ap (λ t. (is_set row x && t) && (is_set below x && is_set above x)) (has_bit-and (moved_up (word_before row (x / 64)) (slice_index row (x / 64))) (moved_down (slice_index row (x / 64)) (slice_index row (x / 64 + 1))) (x % 64) ∙ ap (λ t. t && has_bit (moved_down (slice_index row (x / 64)) (slice_index row (x / 64 + 1))) (x % 64)) (sym (before_is row x fits)) ∙ ap (λ t. is_set_before row x && t) (sym (after_is row x fits)))

-- the bits of a dilated word are those that come
pub comes_is : (below row above : List ℕ) (x : ℕ) → ((j : ℕ) → slice_index row j < 2 ^ 64) → has_bit (dilated_word below row above (x / 64)) (x % 64) ≡ comes_set below row above x
comes_is below row above x fits =
    has_bit-or (bit_or (slice_index row (x / 64)) (bit_or (moved_up (word_before row (x / 64)) (slice_index row (x / 64))) (moved_down (slice_index row (x / 64)) (slice_index row (x / 64 + 1))))) (bit_or (slice_index below (x / 64)) (slice_index above (x / 64))) (x % 64)
    ∙ ap (λ t. has_bit (bit_or (slice_index row (x / 64)) (bit_or (moved_up (word_before row (x / 64)) (slice_index row (x / 64))) (moved_down (slice_index row (x / 64)) (slice_index row (x / 64 + 1))))) (x % 64) || t) (has_bit-or (slice_index below (x / 64)) (slice_index above (x / 64)) (x % 64))
    ∙ ap (λ t. t || (is_set below x || is_set above x)) (has_bit-or (slice_index row (x / 64)) (bit_or (moved_up (word_before row (x / 64)) (slice_index row (x / 64))) (moved_down (slice_index row (x / 64)) (slice_index row (x / 64 + 1)))) (x % 64))
    ∙ ap (λ t. (is_set row x || t) || (is_set below x || is_set above x)) (has_bit-or (moved_up (word_before row (x / 64)) (slice_index row (x / 64))) (moved_down (slice_index row (x / 64)) (slice_index row (x / 64 + 1))) (x % 64) ∙ ap (λ t. t || has_bit (moved_down (slice_index row (x / 64)) (slice_index row (x / 64 + 1))) (x % 64)) (sym (before_is row x fits)) ∙ ap (λ t. is_set_before row x || t) (sym (after_is row x fits)))

-- ---- the lowest bits turned over

pub either_is : (a b : ℕ) → a < 2 → b < 2 → ((a + b) % 2 == 1) ≡ cond (b == 1) (not (a == 1)) (a == 1)
either_is zero zero h k = refl
either_is zero (suc zero) h k = refl
either_is (suc zero) zero h k = refl
either_is (suc zero) (suc zero) h k = refl
either_is (suc (suc a)) b h k = absurd (omega arith)
either_is zero (suc (suc b)) h k = absurd (omega arith)
either_is (suc zero) (suc (suc b)) h k = absurd (omega arith)

low_bits : (n i : ℕ) → (bit_at (2 ^ n - 1) i == 1) ≡ nat_lt i n
low_bits n i = grind (arith, nat_tests, bit_at_ones n i, bit_at_ones_above n i)

-- the n lowest bits
pub has_bit-ones : (n i : ℕ) → has_bit (2 ^ n - 1) i ≡ nat_lt i n
unfolding has_bit
has_bit-ones n i = low_bits n i

pub has_bit-toggled : (word n i : ℕ) → has_bit (toggled_word word n) i ≡ cond (nat_lt i n) (not (has_bit word i)) (has_bit word i)
unfolding has_bit
has_bit-toggled word n i = ap (λ b. b == 1) (bit_at_xor word (2 ^ n - 1) i) ∙ either_is (bit_at word i) (bit_at (2 ^ n - 1) i) (bit_at-lt word i) (bit_at-lt (2 ^ n - 1) i)
    ∙ ap (λ b. cond b (not (bit_at word i == 1)) (bit_at word i == 1)) (low_bits n i)

-- place k is below x where its bit is below the part of x in its word
pub below_in_word : (k x : ℕ) → nat_lt (k % 64) (min (x - 64 * (k / 64)) 64) ≡ nat_lt k x
below_in_word k x = grind (arith, nat_tests)
