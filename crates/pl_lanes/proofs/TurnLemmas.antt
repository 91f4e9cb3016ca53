-- The six swaps that turn a square over its diagonal.
use Rattle.std.proofs.Common.{◌≡◌, ◌==◌, ◌+◌, ◌-◌, ◌*◌, ◌/◌, ◌%◌, ◌<◌, ◌≢◌, ℕ, zero, suc, Bool, true, false, not, ◌&&◌, ◌||◌, List, length, slice_index, slice_set, refl, ap, sym, ◌∙◌, arith, get_or-set_other, get_or-set_same}
use Rattle.std.specs.Prelude.{nat_lt}
use Rattle.std.proofs.lemmas.Bool.Decides.{nat_tests, Decides-eqb}
use Rattle.pl_lanes.specs.Bits.{has_bit}
use Rattle.pl_lanes.specs.Squares.{IsHalves, swapped_word, swapped_bit}

-- ---- tests of all numbers below one

each_below : ℕ → (ℕ → Bool) → Bool
each_below zero test = true
each_below (suc n) test = test n && each_below n test

left_of : (a b : Bool) → (a && b) ≡ true → a ≡ true
left_of true b e = refl
left_of false b e = e

right_of : (a b : Bool) → (a && b) ≡ true → b ≡ true
right_of true b e = e
right_of false true e = refl
right_of false false e = e

at_each : (n : ℕ) (test : ℕ → Bool) → each_below n test ≡ true → (k : ℕ) → k < n → test k ≡ true
unfolding each_below
at_each zero test e k h = absurd (omega arith)
at_each (suc n) test e k h =
    let here : k ≡ n → test k ≡ true = λ same. ap test same ∙ left_of (test n) (each_below n test) e in
    let less : k < n → test k ≡ true = λ p. at_each n test (right_of (test n) (each_below n test) e) k p in
    grind (arith, here, less)

same_bool : Bool → Bool → Bool
same_bool true b = b
same_bool false b = not b

bools_same : (a b : Bool) → same_bool a b ≡ true → a ≡ b
unfolding same_bool
bools_same true b e = sym e
bools_same false true e = e
bools_same false false e = refl

-- ---- the masks

halves_from : (by halves : ℕ) → by < 64 → each_below by (has_bit halves) ≡ true → each_below (64 - by) (λ j. same_bool (has_bit halves (j + by)) (not (has_bit halves j))) ≡ true → each_below 64 (λ j. not (has_bit halves j) || nat_lt (j + by) 64) ≡ true → IsHalves by halves
halves_from by halves small start pairs paired = record {
  start = λ j h. at_each by (has_bit halves) start j h;
  pairs = λ j h. bools_same (has_bit halves (j + by)) (not (has_bit halves j)) (at_each (64 - by) (λ j. same_bool (has_bit halves (j + by)) (not (has_bit halves j))) pairs j (omega arith));
  short = small;
  paired = λ j h e. within (has_bit halves j) (j + by) (at_each 64 (λ j. not (has_bit halves j) || nat_lt (j + by) 64) paired j h) e;
}
  where
    within : (b : Bool) (n : ℕ) → (not b || nat_lt n 64) ≡ true → b ≡ true → n < 64
    within true n t e = grind (arith, nat_tests)
    within false n t e = absurd (grind arith)

pub halves_32 : IsHalves 32 4294967295
unfolding each_below same_bool has_bit
halves_32 = halves_from 32 4294967295 (omega arith) refl refl refl

pub halves_16 : IsHalves 16 281470681808895
unfolding each_below same_bool has_bit
halves_16 = halves_from 16 281470681808895 (omega arith) refl refl refl

pub halves_8 : IsHalves 8 71777214294589695
unfolding each_below same_bool has_bit
halves_8 = halves_from 8 71777214294589695 (omega arith) refl refl refl

pub halves_4 : IsHalves 4 1085102592571150095
unfolding each_below same_bool has_bit
halves_4 = halves_from 4 1085102592571150095 (omega arith) refl refl refl

pub halves_2 : IsHalves 2 3689348814741910323
unfolding each_below same_bool has_bit
halves_2 = halves_from 2 3689348814741910323 (omega arith) refl refl refl

pub halves_1 : IsHalves 1 6148914691236517205
unfolding each_below same_bool has_bit
halves_1 = halves_from 1 6148914691236517205 (omega arith) refl refl refl

-- ---- one more word of a square that swaps

pub swapped_more : (out square : List ℕ) (by halves at word : ℕ) → at < length out → ((i j : ℕ) → i < at → j < 64 → has_bit (slice_index out i) j ≡ has_bit (slice_index square (swapped_word by halves i j)) (swapped_bit by halves i j)) → ((j : ℕ) → j < 64 → has_bit word j ≡ has_bit (slice_index square (swapped_word by halves at j)) (swapped_bit by halves at j))
    → (i j : ℕ) → i < at + 1 → j < 64 → has_bit (slice_index (slice_set out at word) i) j ≡ has_bit (slice_index square (swapped_word by halves i j)) (swapped_bit by halves i j)
swapped_more out square by halves at word room done here i j more less =
    let old : i < at → has_bit (slice_index (slice_set out at word) i) j ≡ has_bit (slice_index square (swapped_word by halves i j)) (swapped_bit by halves i j) = λ h. let ne : i ≢ at = omega arith in (rw get_or-set_other (done i j h less)) in
    let new : i ≡ at → has_bit (slice_index (slice_set out at word) i) j ≡ has_bit (slice_index square (swapped_word by halves i j)) (swapped_bit by halves i j) = λ e. ap (λ k. has_bit (slice_index (slice_set out at word) k) j) e ∙ (rw get_or-set_same (here j less)) ∙ ap (λ k. has_bit (slice_index square (swapped_word by halves k j)) (swapped_bit by halves k j)) (sym e) in
    either_way i at more old new
  where
    either_way : {P : Type 0} (i at : ℕ) → i < at + 1 → (i < at → P) → (i ≡ at → P) → P
    either_way {P} i at more old new = cases (i == at) refl
      where
        cases : (b : Bool) → (i == at) ≡ b → P
        cases true e = new ((Decides-eqb i at).0 e)
        cases false e = old (grind (arith, nat_tests))

-- ---- where each bit comes from

-- the word and the bit where bit j of word i was before blocks of h rows and bits and all larger ones swapped
abbrev old_word : ℕ → ℕ → ℕ → ℕ
old_word h i j = j / h * h + i % h

abbrev old_bit : ℕ → ℕ → ℕ → ℕ
old_bit h i j = i / h * h + j % h

abbrev pub IsTurnedTo : ℕ → List ℕ → List ℕ → Type 0
IsTurnedTo h first now = (i j : ℕ) → i < 64 → j < 64 → has_bit (slice_index now i) j ≡ has_bit (slice_index first (old_word h i j)) (old_bit h i j)

-- a swap of blocks of `by` goes on from blocks of h
abbrev goes_on : ℕ → ℕ → ℕ → ℕ → ℕ → Bool
goes_on by halves h i j = (nat_lt (swapped_word by halves i j) 64 && nat_lt (swapped_bit by halves i j) 64) && (old_word h (swapped_word by halves i j) (swapped_bit by halves i j) == old_word by i j && old_bit h (swapped_word by halves i j) (swapped_bit by halves i j) == old_bit by i j)

below_64 : (n : ℕ) → nat_lt n 64 ≡ true → n < 64
below_64 n e = grind (arith, nat_tests)

step : (by halves h : ℕ) (first old now : List ℕ) → each_below 64 (λ i. each_below 64 (goes_on by halves h i)) ≡ true → IsTurnedTo h first old → ((i j : ℕ) → i < 64 → j < 64 → has_bit (slice_index now i) j ≡ has_bit (slice_index old (swapped_word by halves i j)) (swapped_bit by halves i j)) → IsTurnedTo by first now
step by halves h first old now all before made i j hi hj =
    let here : goes_on by halves h i j ≡ true = at_each 64 (goes_on by halves h i) (at_each 64 (λ i. each_below 64 (goes_on by halves h i)) all i hi) j hj in
    let inside = left_of _ _ here in
    let places = right_of _ _ here in
    made i j hi hj
    ∙ before (swapped_word by halves i j) (swapped_bit by halves i j) (below_64 _ (left_of _ _ inside)) (below_64 _ (right_of _ _ inside))
    ∙ ap (λ k. has_bit (slice_index first k) (old_bit h (swapped_word by halves i j) (swapped_bit by halves i j))) ((Decides-eqb _ _).0 (left_of _ _ places))
    ∙ ap (λ k. has_bit (slice_index first (old_word by i j)) k) ((Decides-eqb _ _).0 (right_of _ _ places))

pub step_32 : (first old now : List ℕ) → IsTurnedTo 64 first old → ((i j : ℕ) → i < 64 → j < 64 → has_bit (slice_index now i) j ≡ has_bit (slice_index old (swapped_word 32 4294967295 i j)) (swapped_bit 32 4294967295 i j)) → IsTurnedTo 32 first now
unfolding each_below has_bit
step_32 first old now before made = step 32 4294967295 64 first old now refl before made

pub step_16 : (first old now : List ℕ) → IsTurnedTo 32 first old → ((i j : ℕ) → i < 64 → j < 64 → has_bit (slice_index now i) j ≡ has_bit (slice_index old (swapped_word 16 281470681808895 i j)) (swapped_bit 16 281470681808895 i j)) → IsTurnedTo 16 first now
unfolding each_below has_bit
step_16 first old now before made = step 16 281470681808895 32 first old now refl before made

pub step_8 : (first old now : List ℕ) → IsTurnedTo 16 first old → ((i j : ℕ) → i < 64 → j < 64 → has_bit (slice_index now i) j ≡ has_bit (slice_index old (swapped_word 8 71777214294589695 i j)) (swapped_bit 8 71777214294589695 i j)) → IsTurnedTo 8 first now
unfolding each_below has_bit
step_8 first old now before made = step 8 71777214294589695 16 first old now refl before made

pub step_4 : (first old now : List ℕ) → IsTurnedTo 8 first old → ((i j : ℕ) → i < 64 → j < 64 → has_bit (slice_index now i) j ≡ has_bit (slice_index old (swapped_word 4 1085102592571150095 i j)) (swapped_bit 4 1085102592571150095 i j)) → IsTurnedTo 4 first now
unfolding each_below has_bit
step_4 first old now before made = step 4 1085102592571150095 8 first old now refl before made

pub step_2 : (first old now : List ℕ) → IsTurnedTo 4 first old → ((i j : ℕ) → i < 64 → j < 64 → has_bit (slice_index now i) j ≡ has_bit (slice_index old (swapped_word 2 3689348814741910323 i j)) (swapped_bit 2 3689348814741910323 i j)) → IsTurnedTo 2 first now
unfolding each_below has_bit
step_2 first old now before made = step 2 3689348814741910323 4 first old now refl before made

pub step_1 : (first old now : List ℕ) → IsTurnedTo 2 first old → ((i j : ℕ) → i < 64 → j < 64 → has_bit (slice_index now i) j ≡ has_bit (slice_index old (swapped_word 1 6148914691236517205 i j)) (swapped_bit 1 6148914691236517205 i j)) → IsTurnedTo 1 first now
unfolding each_below has_bit
step_1 first old now before made = step 1 6148914691236517205 2 first old now refl before made

pub turned_none : (first : List ℕ) → IsTurnedTo 64 first first
turned_none first i j hi hj =
    let w : old_word 64 i j ≡ i = omega arith in
    let b : old_bit 64 i j ≡ j = omega arith in
    sym (ap (λ k. has_bit (slice_index first k) (old_bit 64 i j)) w ∙ ap (λ k. has_bit (slice_index first i) k) b)

pub turned_all : (first now : List ℕ) → IsTurnedTo 1 first now → (i j : ℕ) → i < 64 → j < 64 → has_bit (slice_index now i) j ≡ has_bit (slice_index first j) i
turned_all first now all i j hi hj =
    let w : old_word 1 i j ≡ j = omega arith in
    let b : old_bit 1 i j ≡ i = omega arith in
    all i j hi hj ∙ ap (λ k. has_bit (slice_index first k) (old_bit 1 i j)) w ∙ ap (λ k. has_bit (slice_index first j) k) b
