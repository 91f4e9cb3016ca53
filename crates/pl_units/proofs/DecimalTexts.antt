-- How long decimal texts are, and one digit more in front of a place.
use Rattle.std.proofs.Common.{◌≡◌, ◌+◌, ◌-◌, ◌*◌, ◌/◌, ◌%◌, ◌^◌, ◌<◌, ◌≤◌, ℕ, zero, suc, List, [], ◌∷◌, ◌++◌, length, drop, set, refl, ap, sym, ◌∙◌, arith, append_assoc, length-append}
use Rattle.std.proofs.Math.Nat.{one-le-pow, pow-succ', mul_assoc, mul_comm, div-add-mod, div-div-eq-div-mul}
use Rattle.std.proofs.lemmas.List.{drop-set}
use Rattle.std.proofs.lemmas.Fmt.{length-decimal-le, decimal_step, decimal_digit}
use Rattle.std.specs.Fmt.{decimal}
use Rattle.pl_units.specs.Decimal.{last_digits, fixed, fixed_size}
use Rattle.std.specs.Prelude.{ℤ, pos, negsuc, true}
use lib.Signed.{lt_z}
use lib.IntN.{nat_abs}
use Rattle.std.proofs.lemmas.Int.{ints}

pub ten_power : (n : ℕ) → 0 < 10 ^ n
ten_power n = omega (arith, one-le-pow n 10 (omega arith))

pub whole_room : (n : ℕ) → n < 2 ^ 64 → length (decimal n) ≤ 20
whole_room n small = length-decimal-le 20 n (omega arith) (omega arith) small

-- a digit less
pub tenth_room : (n : ℕ) → 10 ≤ n → n < 2 ^ 64 → length (decimal n) ≡ length (decimal (n / 10)) + 1
tenth_room n big small = ap length (decimal_step n big small) ∙ length-append (decimal (n / 10)) ((48 + n % 10) ∷ [])

pub swapped : (q m : ℕ) → q * (10 * m) ≡ 10 * (q * m)
swapped q m = sym (mul_assoc q 10 m) ∙ ap (λ n. n * m) (mul_comm q 10) ∙ mul_assoc 10 q m

-- one cell more in front of a place
pub put_back : (out : List ℕ) (end d : ℕ) → 1 ≤ end → end ≤ length out → drop (end - 1) (set out (end - 1) d) ≡ d ∷ drop end out
put_back out end d low high =
    let e : end - 1 + 1 ≡ end = omega arith in
    drop-set out (end - 1) d (omega arith) ∙ ap (λ i. d ∷ drop i out) e

pub last_digits_step : (places n : ℕ) → 0 < places → last_digits places n ≡ last_digits (places - 1) (n / 10) ++ (48 + n % 10) ∷ []
last_digits_step zero n h = absurd (omega (arith, h))
last_digits_step (suc places) n h =
    let e : places ≡ suc places - 1 = omega arith in
    ap (λ p. last_digits p (n / 10) ++ (48 + n % 10) ∷ []) e

-- the last digits are those of what a division by the power leaves
pub last_digits_more : (places q r : ℕ) → last_digits places (q * 10 ^ places + r) ≡ last_digits places r
last_digits_more zero q r = refl
last_digits_more (suc places) q r =
    let e : q * 10 ^ suc places ≡ 10 * (q * 10 ^ places) = ap (λ m. q * m) (pow-succ' 10 places) ∙ swapped q (10 ^ places) in
    let tenth : (q * 10 ^ suc places + r) / 10 ≡ q * 10 ^ places + r / 10 = omega (arith, e) in
    let digit : (q * 10 ^ suc places + r) % 10 ≡ r % 10 = omega (arith, e) in
    ap (λ n. last_digits places n ++ (48 + (q * 10 ^ suc places + r) % 10) ∷ []) tenth
    ∙ ap (λ l. l ++ (48 + (q * 10 ^ suc places + r) % 10) ∷ []) (last_digits_more places q (r / 10))
    ∙ ap (λ d. last_digits places (r / 10) ++ (48 + d) ∷ []) digit

pub last_digits_rest : (places n : ℕ) → last_digits places n ≡ last_digits places (n % 10 ^ places)
last_digits_rest places n =
    let e : n ≡ n / 10 ^ places * 10 ^ places + n % 10 ^ places = sym (div-add-mod n (10 ^ places)) ∙ ap (λ l. l + n % 10 ^ places) (mul_comm (10 ^ places) (n / 10 ^ places)) in
    ap (last_digits places) e ∙ last_digits_more places (n / 10 ^ places) (n % 10 ^ places)

-- the rest of a number, a digit at a time
pub rest_more : (places n : ℕ) → 0 < places → n / 10 / 10 ^ (places - 1) ≡ n / 10 ^ places
rest_more zero n h = absurd (omega (arith, h))
rest_more (suc places) n h =
    let e : suc places - 1 ≡ places = omega arith in
    ap (λ p. n / 10 / 10 ^ p) e ∙ div-div-eq-div-mul n 10 (10 ^ places) ∙ ap (λ m. n / m) (sym (pow-succ' 10 places))

-- the last digit, and those in front of it
pub whole_more : (out : List ℕ) (n end : ℕ) → 10 ≤ n → n < 2 ^ 64 → 1 ≤ end → end ≤ length out → decimal (n / 10) ++ drop (end - 1) (set out (end - 1) (48 + n % 10)) ≡ decimal n ++ drop end out
whole_more out n end big small low high =
    ap (λ l. decimal (n / 10) ++ l) (put_back out end (48 + n % 10) low high)
    ∙ sym (append_assoc (decimal (n / 10)) ((48 + n % 10) ∷ []) (drop end out))
    ∙ ap (λ l. l ++ drop end out) (sym (decimal_step n big small))

pub whole_one : (out : List ℕ) (n end : ℕ) → n < 10 → 1 ≤ end → end ≤ length out → drop (end - 1) (set out (end - 1) (48 + n % 10)) ≡ decimal n ++ drop end out
whole_one out n end small low high =
    let e : n % 10 ≡ n = omega arith in
    put_back out end (48 + n % 10) low high ∙ ap (λ d. (48 + d) ∷ drop end out) e ∙ ap (λ l. l ++ drop end out) (sym (decimal_digit n small))

pub places_more : (out : List ℕ) (n places end : ℕ) → 1 ≤ places → 1 ≤ end → end ≤ length out → last_digits (places - 1) (n / 10) ++ drop (end - 1) (set out (end - 1) (48 + n % 10)) ≡ last_digits places n ++ drop end out
places_more out n places end some low high =
    ap (λ l. last_digits (places - 1) (n / 10) ++ l) (put_back out end (48 + n % 10) low high)
    ∙ sym (append_assoc (last_digits (places - 1) (n / 10)) ((48 + n % 10) ∷ []) (drop end out))
    ∙ ap (λ l. l ++ drop end out) (sym (last_digits_step places n (omega arith)))

-- a whole number, a point, and places
pub sized : (whole n places : ℕ) (after : List ℕ) → whole ≡ n / 10 ^ places → decimal whole ++ 46 ∷ (last_digits places n ++ after) ≡ fixed_size n places ++ after
sized whole n places after e =
    ap (λ w. decimal w ++ 46 ∷ (last_digits places n ++ after)) e
    ∙ ap (λ l. decimal (n / 10 ^ places) ++ 46 ∷ (l ++ after)) (last_digits_rest places n)
    ∙ sym (append_assoc (decimal (n / 10 ^ places)) (46 ∷ last_digits places (n % 10 ^ places)) after)

-- a number below zero has its size after a sign
pub fixed_below : (value : ℤ) (places size : ℕ) → lt_z value (pos 0) ≡ true → size ≡ nat_abs value → fixed value places ≡ 45 ∷ fixed_size size places
fixed_below (pos n) places size below e = absurd (omega (arith, ints))
fixed_below (negsuc n) places size below e = ap (λ s. 45 ∷ fixed_size s places) (sym e)
