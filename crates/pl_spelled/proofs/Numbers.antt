-- Numbers and lengths are told by their words.
use Rattle.std.proofs.Common.{◌≡◌, ◌≢◌, ◌==◌, ◌+◌, ◌*◌, ◌/◌, ◌%◌, ◌^◌, ◌<◌, ◌≤◌, ℕ, zero, suc, Bool, true, false, cond, List, [], ◌∷◌, ◌++◌, ℤ, pos, negsuc, refl, ap, sym, arith, pow-suc}
use Rattle.std.specs.List.{AllByRecursion}
use Rattle.std.specs.Fmt.{decimal, digits, digits_onto, digit_glyph}
use Rattle.std.proofs.lemmas.Fmt.{decimal_injective}
use Rattle.std.proofs.lemmas.Bool.Decides.{nat_tests}
use Rattle.std.proofs.lemmas.Int.{ints}
use Rattle.pl_units.specs.Decimal.{last_digits, fixed, fixed_size}
use Rattle.pl_units.specs.Within.{Within}
use Rattle.pl_units.specs.declared.Nm.{Nm}
use Rattle.pl_transcript.specs.Words.{mm_word}
use Rattle.pl_spelled.proofs.Splitting.{weaker, all_append, Lacks, is_end, tail_same, head_same, first_split, last_same}

-- the byte is a digit
abbrev pub IsDigit : ℕ → Type 0
IsDigit b = (48 ≤ b) × (b ≤ 57)

-- the byte is a minus, a point or a digit
abbrev pub IsNumeric : ℕ → Type 0
IsNumeric b = (45 ≤ b) × (b ≤ 57)

abbrev AreDigits : List ℕ → Type 0
AreDigits text = AllByRecursion IsDigit text

glyph_digit : (d : ℕ) → d < 10 → IsDigit (digit_glyph false d)
glyph_digit d h = grind (arith, nat_tests)

either : (b : Bool) (xs ys : List ℕ) → AreDigits xs → AreDigits ys → AreDigits (cond b xs ys)
either true xs ys p q = p
either false xs ys p q = q

onto_digits : (k n : ℕ) (acc : List ℕ) → AreDigits acc → AreDigits (digits_onto k 10 false n acc)
onto_digits zero n acc h = h
onto_digits (suc k) n acc h =
    let more : AreDigits (digit_glyph false (n % 10) ∷ acc) = (glyph_digit (n % 10) (omega arith), h) in
    either (n / 10 == 0) _ _ more (onto_digits k (n / 10) (digit_glyph false (n % 10) ∷ acc) more)

pub decimal_digits : (n : ℕ) → AllByRecursion IsDigit (decimal n)
unfolding digits
decimal_digits n = onto_digits 64 n [] tt

last_digits_digits : (places n : ℕ) → AreDigits (last_digits places n)
last_digits_digits zero n = tt
last_digits_digits (suc places) n = all_append IsDigit (last_digits places (n / 10)) _ (last_digits_digits places (n / 10)) ((omega arith, omega arith), tt)

numeric_no_end : (b : ℕ) → IsNumeric b → is_end b ≡ false
numeric_no_end b h = grind (arith, nat_tests)

no_point : (b : ℕ) → IsDigit b → (b == 46) ≡ false
no_point b h = grind (arith, nat_tests)

digits_numeric : (text : List ℕ) → AreDigits text → AllByRecursion IsNumeric text
digits_numeric text h = weaker IsDigit IsNumeric (λ b d. (omega (arith, d), d.1)) text h

pub number_told : (a b : ℕ) → a < 2 ^ 32 → b < 2 ^ 32 → decimal a ≡ decimal b → a ≡ b
number_told a b p q e = decimal_injective a b (omega arith) (omega arith) e

pub decimal_solid : (n : ℕ) → Lacks is_end (decimal n)
decimal_solid n = weaker IsNumeric (λ b. is_end b ≡ false) numeric_no_end (decimal n) (digits_numeric (decimal n) (decimal_digits n))

size_numeric : (n places : ℕ) → AllByRecursion IsNumeric (fixed_size n places)
size_numeric n places =
    all_append IsNumeric (decimal (n / 10 ^ places)) (46 ∷ last_digits places (n % 10 ^ places))
    (digits_numeric _ (decimal_digits (n / 10 ^ places)))
    ((omega arith, omega arith), digits_numeric _ (last_digits_digits places (n % 10 ^ places)))

fixed_numeric : (z : ℤ) (places : ℕ) → AllByRecursion IsNumeric (fixed z places)
fixed_numeric (pos n) places = size_numeric n places
fixed_numeric (negsuc n) places = ((omega arith, omega arith), size_numeric (suc n) places)

pub mm_solid : (x : Nm) → Lacks is_end (mm_word x)
mm_solid x = weaker IsNumeric (λ b. is_end b ≡ false) numeric_no_end (mm_word x) (fixed_numeric x.0 6)

last_digits_injective : (places a b : ℕ) → a < 10 ^ places → b < 10 ^ places → last_digits places a ≡ last_digits places b → a ≡ b
last_digits_injective zero a b p q e = omega arith
last_digits_injective (suc places) a b p q e =
    let parts = last_same (last_digits places (a / 10)) (last_digits places (b / 10)) (48 + a % 10) (48 + b % 10) e in
    let power : 10 ^ suc places ≡ 10 ^ places * 10 = pow-suc 10 places in
    let rest = last_digits_injective places (a / 10) (b / 10) (omega (arith, power, p)) (omega (arith, power, q)) parts.0 in
    omega (arith, rest, parts.1)

size_injective : (n m : ℕ) → n < 2 ^ 64 → m < 2 ^ 64 → fixed_size n 6 ≡ fixed_size m 6 → n ≡ m
size_injective n m p q e =
    let lack = λ (k : ℕ). weaker IsDigit (λ b. (b == 46) ≡ false) no_point (decimal k) (decimal_digits k) in
    let parts = first_split (λ b. b == 46) (decimal (n / 10 ^ 6)) (decimal (m / 10 ^ 6)) (46 ∷ last_digits 6 (n % 10 ^ 6)) (46 ∷ last_digits 6 (m % 10 ^ 6)) (lack (n / 10 ^ 6)) (lack (m / 10 ^ 6)) refl refl e in
    let whole = decimal_injective (n / 10 ^ 6) (m / 10 ^ 6) (omega arith) (omega arith) parts.0 in
    let rest = last_digits_injective 6 (n % 10 ^ 6) (m % 10 ^ 6) (omega arith) (omega arith) (tail_same 46 46 _ _ parts.1) in
    omega (arith, whole, rest)

-- a text of digits and x does not begin with another byte
pub not_first : {A : Type 0} (b x : ℕ) (digits front t : List ℕ) → ¬ IsDigit b → b ≢ x → AreDigits digits → digits ++ x ∷ t ≡ b ∷ front → A
not_first b x [] front t digit other h e = absurd (other (sym (head_same x b t front e)))
not_first b x (d ∷ ds) front t digit other h e = absurd (digit (rw (sym (head_same d b _ front e)) h.0))

no_minus : {A : Type 0} (digits front t : List ℕ) → AreDigits digits → digits ++ 46 ∷ t ≡ 45 ∷ front → A
no_minus digits front t h e = not_first 45 46 digits front t (λ d. omega (arith, d)) (omega arith) h e

fixed_injective : (y z : ℤ) → Within 1000000000 y → Within 1000000000 z → fixed y 6 ≡ fixed z 6 → y ≡ z
fixed_injective (pos n) (pos m) p q e = ap pos (size_injective n m (omega (arith, ints, p.high)) (omega (arith, ints, q.high)) e)
fixed_injective (pos n) (negsuc m) p q e = no_minus (decimal (n / 10 ^ 6)) _ _ (decimal_digits (n / 10 ^ 6)) e
fixed_injective (negsuc n) (pos m) p q e = no_minus (decimal (m / 10 ^ 6)) _ _ (decimal_digits (m / 10 ^ 6)) (sym e)
fixed_injective (negsuc n) (negsuc m) p q e =
    let same = size_injective (suc n) (suc m) (omega (arith, ints, p.low)) (omega (arith, ints, q.low)) (tail_same 45 45 _ _ e) in
    let less : n ≡ m = omega (arith, same) in
    ap negsuc less

pub mm_injective : (x y : Nm) → Within 1000000000 x.0 → Within 1000000000 y.0 → mm_word x ≡ mm_word y → x ≡ y
mm_injective x y p q e = let same = fixed_injective x.0 y.0 p q e in ap (λ (z : ℤ). let r : Nm = record { 0 = z } in r) same
