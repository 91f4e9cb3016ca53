-- Numerals, and the lengths that they write in millimetres.
use Rattle.std.specs.Prelude.{◌≡◌, ◌==◌, ◌||◌, ◌+◌, ◌-◌, ◌*◌, ◌^◌, ◌<◌, ◌≤◌, ℕ, ℤ, pos, neg_ℤ, Bool, true, false, if◌then◌else◌, List, [], ◌∷◌, ◌++◌, length, codes, Option, Some, None}
use Rattle.std.specs.Char.{is_ascii_digit}
use Rattle.pl_units.specs.declared.Nm.{Nm}
use Rattle.pl_units.specs.declared.numeral.Numeral.{Numeral}

-- the number that digits write after those of another number, if all are digits
abbrev pub digits_after : ℕ → List ℕ → Option ℕ
digits_after number [] = Some number
digits_after number (b ∷ bs) = if is_ascii_digit b then digits_after (number * 10 + (b - 48)) bs else None

-- the number that digits write, 0 for none
abbrev pub written : List ℕ → Option ℕ
written digits = digits_after 0 digits

-- perhaps a sign, and whether it is a minus
pub data IsSign : List ℕ → Bool → Type 0 where
  unsigned : IsSign [] false
  plus : IsSign (codes "+") false
  minus : IsSign (codes "-") true

-- 1 to 30 digits and perhaps a point before, between or after them, the number of all digits, and how many stand after the point
pub data IsDecimal : List ℕ → ℕ → ℕ → Type 0 where
  whole : (digits : List ℕ) (number : ℕ) → written digits ≡ Some number → 1 ≤ length digits → length digits ≤ 30 → IsDecimal digits number 0
  pointed : (before after : List ℕ) (number : ℕ) → written (before ++ after) ≡ Some number → 1 ≤ length (before ++ after) → length (before ++ after) ≤ 30 → IsDecimal (before ++ 46 ∷ after) number (length after)

-- the letter e, of either case
abbrev pub is_mark : ℕ → Bool
is_mark b = b == 101 || b == 69

-- perhaps the letter e, a sign and 1 to 4 digits; whether the power is below zero, and its size, up to 60
pub data IsExponent : List ℕ → Bool → ℕ → Type 0 where
  zeroth : IsExponent [] false 0
  power : (mark : ℕ) (sign digits : List ℕ) (below : Bool) (size : ℕ) → is_mark mark ≡ true → IsSign sign below → written digits ≡ Some size → 1 ≤ length digits → length digits ≤ 4 → size ≤ 60 → IsExponent (mark ∷ sign ++ digits) below size

-- a text by its three parts
pub record IsNumeral (text : List ℕ) (n : Numeral) : Type 0 where
  pub sign : List ℕ
  pub decimal : List ℕ
  pub exponent : List ℕ
  pub all : text ≡ sign ++ (decimal ++ exponent)
  pub is_sign : IsSign sign n.negative
  pub is_decimal : IsDecimal decimal n.number n.places
  pub is_exponent : IsExponent exponent n.exponent.below n.exponent.size

-- size is value / one, rounded, halves up: 2 size - 1 <= 2 value / one < 2 size + 1
pub record IsRounded (value one size : ℕ) : Type 0 where
  pub above : 2 * size * one ≤ 2 * value + one
  pub below : 2 * value < (2 * size + 1) * one

-- the power of ten by which a numeral's digits are multiplied, for nanometres, and the one by which they are divided
abbrev pub raised : Numeral → ℕ
raised n = 6 + (if n.exponent.below then 0 else n.exponent.size)

abbrev pub lowered : Numeral → ℕ
lowered n = n.places + (if n.exponent.below then n.exponent.size else 0)

-- the size of a numeral's value, in nanometres
abbrev pub IsSize : Numeral → ℕ → Type 0
IsSize n size = IsRounded (n.number * 10 ^ raised n) (10 ^ lowered n) size

abbrev pub signed : Bool → ℕ → ℤ
signed negative size = if negative then neg_ℤ (pos size) else pos size

-- the text is a numeral of this length, which is at most a metre in size
pub record IsLength (text : List ℕ) (nm : Nm) : Type 0 where
  pub numeral : Numeral
  pub size : ℕ
  pub is_numeral : IsNumeral text numeral
  pub is_size : IsSize numeral size
  pub near : size ≤ 10 ^ 9
  pub value : nm ≡ record { 0 = signed numeral.negative size }

-- the text is a numeral of a length beyond a metre in size
pub record IsTooFar (text : List ℕ) : Type 0 where
  pub numeral : Numeral
  pub size : ℕ
  pub is_numeral : IsNumeral text numeral
  pub is_size : IsSize numeral size
  pub far : 10 ^ 9 < size

abbrev pub IsNoNumeral : List ℕ → Type 0
IsNoNumeral text = (n : Numeral) → IsNumeral text n → ⊥
