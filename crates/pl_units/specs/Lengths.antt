-- The length that a text writes, or why it writes none.
use Rattle.std.specs.Prelude.{◌==◌, ◌||◌, ◌&&◌, ◌+◌, ◌*◌, ◌/◌, ◌^◌, nat_le, nat_lt, ℕ, Bool, false, if◌then◌else◌, List, [], ◌∷◌, ◌++◌, length, take, drop, position, Option, Some, None, Result, Ok, Err}
use Rattle.pl_units.specs.declared.Nm.{Nm}
use Rattle.pl_units.specs.declared.numeral.Numeral.{Numeral}
use Rattle.pl_units.specs.declared.numeral.Exponent.{Exponent}
use Rattle.pl_units.specs.declared.numeral.NumberFault.{NumberFault}
use Rattle.pl_units.specs.declared.numeral.NumberFault.TheVariants.{BadNumber, TooFar}
use Rattle.pl_units.specs.Numeral.{written, is_mark, raised, lowered, signed}

abbrev pub is_minus : List ℕ → Bool
is_minus [] = false
is_minus (b ∷ bs) = b == 45

-- a text without the sign before it
abbrev pub after_sign : List ℕ → List ℕ
after_sign [] = []
after_sign (b ∷ bs) = if b == 43 || b == 45 then bs else b ∷ bs

abbrev pub of_power : Bool → Option ℕ → Option Exponent
of_power below None = None
of_power below (Some size) = if nat_le size 60 then Some (record { below = below; size = size }) else None

abbrev pub of_power_digits : Bool → List ℕ → Option Exponent
of_power_digits below digits = if nat_lt 0 (length digits) && nat_le (length digits) 4 then of_power below (written digits) else None

-- the exponent after its letter
abbrev pub exponent_of : List ℕ → Option Exponent
exponent_of text = of_power_digits (is_minus text) (after_sign text)

abbrev pub of_number : Bool → Option ℕ → ℕ → Exponent → Option Numeral
of_number negative None places exponent = None
of_number negative (Some number) places exponent = Some (record { negative = negative; number = number; places = places; exponent = exponent })

-- of the digits before and after the point
abbrev pub of_digits : Bool → List ℕ → List ℕ → Exponent → Option Numeral
of_digits negative before after exponent =
    if nat_lt 0 (length before + length after) && nat_le (length before + length after) 30 then of_number negative (written (before ++ after)) (length after) exponent else None

-- of the digits, whose point stands at a place, if there is one
abbrev pub of_point : Bool → Option ℕ → List ℕ → Exponent → Option Numeral
of_point negative None text exponent = of_digits negative text [] exponent
of_point negative (Some at) text exponent = of_digits negative (take at text) (drop (at + 1) text) exponent

abbrev pub decimal_of : Bool → List ℕ → Option Exponent → Option Numeral
decimal_of negative text None = None
decimal_of negative text (Some exponent) = of_point negative (position (λ b. b == 46) text) text exponent

-- of what follows the sign, where the letter of the exponent stands at a place, if there is one
abbrev pub of_mark : Bool → Option ℕ → List ℕ → Option Numeral
of_mark negative None text = decimal_of negative text (Some (record { below = false; size = 0 }))
of_mark negative (Some at) text = decimal_of negative (take at text) (exponent_of (drop (at + 1) text))

abbrev pub numeral_of : List ℕ → Option Numeral
numeral_of text = of_mark (is_minus text) (position is_mark (after_sign text)) (after_sign text)

abbrev pub rounded : ℕ → ℕ → ℕ
rounded value one = (2 * value + one) / (2 * one)

abbrev pub up_to_a_metre : Bool → ℕ → Result Nm NumberFault
up_to_a_metre negative size = if nat_le size 1000000000 then Ok (record { 0 = signed negative size }) else Err TooFar

abbrev pub length_of_numeral : Option Numeral → Result Nm NumberFault
length_of_numeral None = Err BadNumber
length_of_numeral (Some n) = up_to_a_metre n.negative (rounded (n.number * 10 ^ raised n) (10 ^ lowered n))

abbrev pub length_of : List ℕ → Result Nm NumberFault
length_of text = length_of_numeral (numeral_of text)
