-- The values of options, and what a text says of an option.
use Rattle.std.specs.Prelude.{◌≡◌, ℕ, ◌≤◌, ◌-◌, ◌==◌, nat_le, suc, ℤ, pos, negsuc, neg_ℤ, Bool, true, false, ◌&&◌, if◌then◌else◌, Result, Ok, Err, List, [], ◌∷◌, length, take, slice_index, codes}
use Rattle.std.specs.List.{before_first}
use Rattle.std.specs.Str.{bytes_eq}
use Rattle.pl_units.specs.declared.Nm.{Nm}
use Rattle.pl_units.specs.declared.numeral.NumberFault.{NumberFault}
use Rattle.pl_units.specs.declared.numeral.NumberFault.TheVariants.{BadNumber, TooFar}
use Rattle.pl_units.specs.Lengths.{rounded, length_of}
use Rattle.pl_keys.specs.declared.key.Key.{Key}
use Rattle.pl_keys.specs.declared.key.Kind.{Kind}
use Rattle.pl_keys.specs.declared.key.Kind.TheVariants as kind
use Rattle.pl_keys.specs.declared.value.Value.{Value}
use Rattle.pl_keys.specs.declared.value.Value.TheVariants.{Length, Whole, Flag, Words}
use Rattle.pl_keys.specs.declared.value.ValueFault.{ValueFault}
use Rattle.pl_keys.specs.declared.value.ValueFault.TheVariants.{BadValue, OutOfRange}
use Rattle.pl_keys.specs.declared.value.ValueStop.{ValueStop}
use Rattle.pl_keys.specs.declared.value.ValueStop.TheVariants as stop
use Rattle.pl_keys.specs.Table.{Row, row}
use Rattle.pl_keys.specs.Trim.{without_white_after, trimmed}

-- whether a number is in a range
abbrev pub in_range : ℕ → ℕ → ℤ → Bool
in_range least greatest (pos number) = nat_le least number && nat_le number greatest
in_range least greatest (negsuc number) = false

-- a number as a value of a kind
abbrev pub numbered : Kind → ℤ → Value
numbered kind.Length number = Length (record { 0 = number })
numbered _ number = Whole number

-- whether the values of a kind are whole numbers
abbrev pub is_whole : Kind → Bool
is_whole kind.Whole = true
is_whole kind.Percent = true
is_whole kind.Factor = true
is_whole _ = false

-- a value of the right kind and in range
abbrev pub fits : Row → Value → Type 0
fits row (Length length) = (row.kind ≡ kind.Length) × (in_range row.least row.greatest length.0 ≡ true)
fits row (Whole number) = (is_whole row.kind ≡ true) × (in_range row.least row.greatest number ≡ true)
fits row (Flag flag) = row.kind ≡ kind.Flag
fits row (Words words) = (row.kind ≡ kind.Text) × (length words ≤ row.greatest)

abbrev pub IsValueOf : Key → Value → Type 0
IsValueOf key value = fits (row key) value

abbrev pub IsWords : Value → Type 0
IsWords (Words words) = Unit {0}
IsWords _ = ⊥

abbrev pub of_default : Kind → ℕ → Value
of_default kind.Flag number = Flag (number == 1)
of_default kind.Text number = Words []
of_default kind number = numbered kind (pos number)

abbrev pub default_of : Key → Value
default_of key = of_default (row key).kind (row key).default

-- a text up to its first comma, with no white space at its end
abbrev pub before_comma : List ℕ → List ℕ
before_comma text = without_white_after (before_first (λ b. b == 44) text)

-- a text without one percent sign at its end
abbrev pub without_percent : List ℕ → List ℕ
without_percent text = if slice_index text (length text - 1) == 37 then take (length text - 1) text else text

-- the numeral in a text of a kind
abbrev pub numeral_in : Kind → List ℕ → List ℕ
numeral_in kind.Percent text = without_percent (before_comma text)
numeral_in _ text = before_comma text

-- nanometres in units of so many, rounded, halves away from zero
abbrev pub in_units : ℕ → ℤ → ℤ
in_units unit (pos length) = pos (rounded length unit)
in_units unit (negsuc length) = neg_ℤ (pos (rounded (suc length) unit))

-- the number of a kind that a length in nanometres stands for
abbrev pub number_of : Kind → ℤ → ℤ
number_of kind.Length length = length
number_of kind.Factor length = in_units 10000 length
number_of _ length = in_units 1000000 length

abbrev pub of_length : Row → Result Nm NumberFault → Result Value ValueFault
of_length row (Ok length) = if in_range row.least row.greatest (number_of row.kind length.0) then Ok (numbered row.kind (number_of row.kind length.0)) else Err OutOfRange
of_length row (Err BadNumber) = Err BadValue
of_length row (Err TooFar) = Err OutOfRange

abbrev pub number_in : Row → List ℕ → Result Value ValueFault
number_in row text = of_length row (length_of (numeral_in row.kind text))

abbrev pub flag_in : List ℕ → Result Value ValueFault
flag_in text = if bytes_eq text (codes "0") then Ok (Flag false) else (if bytes_eq text (codes "1") then Ok (Flag true) else Err BadValue)

-- a text with its escapes read: `\n` is a line end, `\r` is nothing, `\\` is one backslash, any other backslash stays
abbrev pub unescaped : List ℕ → List ℕ
unescaped [] = []
unescaped (b ∷ []) = b ∷ []
unescaped (b ∷ c ∷ rest) =
    if b == 92 then (if c == 110 then 10 ∷ unescaped rest else (if c == 114 then unescaped rest else (if c == 92 then 92 ∷ unescaped rest else 92 ∷ unescaped (c ∷ rest)))) else b ∷ unescaped (c ∷ rest)

abbrev pub words_in : ℕ → List ℕ → Result Value ValueFault
words_in most text = if nat_le (length (unescaped text)) most then Ok (Words (unescaped text)) else Err OutOfRange

abbrev pub value_in : Kind → Row → List ℕ → Result Value ValueFault
value_in kind.Flag row text = flag_in text
value_in kind.Text row text = words_in row.greatest text
value_in _ row text = number_in row text

-- the value that a text writes for an option, or why it writes none
abbrev pub value_of : Key → List ℕ → Result Value ValueFault
value_of key text = value_in (row key).kind (row key) (trimmed text)

abbrev pub stop_of : ValueFault → ValueStop
stop_of BadValue = stop.BadValue
stop_of OutOfRange = stop.OutOfRange

-- a call answers what the text says, or that memory was wanted
abbrev pub Answers : Result Value ValueStop → Result Value ValueFault → Type 0
Answers (Ok value) said = said ≡ Ok value
Answers (Err stop.BadValue) said = said ≡ Err BadValue
Answers (Err stop.OutOfRange) said = said ≡ Err OutOfRange
Answers (Err stop.NoMemory) said = Unit {0}
