-- The lines of a settings text.
use Rattle.std.specs.Prelude.{◌≡◌, ℕ, ◌+◌, ◌==◌, Bool, true, ◌||◌, if◌then◌else◌, Option, Some, None, Result, Ok, Err, List, [], ◌∷◌, take, drop, position}
use Rattle.std.specs.List.{slice_split}
use Rattle.pl_units.specs.declared.Refusal.{Refusal}
use Rattle.pl_units.specs.declared.Refusal.TheVariants.{Fault, NoMemory}
use Rattle.pl_keys.specs.declared.key.Key.{Key}
use Rattle.pl_keys.specs.declared.value.Value.{Value}
use Rattle.pl_keys.specs.declared.value.ValueFault.{ValueFault}
use Rattle.pl_keys.specs.declared.value.ValueFault.TheVariants as value
use Rattle.pl_keys.specs.Table.{named}
use Rattle.pl_keys.specs.Trim.{trimmed}
use Rattle.pl_keys.specs.Values.{value_of, IsValueOf}
use Rattle.pl_options.specs.declared.fault.IniFault.{IniFault}
use Rattle.pl_options.specs.declared.fault.IniFault.TheVariants.{NoEquals, BadValue, OutOfRange}
use Rattle.pl_options.specs.declared.line.Line.{Line}
use Rattle.pl_options.specs.declared.line.Line.TheVariants.{Nothing, Unknown, Put}

abbrev pub lines_of : List ℕ → List (List ℕ)
lines_of text = slice_split (λ b. b == 10) text

-- an empty line, or one that begins with `#`, `;` or `[`
abbrev pub is_passed_over : List ℕ → Bool
is_passed_over [] = true
is_passed_over (b ∷ rest) = b == 35 || (b == 59 || b == 91)

abbrev pub of_value : Key → Result Value ValueFault → Result Line IniFault
of_value key (Ok value) = Ok (Put key value)
of_value key (Err value.BadValue) = Err BadValue
of_value key (Err value.OutOfRange) = Err OutOfRange

-- of a key, if it is one of the table, and the text of its value
abbrev pub of_pair : Option Key → List ℕ → Result Line IniFault
of_pair None text = Ok Unknown
of_pair (Some key) text = of_value key (value_of key text)

-- of a line whose first `=` stands at a place
abbrev pub parted_at : Option ℕ → List ℕ → Result Line IniFault
parted_at None line = Err NoEquals
parted_at (Some at) line = of_pair (named (trimmed (take at line))) (drop (at + 1) line)

-- of a line with no white space at its ends
abbrev pub of_trimmed : List ℕ → Result Line IniFault
of_trimmed line = if is_passed_over line then Ok Nothing else parted_at (position (λ b. b == 61) line) line

-- what a line says, or how it breaks
abbrev pub line_of : List ℕ → Result Line IniFault
line_of text = of_trimmed (trimmed text)

-- a refusal at the line of this number says how it breaks, or that memory was wanted
abbrev pub Refuses : ℕ → Result Line IniFault → Refusal IniFault → Type 0
Refuses number said (Fault line fault) = (line ≡ number) × (said ≡ Err fault)
Refuses number said NoMemory = Unit {0}

-- what the line of this number says
abbrev pub Says : ℕ → Result Line IniFault → Result Line (Refusal IniFault) → Type 0
Says number said (Ok line) = said ≡ Ok line
Says number said (Err refusal) = Refuses number said refusal

-- a value that is put is of the right kind and in range
abbrev pub IsFit : Line → Type 0
IsFit (Put key value) = IsValueOf key value
IsFit _ = Unit {0}
