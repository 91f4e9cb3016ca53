-- Names and numbers.
use Rattle.std.specs.Prelude.{ℕ, ◌==◌, nat_le, Bool, false, not, ◌&&◌, ◌||◌, if◌then◌else◌, Option, Some, None, List, ◌∷◌, length}
use Rattle.std.specs.List.{list_all}
use Rattle.std.specs.Result.{result_ok}
use Rattle.std.specs.Char.{is_ascii_alphanumeric, is_ascii_digit}
use Rattle.pl_units.specs.declared.Nm.{Nm}
use Rattle.pl_units.specs.Numeral.{written}
use Rattle.pl_units.specs.Lengths.{length_of}

-- an ASCII letter, a digit, `_`, `-` or `.`
abbrev pub is_name_byte : ℕ → Bool
is_name_byte b = is_ascii_alphanumeric b || (b == 95 || (b == 45 || b == 46))

-- 1 to 64 such bytes
abbrev pub is_name : List ℕ → Bool
is_name word = nat_le 1 (length word) && (nat_le (length word) 64 && list_all is_name_byte word)

-- a zero before further bytes
abbrev pub has_leading_zero : List ℕ → Bool
has_leading_zero (b ∷ c ∷ rest) = b == 48
has_leading_zero _ = false

-- digits, the first of several no zero
abbrev pub is_whole : List ℕ → Bool
is_whole word = nat_le 1 (length word) && (not (has_leading_zero word) && list_all is_ascii_digit word)

abbrev pub up_to : ℕ → Option ℕ → Option ℕ
up_to most None = None
up_to most (Some n) = if nat_le n most then Some n else None

-- the whole number that a word writes, where it is at most so great
abbrev pub whole_of : ℕ → List ℕ → Option ℕ
whole_of most word = if is_whole word then up_to most (written word) else None

abbrev pub from_one : Option ℕ → Option ℕ
from_one None = None
from_one (Some n) = if nat_le 1 n then Some n else None

-- the session that a word names, from 1 to 16
abbrev pub session_of : List ℕ → Option ℕ
session_of word = from_one (whole_of 16 word)

-- a place on the plate, and an instance at a place, from 0 to 255
abbrev pub byte_of : List ℕ → Option ℕ
byte_of word = whole_of 255 word

-- the length that a word writes in millimetres
abbrev pub nm_of : List ℕ → Option Nm
nm_of word = result_ok (length_of word)
