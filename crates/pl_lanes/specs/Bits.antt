-- Bits of rows.
use Rattle.std.specs.Prelude.{ℕ, zero, suc, ◌+◌, ◌-◌, ◌*◌, ◌/◌, ◌%◌, ◌^◌, ◌==◌, List, slice_index, bit_and, bit_or, bit_xor, Bool, false, ◌&&◌, ◌||◌}
use Rattle.std.specs.Int.{bit_at, bit_not, w64}

-- bit i of a word is set
unfoldable pub has_bit : ℕ → ℕ → Bool
has_bit word i = bit_at word i == 1

-- bit x of a row is set; none is outside the row
abbrev pub is_set : List ℕ → ℕ → Bool
is_set row x = has_bit (slice_index row (x / 64)) (x % 64)

-- the bit before bit x is set
abbrev pub is_set_before : List ℕ → ℕ → Bool
is_set_before row zero = false
is_set_before row (suc x) = is_set row x

-- bit x of the row, its two neighbours in the row, and the bits below and above are set
abbrev pub stays_set : List ℕ → List ℕ → List ℕ → ℕ → Bool
stays_set below row above x = is_set row x && (is_set_before row x && is_set row (x + 1)) && (is_set below x && is_set above x)

-- bit x of the row, one of its two neighbours in the row, or the bit below or above is set
abbrev pub comes_set : List ℕ → List ℕ → List ℕ → ℕ → Bool
comes_set below row above x = (is_set row x || (is_set_before row x || is_set row (x + 1))) || (is_set below x || is_set above x)

-- ---- words

abbrev pub minus_word : ℕ → ℕ → ℕ
minus_word a b = bit_and a (bit_not w64 b)

abbrev pub moved_up : ℕ → ℕ → ℕ
moved_up before word = bit_or (word * 2 % 2 ^ 64) (before / 2 ^ 63)

abbrev pub moved_down : ℕ → ℕ → ℕ
moved_down word after = bit_or (word / 2) (after * 2 ^ 63 % 2 ^ 64)

abbrev pub word_before : List ℕ → ℕ → ℕ
word_before row zero = 0
word_before row (suc k) = slice_index row k

abbrev pub eroded_word : List ℕ → List ℕ → List ℕ → ℕ → ℕ
eroded_word below row above k =
    bit_and (bit_and (slice_index row k) (bit_and (moved_up (word_before row k) (slice_index row k)) (moved_down (slice_index row k) (slice_index row (k + 1))))) (bit_and (slice_index below k) (slice_index above k))

abbrev pub dilated_word : List ℕ → List ℕ → List ℕ → ℕ → ℕ
dilated_word below row above k =
    bit_or (bit_or (slice_index row k) (bit_or (moved_up (word_before row k) (slice_index row k)) (moved_down (slice_index row k) (slice_index row (k + 1))))) (bit_or (slice_index below k) (slice_index above k))

-- the word with its n lowest bits turned over
abbrev pub toggled_word : ℕ → ℕ → ℕ
toggled_word word n = bit_xor word (2 ^ n - 1)
