-- A plane kept as rows of bits: what its words say.
use Rattle.std.specs.Prelude.{◌≡◌, ℕ, ◌+◌, ◌-◌, ◌*◌, ◌/◌, ◌%◌, ◌<◌, ◌≤◌, ◌==◌, nat_lt, Bool, false, List, [], length, map, take, drop, if◌then◌else◌}
use Rattle.std.specs.List.{range_with_len}
use Rattle.pl_grid.specs.Extent.{Extent}
use Rattle.pl_grid.specs.Planes.{Cells}
use Rattle.pl_lanes.specs.Bits.{is_set, stays_set, comes_set}

-- the words of a row with so many columns
abbrev pub words_of : ℕ → ℕ
words_of cols = (cols + 63) / 64

-- the place, among all bits, of column i of row j
abbrev pub bit_place : ℕ → ℕ → ℕ → ℕ
bit_place cols j i = 64 * (j * words_of cols) + i

-- the values of the cells in row order
unfoldable pub packed_cells : Extent → List ℕ → List Bool
packed_cells b words = map (λ k. is_set words (bit_place b.cols (k / b.cols) (k % b.cols))) (range_with_len 0 (b.cols * b.rows))

abbrev pub packed : Extent → List ℕ → Cells
packed b words = record { bounds = b; cells = packed_cells b words }

-- each row has its words, and no bit past the last column is set
pub record IsPacked (b : Extent) (words : List ℕ) : Type 0 where
  pub room : length words ≡ b.rows * words_of b.cols
  pub tail : (j i : ℕ) → j < b.rows → b.cols ≤ i → i < 64 * words_of b.cols → is_set words (bit_place b.cols j i) ≡ false

-- ---- the words of one row

-- so many words from a place on
abbrev pub words_from : List ℕ → ℕ → ℕ → List ℕ
words_from words count start = take count (drop start words)

-- the row before the one that begins at a place, where there is one
abbrev pub words_before : List ℕ → ℕ → ℕ → List ℕ
words_before words count start = if start == 0 then [] else words_from words count (start - count)

-- bit i of the row that begins at a place, eroded
abbrev pub stays_at : List ℕ → ℕ → ℕ → ℕ → Bool
stays_at words count start i = stays_set (words_before words count start) (words_from words count start) (words_from words count (start + count)) i

-- bit i of the row that begins at a place, dilated
abbrev pub comes_at : List ℕ → ℕ → ℕ → ℕ → Bool
comes_at words count start i = comes_set (words_before words count start) (words_from words count start) (words_from words count (start + count)) i

-- bit x of a row that is moved up by some places
abbrev pub is_moved : List ℕ → ℕ → ℕ → Bool
is_moved row by x = if nat_lt x by then false else is_set row (x - by)

-- bit i of row j where all rows are moved up by some places, and as many rows come before them
abbrev pub is_widened : List ℕ → ℕ → ℕ → ℕ → ℕ → Bool
is_widened words count by j i = if nat_lt j by then false else is_moved (words_from words count ((j - by) * count)) by i
