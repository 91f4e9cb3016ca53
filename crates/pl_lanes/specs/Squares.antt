-- A square of 64 words whose blocks swap over the diagonal.
use Rattle.std.specs.Prelude.{◌≡◌, ℕ, ◌+◌, ◌-◌, ◌<◌, true, not, if◌then◌else◌}
use Rattle.pl_lanes.specs.Bits.{has_bit}

-- the places are in pairs `by` apart, and the word has a bit at the first of each
pub record IsHalves (by halves : ℕ) : Type 0 where
  pub start : (j : ℕ) → j < by → has_bit halves j ≡ true
  pub pairs : (j : ℕ) → j + by < 64 → has_bit halves (j + by) ≡ not (has_bit halves j)
  pub short : by < 64
  pub paired : (j : ℕ) → j < 64 → has_bit halves j ≡ true → j + by < 64

-- the word and the bit from which bit j of word i comes when the blocks swap
abbrev pub swapped_word : ℕ → ℕ → ℕ → ℕ → ℕ
swapped_word by halves i j = if has_bit halves i then (if has_bit halves j then i else i + by) else (if has_bit halves j then i - by else i)

abbrev pub swapped_bit : ℕ → ℕ → ℕ → ℕ → ℕ
swapped_bit by halves i j = if has_bit halves i then (if has_bit halves j then j else j - by) else (if has_bit halves j then j + by else j)
