-- The search for cycles of numbers from their starts, where four numbers have one place, and a place one mark.
use Rattle.std.specs.Prelude.{ℕ, Bool, List, true, false, ◌≡◌, ◌<◌, ◌/◌, ◌&&◌, not, map, slice_set, if◌then◌else◌}
use Rattle.std.specs.List.{range_with_len, filter}
use Rattle.pl_rings.specs.Cycles.{steps, cycle_of, is_least, is_marked}

-- a start whose place has no mark
abbrev pub free_start : (ℕ → Bool) → List Bool → ℕ → Bool
free_start starts marks k = starts k && not (is_marked marks (k / 4))

-- the marks after a number that is a start, or is none
abbrev pub passed : ℕ → Bool → List Bool → List Bool
passed k is_start marks = if is_start then slice_set marks (k / 4) true else marks

-- the free starts among the m numbers from k on are taken, and no others
pub record Closes (next : ℕ → ℕ) (k m : ℕ) (old new : ℕ → Bool) : Type 0 where
  pub kept : (j : ℕ) → new j ≡ true → old j ≡ true
  pub off : (i : ℕ) → i < m → new (steps next i k) ≡ false
  pub only : (j : ℕ) → old j ≡ true → new j ≡ false → (i : ℕ) × (i < m) × (j ≡ steps next i k)

-- the cycles of the numbers below k, in order
abbrev pub cycles_below : (ℕ → Bool) → (ℕ → ℕ) → ℕ → ℕ → List (List ℕ)
cycles_below counts next n k = map (cycle_of next n) (filter (is_least counts next n) (range_with_len 0 k))

-- j lies on a cycle whose least number is below k
abbrev pub IsTraced : (ℕ → Bool) → (ℕ → ℕ) → ℕ → ℕ → ℕ → Type 0
IsTraced counts next n k j = (i : ℕ) × (i < k) × (is_least counts next n i ≡ true) × ((t : ℕ) × (j ≡ steps next t i))

-- the open starts are those on no cycle whose least number is below k
pub record AreOpen (counts starts : ℕ → Bool) (next : ℕ → ℕ) (n k : ℕ) (free : ℕ → Bool) : Type 0 where
  pub starts_too : (j : ℕ) → free j ≡ true → starts j ≡ true
  pub fresh : (j : ℕ) → free j ≡ true → IsTraced counts next n k j → ⊥
  pub rest : (j : ℕ) → starts j ≡ true → free j ≡ false → IsTraced counts next n k j
