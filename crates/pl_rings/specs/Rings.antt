-- The rings of a slice.
use Rattle.std.specs.Prelude.{ℕ, zero, suc, List, map}
use Rattle.std.specs.List.{range_with_len}
use Rattle.pl_grid.specs.Planes.{Cells, eroded}

-- what is left of a plane after so many erosions
abbrev pub eroded_times : ℕ → Cells → Cells
eroded_times zero p = p
eroded_times (suc n) p = eroded (eroded_times n p)

-- a slice and what is left of it after 1, 2 and so on erosions, n planes in all
abbrev pub rings_of : ℕ → Cells → List Cells
rings_of n p = map (λ j. eroded_times j p) (range_with_len 0 n)
