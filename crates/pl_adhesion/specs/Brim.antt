-- The brim: loops round all that stands on the bed, one outside the other.
use Rattle.std.specs.Prelude.{◌≡◌, ◌≤◌, ℤ, ℕ, zero, suc, ◌-ℤ◌, ◌+◌, unsigned_abs, true, List, reverse}
use Rattle.std.specs.List.{range_with_len, flat_map}
use Rattle.pl_grid.specs.Planes.{Cells, filled, dilated, widened}
use Rattle.pl_grid.specs.declared.stroke.Corner.{Corner}
use Rattle.pl_rings.specs.Sides.{loops_of}

-- a plane after so many dilations
abbrev pub dilated_times : ℕ → Cells → Cells
dilated_times zero p = p
dilated_times (suc n) p = dilated (dilated_times n p)

-- the cells of the bed after j dilations, in a box that has room for `width` of them
abbrev pub spread : ℕ → Cells → ℕ → Cells
spread width bed j = dilated_times j (widened width bed)

-- the loops of the cells of the bed after j dilations, for j from the width down to 1
abbrev pub brim_of : Cells → ℕ → List (List Corner)
brim_of bed width = flat_map (λ j. loops_of (spread width bed j)) (reverse (range_with_len 1 width))

-- some filled cell is at most n steps away, each step one column or one row
abbrev pub IsWithinSteps : Cells → ℕ → ℤ → ℤ → Type 0
IsWithinSteps p n x y = (u : ℤ) × (v : ℤ) × (filled p u v ≡ true) × (unsigned_abs (x -ℤ u) + unsigned_abs (y -ℤ v) ≤ n)
