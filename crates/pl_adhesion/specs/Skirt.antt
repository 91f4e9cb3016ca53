-- The skirt: rectangles round all that stands on the bed.
use Rattle.std.specs.Prelude.{ℤ, ℕ, pos, ◌+ℤ◌, ◌-ℤ◌, ◌+◌, List, [], ◌∷◌, map, reverse, if◌then◌else◌}
use Rattle.std.specs.List.{range_with_len}
use Rattle.pl_grid.specs.Planes.{Cells}
use Rattle.pl_grid.specs.declared.stroke.Corner.{Corner}
use Rattle.pl_adhesion.specs.declared.reach.Reach.{Reach}
use Rattle.pl_adhesion.specs.Reach.{has_cell, reach_of}

abbrev pub corner : ℤ → ℤ → Corner
corner x y = record { x = x; y = y }

-- a rectangle, from its lower left corner first to the right
abbrev pub rectangle : ℤ → ℤ → ℤ → ℤ → List Corner
rectangle x0 y0 x1 y1 = corner x0 y0 ∷ corner x1 y0 ∷ corner x1 y1 ∷ corner x0 y1 ∷ []

-- the rectangle of the cells from the least to the greatest column and row, grown by n cells on each side
abbrev pub rectangle_round : ℕ → Reach → List Corner
rectangle_round n r = rectangle (r.columns.least -ℤ pos n) (r.rows.least -ℤ pos n) (r.columns.greatest +ℤ pos (n + 1)) (r.rows.greatest +ℤ pos (n + 1))

-- the rectangles round the filled cells: the j-th is distance + 1 + j cells away, and the outermost comes first
abbrev pub skirt_of : Cells → ℕ → ℕ → List (List Corner)
skirt_of bed distance count = if has_cell bed then map (λ j. rectangle_round (distance + 1 + j) (reach_of bed)) (reverse (range_with_len 0 count)) else []
