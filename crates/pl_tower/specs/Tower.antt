-- The strokes of the wipe tower.
use Rattle.std.specs.Prelude.{ℤ, ℕ, pos, ◌+ℤ◌, ◌*ℤ◌, ◌+◌, ◌*◌, List, [], ◌∷◌}
use Rattle.pl_grid.specs.Strokes.{turned_back}
use Rattle.pl_grid.specs.declared.stroke.Stroke.{Stroke}

-- along the middle of a row, from the column x to the column x + width, in half cells
abbrev pub row_stroke : ℤ → ℕ → ℤ → Stroke
row_stroke x width row = record { x0 = pos 2 *ℤ x; y0 = pos 2 *ℤ row +ℤ pos 1; x1 = pos 2 *ℤ (x +ℤ pos width); y1 = pos 2 *ℤ row +ℤ pos 1 }

-- the k-th of a change's four rows: the changes of a height are numbered from 0, and stand one above the other
abbrev pub row_of : ℤ → ℕ → ℕ → ℤ
row_of y change k = y +ℤ pos (4 * change + k)

-- a change's strokes: its four rows, of which the second and the fourth go backwards
abbrev pub block_of : ℤ → ℤ → ℕ → ℕ → List Stroke
block_of x y width change =
    row_stroke x width (row_of y change 0)
    ∷ turned_back (row_stroke x width (row_of y change 1))
    ∷ row_stroke x width (row_of y change 2)
    ∷ turned_back (row_stroke x width (row_of y change 3))
    ∷ []
