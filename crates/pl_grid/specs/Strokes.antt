-- The runs of a plane, and the strokes along them.
use Rattle.std.specs.Prelude.{ℤ, ℕ, zero, suc, pos, negsuc, ◌+ℤ◌, ◌*ℤ◌, ◌+◌, ◌-◌, ◌==◌, Bool, true, false, not, ◌&&◌, List, [], ◌∷◌, ◌++◌, length, map, reverse, drop, slice_index_or, if◌then◌else◌}
use Rattle.std.specs.List.{range_with_len, filter, prefix_len, flat_map}
use Rattle.std.specs.Int.{int_rem_euclid}
use Rattle.pl_grid.specs.Planes.{Cells, filled}
use Rattle.pl_grid.specs.declared.stroke.Axis.{Axis}
use Rattle.pl_grid.specs.declared.stroke.Axis.TheVariants.{Rows, Columns}
use Rattle.pl_grid.specs.declared.stroke.Run.{Run}
use Rattle.pl_grid.specs.declared.stroke.Stroke.{Stroke}

-- the place i is filled, and the one before is not
abbrev pub starts_run : List Bool → ℕ → Bool
starts_run cells zero = slice_index_or cells 0 false
starts_run cells (suc i) = slice_index_or cells (suc i) false && not (slice_index_or cells i false)

-- a run from its start on, as far as the cells are filled
abbrev pub run_from : ℤ → ℤ → List Bool → ℕ → Run
run_from line low cells i = record { line = line; first = low +ℤ pos i; last = low +ℤ pos (i + prefix_len (λ b. b) (drop i cells) - 1) }

-- the maximal runs of one line, by their first cell; the line's cells begin at `low`
abbrev pub runs_in : ℤ → ℤ → List Bool → List Run
runs_in line low cells = map (run_from line low cells) (filter (starts_run cells) (range_with_len 0 (length cells)))

abbrev pub row_cells : Cells → ℤ → List Bool
row_cells p y = map (λ i. filled p (p.bounds.x0 +ℤ pos i) y) (range_with_len 0 p.bounds.cols)

abbrev pub column_cells : Cells → ℤ → List Bool
column_cells p x = map (λ j. filled p x (p.bounds.y0 +ℤ pos j)) (range_with_len 0 p.bounds.rows)

-- the runs of each line of the box, line by line
abbrev pub lines_of : Axis → Cells → List (List Run)
lines_of Rows p = map (λ j. runs_in (p.bounds.y0 +ℤ pos j) p.bounds.x0 (row_cells p (p.bounds.y0 +ℤ pos j))) (range_with_len 0 p.bounds.rows)
lines_of Columns p = map (λ i. runs_in (p.bounds.x0 +ℤ pos i) p.bounds.y0 (column_cells p (p.bounds.x0 +ℤ pos i))) (range_with_len 0 p.bounds.cols)

-- all runs, by line, then by first
abbrev pub runs_of : Axis → Cells → List Run
runs_of axis p = flat_map (λ runs. runs) (lines_of axis p)

-- along the middle of the line, from the outer side of the first cell to that of the last
abbrev pub stroke_of : Axis → Run → Stroke
stroke_of Rows r = record { x0 = pos 2 *ℤ r.first; y0 = pos 2 *ℤ r.line +ℤ pos 1; x1 = pos 2 *ℤ r.last +ℤ pos 2; y1 = pos 2 *ℤ r.line +ℤ pos 1 }
stroke_of Columns r = record { x0 = pos 2 *ℤ r.line +ℤ pos 1; y0 = pos 2 *ℤ r.first; x1 = pos 2 *ℤ r.line +ℤ pos 1; y1 = pos 2 *ℤ r.last +ℤ pos 2 }

abbrev pub turned_back : Stroke → Stroke
turned_back s = record { x0 = s.x1; y0 = s.y1; x1 = s.x0; y1 = s.y0 }

abbrev pub is_zero : ℤ → Bool
is_zero (pos n) = n == 0
is_zero (negsuc n) = false

-- a line with a run, and with a number that is a multiple of the step
abbrev pub is_used : ℕ → List Run → Bool
is_used step [] = false
is_used step (r ∷ rs) = is_zero (int_rem_euclid r.line (pos step))

-- each second line comes in reverse and goes backwards
abbrev pub to_and_fro : Bool → List (List Stroke) → List Stroke
to_and_fro back [] = []
to_and_fro back (line ∷ lines) = (if back then map turned_back (reverse line) else line) ++ to_and_fro (not back) lines

-- the strokes of a plane with a step: its runs on the used lines, which turn about
abbrev pub strokes_of : Axis → ℕ → Cells → List Stroke
strokes_of axis step p = to_and_fro false (map (map (stroke_of axis)) (filter (is_used step) (lines_of axis p)))

-- even layers go along rows, odd ones along columns
abbrev pub axis_of : Bool → Axis
axis_of true = Rows
axis_of false = Columns
