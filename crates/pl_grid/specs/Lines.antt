-- The lines of a box along an axis, and the cells and runs of one of them.
use Rattle.std.specs.Prelude.{ℤ, ℕ, pos, ◌+ℤ◌, ◌-◌, Bool, List, map}
use Rattle.std.specs.List.{range_with_len}
use Rattle.pl_grid.specs.Extent.{Extent}
use Rattle.pl_grid.specs.Planes.{Cells, filled}
use Rattle.pl_grid.specs.Strokes.{runs_in}
use Rattle.pl_grid.specs.declared.stroke.Axis.{Axis}
use Rattle.pl_grid.specs.declared.stroke.Axis.TheVariants.{Rows, Columns}
use Rattle.pl_grid.specs.declared.stroke.Run.{Run}

-- how many lines the box has
abbrev pub line_count : Axis → Extent → ℕ
line_count Rows b = b.rows
line_count Columns b = b.cols

-- how many cells each line has
abbrev pub line_length : Axis → Extent → ℕ
line_length Rows b = b.cols
line_length Columns b = b.rows

-- the least line
abbrev pub first_line : Axis → Extent → ℤ
first_line Rows b = b.y0
first_line Columns b = b.x0

-- the first cell of each line
abbrev pub first_place : Axis → Extent → ℤ
first_place Rows b = b.x0
first_place Columns b = b.y0

-- the cell at a place of a line is filled
abbrev pub filled_on : Axis → Cells → ℤ → ℤ → Bool
filled_on Rows p line place = filled p place line
filled_on Columns p line place = filled p line place

-- the cells of a line, from the first on
unfoldable pub line_cells : Axis → Cells → ℤ → List Bool
line_cells axis p line = map (λ i. filled_on axis p line (first_place axis p.bounds +ℤ pos i)) (range_with_len 0 (line_length axis p.bounds))

-- the runs of a line, by their first cell
abbrev pub line_runs : Axis → Cells → ℤ → List Run
line_runs axis p line = runs_in line (first_place axis p.bounds) (line_cells axis p line)

-- the run of the cells whose numbers are from `first` on and below `end`
abbrev pub run_between : ℤ → ℤ → ℕ → ℕ → Run
run_between line low first end = record { line = line; first = low +ℤ pos first; last = low +ℤ pos (end - 1) }
