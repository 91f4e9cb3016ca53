-- The strokes of one line.
use Rattle.std.specs.Prelude.{◌≡◌, ℤ, ℕ, Bool, List, [], map, reverse, if◌then◌else◌}
use Rattle.pl_grid.specs.Extent.{IsNear}
use Rattle.pl_grid.specs.Lines.{line_runs}
use Rattle.pl_grid.specs.Planes.{Cells}
use Rattle.pl_grid.specs.Strokes.{is_used, stroke_of, turned_back}
use Rattle.pl_grid.specs.declared.stroke.Axis.{Axis}
use Rattle.pl_grid.specs.declared.stroke.Axis.TheVariants.{Rows}
use Rattle.pl_grid.specs.declared.stroke.Run.{Run}
use Rattle.pl_grid.specs.declared.stroke.Stroke.{Stroke}

-- the runs of a line where it is used, and none where it is not
abbrev pub used_runs : ℕ → List Run → List Run
used_runs step runs = if is_used step runs then runs else []

-- the strokes of a line's runs, there or back
abbrev pub line_strokes : Axis → Bool → List Run → List Stroke
line_strokes axis back runs = if back then map turned_back (reverse (map (stroke_of axis) runs)) else map (stroke_of axis) runs

-- a run that is near the origin, so that its half cells are numbers too
pub record IsNearRun (run : Run) : Type 0 where
  pub first : IsNear run.first run.line
  pub last : IsNear run.last run.line

-- the runs of each line of a plane along an axis are those of a row of another
abbrev pub AreRowsOf : Axis → Cells → Cells → Type 0
AreRowsOf axis p rows = (line : ℤ) → line_runs Rows rows line ≡ line_runs axis p line
