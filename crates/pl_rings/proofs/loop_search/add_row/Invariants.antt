use Rattle.std.proofs.Common.{◌≡◌, ◌≤◌, ◌+◌, ◌-◌, ◌*◌}
use Rattle.pl_rings.specs.Traces.{LoopsBefore}
use Rattle.pl_rings.proofs.loop_search.add_row.Given as goal

abbrev pub invariant-loop-column : goal.invariant-loop-column
invariant-loop-column l = (l.column ≤ l.points) × (l.points ≡ l.plane.bounds.cols + 1) × LoopsBefore l.plane (l.row * (l.plane.bounds.cols + 1) + l.column) l.found.items l.marks.items

abbrev pub decreases-loop-column : goal.decreases-loop-column
decreases-loop-column l = l.points - l.column
