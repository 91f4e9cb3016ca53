use Rattle.std.proofs.Common.{◌+◌, ◌*◌}
use Rattle.pl_rings.specs.Traces.{LoopsBefore}
use Rattle.pl_rings.proofs.loop_search.loops.Given as goal

abbrev pub invariant-loop-row : goal.invariant-loop-row
invariant-loop-row l = LoopsBefore l.plane (l.row * (l.plane.bounds.cols + 1)) l.found.items l.marks.items
