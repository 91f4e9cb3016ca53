use Rattle.std.proofs.Common.{◌≡◌, ◌-◌, length}
use Rattle.pl_rings.specs.Sides.{side_count}
use Rattle.pl_rings.proofs.LoopTrace.{AtTurn}
use Rattle.pl_rings.proofs.loop_trace.trace.Given as goal

abbrev pub invariant-loop-corners : goal.invariant-loop-corners
invariant-loop-corners l = AtTurn l.plane l.fn.start l.initial.marks.items l.marks.items l.side l.number l.is_start l.corners.items × (length l.marks.items ≡ length l.initial.marks.items)

abbrev pub decreases-loop-corners : goal.decreases-loop-corners
decreases-loop-corners l = side_count l.plane.bounds - length l.corners.items
