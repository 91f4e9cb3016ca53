use Rattle.pl_rings.proofs.RunEnds.{Running, run_left}
use Rattle.pl_rings.proofs.loop_trace.run_end.Given as goal

abbrev pub invariant-loop-x : goal.invariant-loop-x
invariant-loop-x l = Running l.plane l.side l.x l.y

abbrev pub decreases-loop-x : goal.decreases-loop-x
decreases-loop-x l = run_left l.plane.bounds l.x l.y l.side.heading
