use Rattle.std.proofs.Common.{◌-◌, ◌≤◌}
use Rattle.pl_adhesion.proofs.ReachLemmas.{Found}
use Rattle.pl_adhesion.proofs.reach.filled_reach.Given as goal

abbrev pub invariant-loop-place : goal.invariant-loop-place
invariant-loop-place l = (l.place ≤ l.count) × Found l.plane l.place l.reach

abbrev pub decreases-loop-place : goal.decreases-loop-place
decreases-loop-place l = l.count - l.place
