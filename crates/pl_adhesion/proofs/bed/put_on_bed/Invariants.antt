use Rattle.std.proofs.Common.{◌-◌, ◌≤◌}
use Rattle.pl_adhesion.proofs.BedLemmas.{IsPut}
use Rattle.pl_adhesion.proofs.bed.put_on_bed.Given as goal

abbrev pub invariant-loop-place : goal.invariant-loop-place
invariant-loop-place l = (l.place ≤ l.count) × IsPut l.initial.bed l.cells l.shift_x l.shift_y l.place l.bed

abbrev pub decreases-loop-place : goal.decreases-loop-place
decreases-loop-place l = l.count - l.place
