use Rattle.std.proofs.Common.{◌≡◌, take}
use Rattle.pl_fff.proofs.print_runs.ground.Given as goal

abbrev pub invariant-loop-foot : goal.invariant-loop-foot
invariant-loop-foot l = l.footprints.items ≡ take l.foot-index l.feet
