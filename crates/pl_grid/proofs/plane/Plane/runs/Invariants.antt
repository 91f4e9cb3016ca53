use Rattle.std.proofs.Common.{◌≡◌}
use Rattle.pl_grid.proofs.RunLemmas.{runs_before}
use Rattle.pl_grid.proofs.plane.Plane.runs.Given as goal

abbrev pub invariant-loop-number : goal.invariant-loop-number
invariant-loop-number l = l.runs.items ≡ runs_before l.along l.self l.number
