use Rattle.std.proofs.Common.{◌≡◌}
use Rattle.pl_steps.specs.Layers.{each, surfaces_at}
use Rattle.pl_steps.proofs.preparing.prepare.Given as goal

abbrev pub invariant-loop-k : goal.invariant-loop-k
invariant-loop-k l = l.sets.items ≡ each l.k (surfaces_at l.slices l.inner l.top l.bottom)
