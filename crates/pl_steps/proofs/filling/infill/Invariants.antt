use Rattle.std.proofs.Common.{◌≡◌}
use Rattle.pl_steps.specs.Layers.{each, infill_at}
use Rattle.pl_steps.proofs.filling.infill.Given as goal

abbrev pub invariant-loop-k : goal.invariant-loop-k
invariant-loop-k l = l.lists.items ≡ each l.k (infill_at l.sets l.density)
