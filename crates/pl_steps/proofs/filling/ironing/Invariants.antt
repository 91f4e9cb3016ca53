use Rattle.std.proofs.Common.{◌≡◌}
use Rattle.pl_steps.specs.Layers.{each, ironing_at}
use Rattle.pl_steps.proofs.filling.ironing.Given as goal

abbrev pub invariant-loop-k : goal.invariant-loop-k
invariant-loop-k l = l.lists.items ≡ each l.k (ironing_at l.on l.sets)
