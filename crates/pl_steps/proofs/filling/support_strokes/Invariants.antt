use Rattle.std.proofs.Common.{◌≡◌}
use Rattle.pl_steps.specs.Layers.{each, support_in}
use Rattle.pl_steps.proofs.filling.support_strokes.Given as goal

abbrev pub invariant-loop-k : goal.invariant-loop-k
invariant-loop-k l = l.lists.items ≡ each l.k (support_in l.cells)
