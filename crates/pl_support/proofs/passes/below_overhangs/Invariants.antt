use Rattle.pl_support.proofs.SupportLemmas.{CarriedTo}
use Rattle.pl_support.proofs.passes.below_overhangs.Given as goal

abbrev pub invariant-loop-k : goal.invariant-loop-k
invariant-loop-k l = CarriedTo l.slices l.k l.found.items l.carried

abbrev pub decreases-loop-k : goal.decreases-loop-k
decreases-loop-k l = l.k
