use Rattle.pl_support.proofs.SupportLemmas.{KeptTo}
use Rattle.pl_support.proofs.passes.over_plate.Given as goal

abbrev pub invariant-loop-k : goal.invariant-loop-k
invariant-loop-k l = KeptTo l.slices l.k l.kept.items l.covered
