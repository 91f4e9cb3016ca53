use Rattle.pl_plant.proofs.Clearing.{IsClearedBelow}
use Rattle.pl_plant.proofs.keeping.clear_all.Given as goal

abbrev pub invariant-loop-n : goal.invariant-loop-n
invariant-loop-n g l = IsClearedBelow l.set l.n l.fn.kept l.kept
