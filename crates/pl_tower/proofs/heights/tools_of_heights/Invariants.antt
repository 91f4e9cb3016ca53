use Rattle.pl_tower.proofs.HeightLemmas.{Along}
use Rattle.pl_tower.proofs.heights.tools_of_heights.Given as goal

abbrev pub invariant-loop-set : goal.invariant-loop-set
invariant-loop-set l = Along l.used l.heights.items l.current l.set-index
