use Rattle.pl_adhesion.proofs.SpreadLemmas.{spread_is}
use Rattle.pl_adhesion.proofs.laws.brim_cells_are_within_steps.Goals as goal

pub returns : goal.returns
returns c = spread_is
