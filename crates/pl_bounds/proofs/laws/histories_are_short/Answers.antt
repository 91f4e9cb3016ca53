use Rattle.pl_bounds.proofs.Short.{short}
use Rattle.pl_bounds.proofs.laws.histories_are_short.Goals as goal

pub returns : goal.returns
returns g c = λ history legal. short g.T.Technology.meaning g.met.T.Technology.laws history legal
