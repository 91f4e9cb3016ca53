use Rattle.pl_bounds.proofs.Once.{once}
use Rattle.pl_bounds.proofs.laws.slots_start_once_an_epoch.Goals as goal

pub returns : goal.returns
returns g c = λ history legal slot epoch. once g.T.Technology.meaning g.met.T.Technology.laws history legal slot epoch
