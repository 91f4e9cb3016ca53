use Rattle.pl_bounds.proofs.Once.{few_rises, each_rise}
use Rattle.pl_bounds.proofs.laws.epochs_count_applies_and_cancels.Goals as goal

pub returns : goal.returns
returns g c = record {
  most = λ history slot legal. few_rises g.T.Technology.meaning g.met.T.Technology.laws history slot legal;
  steps = λ history slot legal. each_rise g.T.Technology.meaning g.met.T.Technology.laws history slot legal;
}
