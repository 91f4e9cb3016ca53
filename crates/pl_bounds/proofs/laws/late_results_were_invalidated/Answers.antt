use Rattle.pl_bounds.proofs.Late.{late_was_invalidated}
use Rattle.pl_bounds.proofs.laws.late_results_were_invalidated.Goals as goal

pub returns : goal.returns
returns g c = λ history legal. late_was_invalidated g.T.Technology.meaning g.met.T.Technology.laws history legal
