use Rattle.pl_session.proofs.Once.{one_complete}
use Rattle.pl_session.proofs.laws.one_complete_history.Goals as goal

pub returns : goal.returns
returns g c = λ commands one other first second. one_complete g.T.Technology.meaning g.met.T.Technology.laws commands one other first second
