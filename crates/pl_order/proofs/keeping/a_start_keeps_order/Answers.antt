use Rattle.pl_order.proofs.Steps.{start_keeps}
use Rattle.pl_order.proofs.keeping.a_start_keeps_order.Goals as goal

pub returns : goal.returns
returns g c = λ commands actor seen work slot epoch value order least next legal is. start_keeps g.T.Technology.meaning commands actor seen work slot epoch value order least next legal is
