use Rattle.pl_order.proofs.Steps.{closing_keeps}
use Rattle.pl_order.proofs.keeping.a_closing_keeps_order.Goals as goal

pub returns : goal.returns
returns g c = λ commands actor seen work what order closing legal. closing_keeps g.T.Technology.meaning commands actor seen work what order closing legal
