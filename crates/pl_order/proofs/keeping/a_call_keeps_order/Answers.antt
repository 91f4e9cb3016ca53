use Rattle.pl_order.proofs.Steps.{call_keeps}
use Rattle.pl_order.proofs.keeping.a_call_keeps_order.Goals as goal

pub returns : goal.returns
returns g c = λ commands i seen work command reply order next legal. call_keeps g.T.Technology.meaning commands i seen work command reply order next legal
