use Rattle.pl_relay.proofs.Turns.{one_order}
use Rattle.pl_relay.proofs.laws.a_relay_has_one_order.Goals as goal

pub returns : goal.returns
returns g c = λ commands count workers history relay whole. one_order g.T.Technology.meaning commands count workers relay history whole
