use Rattle.pl_relay.proofs.InTurn.{in_turn}
use Rattle.pl_relay.proofs.laws.a_relay_exports_in_turn.Goals as goal

pub returns : goal.returns
returns g c = λ commands count workers session history relay whole from to ends. in_turn g.T.Technology.meaning commands count workers relay history whole session from to ends
