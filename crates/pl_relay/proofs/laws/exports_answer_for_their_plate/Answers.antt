use Rattle.pl_relay.proofs.Plates.{answers}
use Rattle.pl_relay.proofs.laws.exports_answer_for_their_plate.Goals as goal

pub returns : goal.returns
returns g c = λ before after actor reply legal. answers g.T.Technology.meaning before after actor reply legal
