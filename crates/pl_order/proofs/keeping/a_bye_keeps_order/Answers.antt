use Rattle.std.proofs.Common.{[], refl}
use Rattle.pl_order.proofs.Steps.{bye_keeps}
use Rattle.pl_order.proofs.keeping.a_bye_keeps_order.Goals as goal

pub returns : goal.returns
returns g c = record {
  order = λ commands i seen work order last legal. bye_keeps g.T.Technology.meaning commands g.met.T.Technology.laws i seen work order last legal;
  said = λ i seen. (seen, [], refl);
}
