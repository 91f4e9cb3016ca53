use Rattle.pl_order.proofs.Others.{others_keep, found_keep}
use Rattle.pl_order.proofs.keeping.others_keep_order.Goals as goal

pub returns : goal.returns
returns g c = record {
  found = λ commands actor seen history work order prefix same legal. found_keep g.T.Technology.meaning commands actor seen history work order prefix same legal;
  more = λ commands actor seen more work order none legal. others_keep g.T.Technology.meaning commands actor seen more work order none legal;
}
