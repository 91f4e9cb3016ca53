use Rattle.pl_order.proofs.Completing.{complete, runs_add_up}
use Rattle.pl_order.proofs.ending.ended_runners_complete_a_history.Goals as goal

pub returns : goal.returns
returns g c = record {
  complete = λ commands workers runners history made. complete g.T.Technology.meaning commands workers runners history made;
  runs = λ commands workers runners history made. runs_add_up g.T.Technology.meaning commands workers runners history made;
}
