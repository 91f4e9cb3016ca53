use Rattle.pl_epochs.specs.Words.{table_of}
use Rattle.pl_runner.specs.Causes.{MayGoOn}
use Rattle.pl_runner.specs.Running.{IsReady, actor_of, seen_by}
use Rattle.pl_trials.proofs.workers.move_often.Given as goal

abbrev pub invariant-loop-step : goal.invariant-loop-step
invariant-loop-step g l = let t = g.T.Technology in record {
  ready : IsReady t.meaning t.job_value t.runs l.lock (table_of l.epochs) l.one;
  stays : MayGoOn (actor_of l.one) (seen_by l.one);
}
