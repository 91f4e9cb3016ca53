use Rattle.pl_epochs.specs.Words.{table_of}
use Rattle.pl_runner.specs.Causes.{MayGoOn}
use Rattle.pl_runner.specs.Running.{IsAt, IsReady, seen_by}
use Rattle.pl_runner.specs.Stepping.{Keeps}
use Rattle.pl_runner.proofs.runner.Runner.run.Given as goal

abbrev pub invariant-loop : goal.invariant-loop
invariant-loop g l = record {
  keeps : Keeps l.fn.self l.self;
  at : IsAt l.lock (table_of l.epochs) l.self;
  ready : IsReady g.T.Technology.meaning g.T.Technology.job_value g.T.Technology.runs l.lock (table_of l.epochs) l.self;
  stays : MayGoOn l.self.actor (seen_by l.self);
}
