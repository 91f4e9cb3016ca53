use Rattle.std.specs.Prelude.{All}
use Rattle.pl_epochs.specs.Words.{table_of}
use Rattle.pl_runner.specs.Causes.{MayGoOn}
use Rattle.pl_runner.specs.Running.{IsReady, actor_of, seen_by}
use Rattle.pl_trials.proofs.workers.move_all.Given as goal

abbrev pub invariant-loop-place : goal.invariant-loop-place
invariant-loop-place g l = let t = g.T.Technology in All (λ h. IsReady t.meaning t.job_value t.runs l.lock (table_of l.epochs) h × MayGoOn (actor_of h) (seen_by h)) l.helpers
