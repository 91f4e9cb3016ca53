use Rattle.std.proofs.Common.{◌≡◌, ◌+◌, []}
use Rattle.std.specs.Prelude.{All}
use Rattle.pl_epochs.specs.Words.{reads_at, table_of}
use Rattle.pl_runner.specs.Causes.{MayGoOn}
use Rattle.pl_runner.specs.Running.{IsReady, actor_of, seen_by}
use Rattle.pl_turn.specs.Passes.{joined, number, own, seen, splits, IsOf}
use Rattle.pl_trials.proofs.workers.seated.Given as goal

abbrev pub invariant-loop-before : goal.invariant-loop-before
invariant-loop-before g l = let t = g.T.Technology in record {
  lock : IsOf l.lock l.first;
  number : number l.first ≡ 1;
  splits : splits l.first ≡ 15 + l.before;
  seen : seen l.first ≡ [];
  own : own l.first ≡ [];
  joined : joined l.first ≡ [];
  reader : reads_at l.reader ≡ table_of l.epochs;
  ready : All (λ h. IsReady t.meaning t.job_value t.runs l.lock (table_of l.epochs) h × MayGoOn (actor_of h) (seen_by h)) l.helpers.items;
}
