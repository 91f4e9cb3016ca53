use Rattle.std.proofs.Common.{All, ap, sym, subst, ◌∙◌, arith}
use Rattle.std.proofs.lemmas.List.Elements.{All-push}
use Rattle.pl_epochs.specs.Words.{table_of}
use Rattle.pl_runner.specs.Causes.{MayGoOn}
use Rattle.pl_runner.specs.Running.{IsReady, actor_of, seen_by}
use Rattle.pl_trials.proofs.workers.seated.Goals as goal

pub loop-before-preserved : goal.loop-before-preserved
loop-before-preserved g c =
    let t = g.T.Technology in
    let made = c.next_helper-helper.ensures in
    record {
      lock = made.first_lock;
      number = made.first_number;
      splits = omega (arith, made.first_splits);
      seen = made.first_seen;
      own = made.first_own ∙ c.loop-before.invariant.own;
      joined = made.first_joined ∙ c.loop-before.invariant.joined;
      reader = made.reader;
      ready = subst (All (λ h. IsReady t.meaning t.job_value t.runs c.args.lock.now (table_of c.args.epochs.now) h × MayGoOn (actor_of h) (seen_by h))) (sym c.in_ok-push.ensures.items)
          (All-push (λ h. IsReady t.meaning t.job_value t.runs c.args.lock.now (table_of c.args.epochs.now) h × MayGoOn (actor_of h) (seen_by h)) _ _ c.loop-before.invariant.ready (made.ready, made.stays));
    }
