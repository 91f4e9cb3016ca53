use Rattle.std.proofs.lemmas.List.Elements.{All-set}
use Rattle.pl_epochs.specs.Words.{table_of}
use Rattle.pl_runner.specs.Causes.{MayGoOn}
use Rattle.pl_runner.specs.Running.{IsReady, actor_of, seen_by}
use Rattle.pl_trials.proofs.workers.move_all.Goals as goal

pub loop-place-preserved : goal.loop-place-preserved
loop-place-preserved g c =
    let t = g.T.Technology in
    let moved = c.in_ok-move_once.ensures in
    All-set (λ h. IsReady t.meaning t.job_value t.runs c.args.lock.now (table_of c.args.epochs.now) h × MayGoOn (actor_of h) (seen_by h))
    c.loop-place.helpers c.loop-place.place c.move_once.new.runner (moved.ready, moved.stays) c.loop-place.invariant
