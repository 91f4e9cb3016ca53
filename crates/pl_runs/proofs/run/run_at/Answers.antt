use Rattle.std.proofs.Common.{map, ap, sym, subst, ◌∙◌}
use Rattle.std.specs.Prelude.{MatchOption}
use Rattle.std.specs.Arc.{arc_value}
use Rattle.pl_epochs.specs.Words.{table_of}
use Rattle.pl_order.specs.Ended.{commands_for}
use Rattle.pl_runner.specs.Closing.{epochs_of}
use Rattle.pl_turn.specs.Passes.{number}
use Rattle.pl_runs.specs.Script.{commands_at}
use Rattle.pl_runs.specs.Seats.{AreSeated, HasFirst, HasSeat, IsAccount}
use Rattle.pl_runs.specs.Went.{HasComeBack, HasEndedWith}
use Rattle.pl_runs.proofs.Back.{has_account, may_start}
use Rattle.pl_runs.proofs.Lists.{zip_all, zip_map}
use Rattle.pl_runs.proofs.run.run_at.Goals as goal

pub run_all-requires-clause-may : goal.run_all-requires-clause-may
run_all-requires-clause-may g c κs within k d lt = let t = g.T.Technology in let it = c.in_ok-seats.ensures.crews k d lt in
    (ap epochs_of it.0 ∙ (c.requires.home ∙ sym it.1), may_start t.meaning t.job_value t.runs _ _ _ _ _ _ _ it.0 it.1 it.2)

pub returns : goal.returns
returns g c = let t = g.T.Technology in let s = c.in_ok-seats.ensures in let b = c.in_ok-accounts.ensures in
    let script = commands_at (map (λ s. map arc_value s.items) c.args.sessions.items) in
    let lock = c.args.desk.now.lock.now in
    let table = table_of c.args.desk.now.epochs.now in
    let crews = c.in_ok-seats.seats.0.items in
    let accounts = c.in_ok-accounts.accounts.items in
    let actors = zip_map crews accounts (λ x y. MatchOption x.runner ⊥ (λ r. HasComeBack t.meaning x.lock.now r y.actor y.pass y.runs)) (λ x. HasSeat t.meaning t.job_value t.runs lock table (commands_for script x.actor) x.lock.now (table_of x.epochs.now) x.actor x.runner)
    (λ x. x.actor) (λ y. y.actor) s.crews b (λ x y p r. (has_account t.meaning t.job_value t.runs lock table script x.actor x.lock.now x.runner y.actor y.pass y.runs p.0 p.2 r).0) in record {
      first = subst (HasFirst lock c.in_ok-seats.seats.1) (sym actors) s.first;
      accounts = zip_all crews accounts (λ x y. MatchOption x.runner ⊥ (λ r. HasComeBack t.meaning x.lock.now r y.actor y.pass y.runs)) (λ x. HasSeat t.meaning t.job_value t.runs lock table (commands_for script x.actor) x.lock.now (table_of x.epochs.now) x.actor x.runner)
          (λ y. IsAccount lock y.actor y.pass) s.crews b (λ x y p r. (has_account t.meaning t.job_value t.runs lock table script x.actor x.lock.now x.runner y.actor y.pass y.runs p.0 p.2 r).1);
      ended = zip_all crews accounts (λ x y. MatchOption x.runner ⊥ (λ r. HasComeBack t.meaning x.lock.now r y.actor y.pass y.runs)) (λ x. HasSeat t.meaning t.job_value t.runs lock table (commands_for script x.actor) x.lock.now (table_of x.epochs.now) x.actor x.runner)
          (λ y. HasEndedWith t.meaning lock (commands_for script y.actor) y.actor y.pass y.runs) s.crews b (λ x y p r. (has_account t.meaning t.job_value t.runs lock table script x.actor x.lock.now x.runner y.actor y.pass y.runs p.0 p.2 r).2);
      idle = s.idle;
      seated = subst (λ l. AreSeated script c.args.desk.now.workers 25 l (map (λ p. number p) c.in_ok-seats.seats.2.items)) (sym actors) s.seated;
    }
