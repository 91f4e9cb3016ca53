use Rattle.std.proofs.Common.{rules, refl, arith}
use Rattle.pl_runner.proofs.Readying.{closed_ready, closed_stays, counts_stopped, few_runs}
use Rattle.pl_runner.proofs.runner.Runner.finish.Goals as goal

pub run_job-ran-requires-clause-room : goal.run_job-ran-requires-clause-room
run_job-ran-requires-clause-room g c κs within =
    let t = g.T.Technology in
    few_runs t.meaning t.job_value t.runs _ _ c.args.self.now c.requires.ready c.in-Some-take.started c.in-Some.field-0 _ (search rules) (search rules) c.in-Some.field-0.pass.entries.0

pub count-requires : goal.count-requires
count-requires g c =
    let t = g.T.Technology in
    let few = few_runs t.meaning t.job_value t.runs _ _ c.args.self.now c.requires.ready c.in-Some-take.started c.in-Some.field-0 _ (search rules) (search rules) c.in-Some.field-0.pass.entries.0 in
    let stopped = c.requires.ready.few_stopped in
    omega (arith, few, stopped)

pub returns-in-Done-clause-ready : goal.returns-in-Done-clause-ready
returns-in-Done-clause-ready g c =
    let t = g.T.Technology in
    let k = c.close_job-closed.ensures in
    closed_ready t.meaning t.job_value t.runs _ _ c.args.self.now _ _ c.requires.ready refl c.count.ensures.actor c.count.ensures.commands (search rules) (search rules) (search rules)
    c.in-Some-take.started c.in-Some.field-0 (search rules) (search rules) (λ commands order. rw c.in-Done.is at (k.order commands (rw c.of.ensures order))) _ refl (rw c.in-Done.is at k.own) refl (search rules) (search rules) (search rules)
    (counts_stopped t.meaning t.job_value t.runs _ _ c.args.self.now c.requires.ready c.count.new.self _ c.count.ensures.stopped (search rules))

pub returns-in-Done-clause-stays : goal.returns-in-Done-clause-stays
returns-in-Done-clause-stays g c =
    let t = g.T.Technology in
    let k = c.close_job-closed in
    rw c.count.ensures.actor
    (closed_stays t.meaning t.job_value t.runs _ _ c.args.self.now c.requires.ready c.in-Some-take.started c.in-Some.field-0 (record { pass = k.result.1; reader = k.result.2 })
    (search rules) (search rules) (λ commands order. rw c.in-Done.is at (k.ensures.order commands (rw c.of.ensures order))) _ refl (rw c.in-Done.is at k.ensures.own) (search rules))

pub returns-in-Late-clause-ready : goal.returns-in-Late-clause-ready
returns-in-Late-clause-ready g c =
    let t = g.T.Technology in
    let k = c.close_job-closed.ensures in
    closed_ready t.meaning t.job_value t.runs _ _ c.args.self.now _ _ c.requires.ready refl c.count.ensures.actor c.count.ensures.commands (search rules) (search rules) (search rules)
    c.in-Some-take.started c.in-Some.field-0 (search rules) (search rules) (λ commands order. rw c.in-Late.is at (k.order commands (rw c.of.ensures order))) _ refl (rw c.in-Late.is at k.own) refl (search rules) (search rules) (search rules)
    (counts_stopped t.meaning t.job_value t.runs _ _ c.args.self.now c.requires.ready c.count.new.self _ c.count.ensures.stopped (search rules))

pub returns-in-Late-clause-stays : goal.returns-in-Late-clause-stays
returns-in-Late-clause-stays g c =
    let t = g.T.Technology in
    let k = c.close_job-closed in
    rw c.count.ensures.actor
    (closed_stays t.meaning t.job_value t.runs _ _ c.args.self.now c.requires.ready c.in-Some-take.started c.in-Some.field-0 (record { pass = k.result.1; reader = k.result.2 })
    (search rules) (search rules) (λ commands order. rw c.in-Late.is at (k.ensures.order commands (rw c.of.ensures order))) _ refl (rw c.in-Late.is at k.ensures.own) (search rules))
