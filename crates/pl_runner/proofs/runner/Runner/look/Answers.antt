use Rattle.std.proofs.Common.{rules}
use Rattle.pl_machine.specs.History.{replay}
use Rattle.pl_turn.specs.Passes.{seen}
use Rattle.pl_runner.proofs.Readying.{look_ready, look_waits}
use Rattle.pl_runner.proofs.runner.Runner.look.Goals as goal

pub returns-clause-ready : goal.returns-clause-ready
returns-clause-ready g c =
    let t = g.T.Technology in
    let i = c.idle_turn-looked in
    let u = c.take_up.ensures in
    look_ready t.meaning t.job_value t.runs _ _ c.args.self.now c.take_up.new.self _ c.requires.ready u.hands u.actor u.commands (search rules) (search rules) (search rules)
    c.args.sessions (replay t.meaning (seen i.result.1)) c.requires.free u.bench u.stopped i.result.0 c.take_up.result u.step u.made (search rules) (search rules) (search rules) (search rules) (search rules) (search rules)

pub returns-clause-waits : goal.returns-clause-waits
returns-clause-waits g c =
    let t = g.T.Technology in
    let i = c.idle_turn-looked in
    let u = c.take_up.ensures in
    look_waits t.meaning t.job_value t.runs _ _ c.args.self.now c.take_up.new.self _ c.requires.ready u.hands u.actor u.commands (search rules) (search rules) (search rules)
    c.args.sessions (replay t.meaning (seen i.result.1)) c.requires.free u.bench u.stopped i.result.0 c.take_up.result u.step (search rules) (search rules) (search rules)
