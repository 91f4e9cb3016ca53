use Rattle.std.proofs.Common.{rules, refl}
use Rattle.pl_turn.specs.Passes.{own, seen}
use Rattle.pl_runner.proofs.Readying.{new_ready, new_stays}
use Rattle.pl_runner.proofs.runner.Runner.session.Goals as goal

pub returns-clause-ready : goal.returns-clause-ready
returns-clause-ready g c =
    let t = g.T.Technology in
    λ lock table of reads. new_ready t.meaning t.job_value t.runs _ _ refl c.requires.own c.requires.number c.args.pass.entries.0 lock table refl refl refl (search rules) c.requires.joined
    c.requires.seen c.requires.bench (search rules) (search rules) tt of reads

pub returns-clause-stays : goal.returns-clause-stays
returns-clause-stays g c = new_stays c.args.id _ (seen c.args.pass) (own c.args.pass) c.requires.own c.requires.number c.args.pass.entries.0
