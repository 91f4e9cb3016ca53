use Rattle.std.proofs.Common.{rules, refl}
use Rattle.pl_runner.proofs.Readying.{new_ready}
use Rattle.pl_runner.proofs.runner.Runner.worker.Goals as goal

pub returns-clause-ready : goal.returns-clause-ready
returns-clause-ready g c =
    let t = g.T.Technology in
    λ lock table of reads. new_ready t.meaning t.job_value t.runs _ _ refl c.requires.own c.requires.number c.args.pass.entries.0 lock table refl refl refl (search rules) c.requires.joined
    c.requires.seen c.requires.bench (search rules) (search rules) (search rules) of reads
