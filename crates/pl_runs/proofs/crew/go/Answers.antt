use Rattle.std.proofs.Common.{rules}
use Rattle.pl_epochs.specs.Words.{table_of}
use Rattle.pl_runs.proofs.Coming.{come_back}
use Rattle.pl_runs.proofs.crew.go.Goals as goal

pub returns : goal.returns
returns g c = let t = g.T.Technology in let r = c.run_one-runner in let p = c.into_parts-pass in
    come_back t.meaning t.job_value t.runs c.args.lock.now (table_of c.args.epochs.now) c.args.runner r.result.0 r.result.1 c.args.actor p.result.0 p.result.1 c.requires.actor r.ensures (search rules) p.ensures.pass (p.ensures.lock c.args.lock.now (table_of c.args.epochs.now)) p.ensures.runs p.result.0.entries.0
