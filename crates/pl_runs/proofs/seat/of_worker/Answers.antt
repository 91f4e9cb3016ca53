use Rattle.std.proofs.Common.{refl, sym, subst, arith}
use Rattle.pl_epochs.specs.Words.{table_of}
use Rattle.pl_machine.specs.History.{IsLegal}
use Rattle.pl_runner.specs.Causes.{HasNoneAsWorker}
use Rattle.pl_runner.specs.Running.{commands_of}
use Rattle.pl_runs.proofs.seat.of_worker.Goals as goal

pub worker-runner-requires : goal.worker-runner-requires
worker-runner-requires g c = let t = g.T.Technology in let p = c.requires.pass in record {
  id = c.requires.id;
  number = p.number_is;
  own = p.own_are;
  joined = p.joined_are;
  seen = subst (IsLegal t.meaning) (sym p.seen_is) tt;
  bench = c.bench.ensures;
}

pub returns : goal.returns
returns g c = let r = c.worker-runner.ensures in
    let ready = r.ready c.args.desk.now.lock.now (table_of c.args.desk.now.epochs.now) c.requires.pass.lock_is c.requires.reader in record {
      lock = (refl, refl);
      actor = refl;
      runner = (r.actor, (ready, r.stays), subst (λ a. HasNoneAsWorker a (commands_of c.worker-runner.result)) r.actor ready.plain, λ one. absurd (omega (arith, one)));
    }
