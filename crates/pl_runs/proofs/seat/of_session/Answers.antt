use Rattle.std.proofs.Common.{refl, sym, subst, ◌∙◌, arith}
use Rattle.std.specs.Arc.{arc_value}
use Rattle.std.proofs.lemmas.List.{length-map}
use Rattle.pl_epochs.specs.Words.{table_of}
use Rattle.pl_machine.specs.History.{IsLegal}
use Rattle.pl_runs.proofs.seat.of_session.Goals as goal

pub session-runner-requires : goal.session-runner-requires
session-runner-requires g c = let t = g.T.Technology in let p = c.requires.pass in
    let few = c.requires.callable.0 in
    let long = length-map c.args.commands.items arc_value in
    let ok = c.args.commands.ok.0 in record {
      id = c.requires.id;
      number = p.number_is;
      own = p.own_are;
      joined = p.joined_are;
      seen = subst (IsLegal t.meaning) (sym p.seen_is) tt;
      bench = c.bench.ensures;
      few = omega (arith, few, long, ok);
      named = c.requires.callable.1;
    }

pub returns : goal.returns
returns g c = let r = c.session-runner.ensures in record {
  lock = (refl, refl);
  actor = refl;
  runner = (r.actor, (r.ready c.args.desk.now.lock.now (table_of c.args.desk.now.epochs.now) c.requires.pass.lock_is c.requires.reader, r.stays), r.commands, λ one. r.splits ∙ c.requires.first one);
}
