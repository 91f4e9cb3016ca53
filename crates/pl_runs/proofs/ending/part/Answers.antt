use Rattle.std.proofs.Common.{ap, arith, length}
use Rattle.pl_runs.proofs.Parting.{parted_none, parted_some, some_account}
use Rattle.pl_runs.proofs.ending.part.Goals as goal

pub returns-in-Some : goal.returns-in-Some
returns-in-Some g c = let p = parted_some c.args.lock.now (λ a. a.actor) (λ a. a.pass) c.args.first c.in-Some.first c.args.accounts.items c.in-Some.is c.requires.first c.requires.accounts in record {
  lock = p.lock_is;
  number = p.number_is;
  joined = p.joined_are;
  splits = p.splits_are;
  others = p.others_are;
  places = p.places_are;
}

pub remove-pass-requires : goal.remove-pass-requires
remove-pass-requires g c = let some = some_account c.args.lock.now (λ a. a.actor) (λ a. a.pass) c.args.first c.args.accounts.items c.in-None.is c.requires.first in
    let long = ap length some.2 in let ok = c.args.accounts.ok.0 in omega (arith, long, ok)

pub returns-in-None : goal.returns-in-None
returns-in-None g c = let r = c.remove-pass in let p = parted_none c.args.lock.now (λ a. a.actor) (λ a. a.pass) c.args.first c.args.accounts.items r.result _ c.in-None.is c.requires.first c.requires.accounts r.ensures.value r.ensures.items in record {
  lock = p.lock_is;
  number = p.number_is;
  joined = p.joined_are;
  splits = p.splits_are;
  others = p.others_are;
  places = p.places_are;
}
