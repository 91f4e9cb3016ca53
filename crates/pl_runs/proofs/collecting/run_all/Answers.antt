use Rattle.std.proofs.Common.{subst, arith, Ok}
use Rattle.std.specs.List.{AllZip}
use Rattle.std.proofs.lemmas.Slice.Zip.{AllZip-long}
use Rattle.pl_runs.proofs.Lists.{zip_from_map}
use Rattle.pl_runs.proofs.collecting.run_all.Goals as goal

pub accounts_of-requires : goal.accounts_of-requires
accounts_of-requires g c =
    let long = AllZip-long _ c.args.crews.items c.in_ok-results.results.items c.in_ok-results.ensures.done in
    let room = c.in_ok-room.ensures.capacity in
    let len = c.len.ensures in
    let ok = c.args.crews.ok.0 in record {
      empty = c.in_ok-room.ensures.items;
      room = omega (arith, long, room, len, ok);
    }

pub returns : goal.returns
returns g c = zip_from_map _ (λ a. Ok a) c.args.crews.items c.in_ok-accounts.accounts.items (subst (AllZip _ c.args.crews.items) c.in_ok-accounts.ensures c.in_ok-results.ensures.done)
