use Rattle.std.proofs.Common.{◌≡◌, ◌++◌, [], map, length, arith, refl, sym, subst, ◌∙◌}
use Rattle.std.proofs.lemmas.Grind.{common_steps}
use Rattle.std.proofs.lemmas.List.{append-nil}
use Rattle.std.specs.Prelude.{All}
use Rattle.std.specs.Vec.Iter.{into_iter_items}
use Rattle.pl_turn.specs.Passes.{joined, seen}
use Rattle.pl_runs.specs.Places.{IsOther, place_in, place_of}
use Rattle.pl_runs.proofs.Joins.{joined_more, joined_all}
use Rattle.pl_runs.proofs.Lists.{all_next, prefix_trans}
use Rattle.pl_runs.proofs.joining.join_accounts.Goals as goal

pub loop-account-init : goal.loop-account-init
loop-account-init g c = record {
  left = subst (All (λ a. IsOther c.args.lock.now a.pass)) (sym c.into_iter-account-iterator.ensures.into_iter_gives.0) c.requires.accounts;
  places = refl;
  lock = (refl, refl);
  number = refl;
  own = refl;
  splits = refl;
  keeps = ([], append-nil (seen c.args.first));
}

pub join-requires : goal.join-requires
join-requires g c = let old = c.loop-account.invariant in
    let now = all_next (λ a. IsOther c.args.lock.now a.pass) _ _ c.in-Some.account c.in-Some.ensures.steps.0 old.left in record {
      lock = (old.lock.0 ∙ c.requires.lock.0, old.lock.1 ∙ c.requires.lock.1);
      other_lock = now.0.0;
      not_first = λ e. let high = now.0.1 in absurd (omega (arith, e, high));
    }

pub loop-account-preserved : goal.loop-account-preserved
loop-account-preserved g c = let old = c.loop-account.invariant in let now = c.join.ensures in
    let next = all_next (λ a. IsOther c.args.lock.now a.pass) _ _ c.in-Some.account c.in-Some.ensures.steps.0 old.left in record {
      left = next.1;
      places = joined_more (λ a. place_of a.pass) _ _ _ _ _ _ c.in-Some.account _ old.places c.in-Some.ensures.steps.0 now.joined next.0.2 refl;
      lock = (now.lock.0 ∙ old.lock.0, now.lock.1 ∙ old.lock.1);
      number = now.number ∙ old.number;
      own = now.own ∙ old.own;
      splits = now.splits ∙ old.splits;
      keeps = prefix_trans _ _ _ old.keeps now.keeps;
    }

pub returns-clause-joined : goal.returns-clause-joined
returns-clause-joined g c =
    let spent : length (into_iter_items c.loop-account.account-iterator) ≡ 0 = grind (arith, common_steps) in
    subst (λ l. map place_in (joined c.loop-account.first) ≡ map place_in (joined c.args.first) ++ map (λ a. place_of a.pass) l) c.into_iter-account-iterator.ensures.into_iter_gives.0
    (joined_all (λ a. place_of a.pass) (joined c.loop-account.first) (into_iter_items c.loop-account.account-iterator) _ c.loop-account.invariant.places spent)
