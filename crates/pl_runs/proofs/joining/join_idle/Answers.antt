use Rattle.std.proofs.Common.{◌≡◌, ◌++◌, [], map, length, arith, refl, sym, subst, ◌∙◌}
use Rattle.std.proofs.lemmas.Grind.{common_steps}
use Rattle.std.proofs.lemmas.List.{append-nil}
use Rattle.std.specs.Prelude.{All}
use Rattle.std.specs.Vec.Iter.{into_iter_items}
use Rattle.pl_turn.specs.Passes.{joined, seen}
use Rattle.pl_runs.specs.Places.{IsOther, place_in, place_of}
use Rattle.pl_runs.proofs.Joins.{joined_more, joined_all}
use Rattle.pl_runs.proofs.Lists.{all_next, prefix_trans}
use Rattle.pl_runs.proofs.joining.join_idle.Goals as goal

pub loop-pass-init : goal.loop-pass-init
loop-pass-init g c = record {
  left = subst (All (λ p. IsOther c.args.lock.now p)) (sym c.into_iter-pass-iterator.ensures.into_iter_gives.0) c.requires.rest;
  places = refl;
  lock = (refl, refl);
  number = refl;
  own = refl;
  splits = refl;
  keeps = ([], append-nil (seen c.args.first));
}

pub join-requires : goal.join-requires
join-requires g c = let old = c.loop-pass.invariant in
    let now = all_next (λ p. IsOther c.args.lock.now p) _ _ c.in-Some.pass c.in-Some.ensures.steps.0 old.left in record {
      lock = (old.lock.0 ∙ c.requires.lock.0, old.lock.1 ∙ c.requires.lock.1);
      other_lock = now.0.0;
      not_first = λ e. let high = now.0.1 in absurd (omega (arith, e, high));
    }

pub loop-pass-preserved : goal.loop-pass-preserved
loop-pass-preserved g c = let old = c.loop-pass.invariant in let now = c.join.ensures in
    let next = all_next (λ p. IsOther c.args.lock.now p) _ _ c.in-Some.pass c.in-Some.ensures.steps.0 old.left in record {
      left = next.1;
      places = joined_more place_of _ _ _ _ _ _ c.in-Some.pass _ old.places c.in-Some.ensures.steps.0 now.joined next.0.2 refl;
      lock = (now.lock.0 ∙ old.lock.0, now.lock.1 ∙ old.lock.1);
      number = now.number ∙ old.number;
      own = now.own ∙ old.own;
      splits = now.splits ∙ old.splits;
      keeps = prefix_trans _ _ _ old.keeps now.keeps;
    }

pub returns-clause-joined : goal.returns-clause-joined
returns-clause-joined g c =
    let spent : length (into_iter_items c.loop-pass.pass-iterator) ≡ 0 = grind (arith, common_steps) in
    subst (λ l. map place_in (joined c.loop-pass.first) ≡ map place_in (joined c.args.first) ++ map place_of l) c.into_iter-pass-iterator.ensures.into_iter_gives.0
    (joined_all place_of (joined c.loop-pass.first) (into_iter_items c.loop-pass.pass-iterator) _ c.loop-pass.invariant.places spent)
