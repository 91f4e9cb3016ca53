use Rattle.std.proofs.Common.{◌≡◌, length, arith, sym, ◌∙◌, Ok}
use Rattle.std.proofs.lemmas.Grind.{common_steps}
use Rattle.std.specs.Vec.Iter.{into_iter_items}
use Rattle.pl_runs.proofs.Lists.{room_for_one, room_left, taken_all, taken_more}
use Rattle.pl_runs.proofs.collecting.accounts_of.Goals as goal

pub push_reserved-requires : goal.push_reserved-requires
push_reserved-requires g c = room_for_one _ _ c.in-Some.result _ _ c.in-Some.ensures.steps.0 c.loop-result.invariant.room

pub loop-result-preserved : goal.loop-result-preserved
loop-result-preserved g c = let was = c.loop-result.invariant in let pushed = c.push_reserved.ensures in record {
  done = taken_more (λ a. Ok a) _ _ _ _ c.in_ok-account.account c.in-Some.result _ was.done c.in-Some.ensures.steps.0 pushed.items (sym c.in_ok-account.was);
  room = room_left _ _ c.in-Some.result _ _ _ _ c.in-Some.ensures.steps.0 pushed.len pushed.capacity was.room;
}

pub returns : goal.returns
returns g c =
    let spent : length (into_iter_items c.loop-result.result-iterator) ≡ 0 = grind (arith, common_steps) in
    sym c.into_iter-result-iterator.ensures.into_iter_gives.0 ∙ taken_all (λ a. Ok a) _ _ _ c.loop-result.invariant.done spent
