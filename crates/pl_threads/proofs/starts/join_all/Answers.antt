use Rattle.std.proofs.Common.{◌≡◌, length, [], map, arith, refl, sym, subst, All}
use Rattle.std.proofs.lemmas.Grind.{common_steps}
use Rattle.std.specs.List.{AllZip}
use Rattle.std.specs.Vec.Iter.{into_iter_items}
use Rattle.pl_threads.specs.declared.starts.Outcome.{Outcome}
use Rattle.pl_threads.specs.Starts.{IsKept, outcome_promise}
use Rattle.pl_threads.proofs.Rows.{room_for_one, room_left, room_at_first, one_done, all_done}
use Rattle.pl_threads.proofs.starts.join_all.Goals as goal

pub loop-outcome-init : goal.loop-outcome-init
loop-outcome-init g c = let gives = c.into_iter-outcome-iterator.ensures.into_iter_gives.0 in (
  subst (All (IsKept g.P.Promise.kept_by)) (sym gives) c.requires.kept,
  ([], refl, subst (AllZip g.P.Promise.kept_by []) (sym c.requires.empty) tt),
  room_at_first _ c.args.outcomes.items c.args.all.items _ _ gives c.args.all.ok.0 c.requires.empty c.requires.room,
)

pub push_reserved-requires : goal.push_reserved-requires
push_reserved-requires g c = room_for_one _ _ c.in-Some.outcome _ _ c.in-Some.ensures.steps.0 c.loop-outcome.invariant.2

pub loop-outcome-preserved-in-Coming : goal.loop-outcome-preserved-in-Coming
loop-outcome-preserved-in-Coming g c = let was = c.loop-outcome.invariant in let pushed = c.push_reserved.ensures in
    let more = one_done outcome_promise g.P.Promise.kept_by (IsKept g.P.Promise.kept_by) _ _ c.in-Some.outcome _ _ _ c.join.result was.0 c.in-Some.ensures.steps.0 pushed.items
    (λ _. subst (λ (z : Outcome g.row.E.Denot g.row.P.Denot). g.P.Promise.kept_by (outcome_promise z) c.join.result) (sym c.in-Coming.is) c.join.ensures) was.1 in
    (more.0, more.1, room_left _ _ c.in-Some.outcome _ _ _ _ c.in-Some.ensures.steps.0 pushed.len pushed.capacity was.2)

pub push_reserved-requires-in-There : goal.push_reserved-requires-in-There
push_reserved-requires-in-There g c = room_for_one _ _ c.in-Some.outcome _ _ c.in-Some.ensures.steps.0 c.loop-outcome.invariant.2

pub loop-outcome-preserved : goal.loop-outcome-preserved
loop-outcome-preserved g c = let was = c.loop-outcome.invariant in let pushed = c.push_reserved-in-There.ensures in
    let more = one_done outcome_promise g.P.Promise.kept_by (IsKept g.P.Promise.kept_by) _ _ c.in-Some.outcome _ _ _ c.in-There.ended was.0 c.in-Some.ensures.steps.0 pushed.items
    (λ q. let k = subst (IsKept g.P.Promise.kept_by) c.in-There.is q in subst (λ (z : Outcome g.row.E.Denot g.row.P.Denot). g.P.Promise.kept_by (outcome_promise z) c.in-There.ended) (sym c.in-There.is) k) was.1 in
    (more.0, more.1, room_left _ _ c.in-Some.outcome _ _ _ _ c.in-Some.ensures.steps.0 pushed.len pushed.capacity was.2)

pub returns : goal.returns
returns g c = let last = c.loop-outcome.invariant in
    let spent : length (into_iter_items c.loop-outcome.outcome-iterator) ≡ 0 = grind (arith, common_steps) in
    let all = all_done outcome_promise g.P.Promise.kept_by _ _ _ spent last.1 in
    record { kept = subst (λ l. AllZip g.P.Promise.kept_by (map outcome_promise l) c.loop-outcome.all.items) c.into_iter-outcome-iterator.ensures.into_iter_gives.0 all }
