use Rattle.std.proofs.Common.{rules, ◌≡◌, length, ◌++◌, map, arith, ap, sym, subst, ◌∙◌, All}
use Rattle.std.proofs.lemmas.Grind.{common_steps}
use Rattle.std.proofs.lemmas.List.Elements.{All-head}
use Rattle.std.specs.List.{AllZip}
use Rattle.std.specs.Vec.Iter.{into_iter_items}
use Rattle.pl_threads.specs.declared.starts.Start.TheVariants.{Runs, Refused}
use Rattle.pl_threads.specs.declared.threads.Began.{Began}
use Rattle.pl_threads.specs.Starts.{outcome_promise, start_promise}
use Rattle.pl_threads.proofs.Starting.{value_of, May, can_widen}
use Rattle.pl_threads.proofs.Rows.{room_for_one, room_left, room_at_first, room_for_all, none_holds, one_more, none_left, zip_through, all_widen, same_length, same_length_by}
use Rattle.pl_threads.proofs.threads.fn.work_all.scope.Goals as goal

pub loop-value-init : goal.loop-value-init
loop-value-init g c = let gives = c.into_iter-value-iterator.ensures.into_iter_gives.0 in let empty = c.in_ok-starts.ensures.items in (
  subst (All (λ w. g.W.Work.may w)) (sym gives) c.requires.may,
  ap (λ l. map value_of l ++ into_iter_items c.into_iter-value-iterator.result) empty,
  none_holds (May (λ t. g.W.Work.may t.1) (λ t. t.1) g.W.Work.done) c.in_ok-starts.starts.items empty,
  room_at_first _ c.captures.values.items c.in_ok-starts.starts.items _ _ gives c.in_ok-starts.starts.ok.0 empty
      (room_for_all c.captures.values.items c.len.result _ _ c.in_ok-starts.ensures.capacity c.len.ensures c.captures.values.ok.0),
)

pub spawn_with-requires-clause-runs : goal.spawn_with-requires-clause-runs
spawn_with-requires-clause-runs g c κs within =
    let may = All-head (λ w. g.W.Work.may w) c.in-Some.value _ (subst (All (λ w. g.W.Work.may w)) c.in-Some.ensures.steps.0 c.loop-value.invariant.0) in (search rules, (search rules, (search rules, (may, search rules))))

pub push_reserved-requires : goal.push_reserved-requires
push_reserved-requires g c = room_for_one _ _ c.in-Some.value _ _ c.in-Some.ensures.steps.0 c.loop-value.invariant.3

pub loop-value-preserved-in-Ok : goal.loop-value-preserved-in-Ok
loop-value-preserved-in-Ok g c = let was = c.loop-value.invariant in let pushed = c.push_reserved.ensures in
    let more = one_more value_of (λ w. g.W.Work.may w) (May (λ t. g.W.Work.may t.1) (λ t. t.1) g.W.Work.done) _ _ (Runs c.in-Ok.handle) _ _ _ c.in-Some.value was.0 was.1 was.2 c.in-Some.ensures.steps.0 pushed.items
    (ap (λ p. p.before.value) c.in-Ok.ensures.ok ∙ c.of.ensures) (λ _. tt) in
    (more.0, more.1, more.2, room_left _ _ c.in-Some.value _ _ _ _ c.in-Some.ensures.steps.0 pushed.len pushed.capacity was.3)

pub push_reserved-requires-in-Err : goal.push_reserved-requires-in-Err
push_reserved-requires-in-Err g c = room_for_one _ _ c.in-Some.value _ _ c.in-Some.ensures.steps.0 c.loop-value.invariant.3

pub loop-value-preserved : goal.loop-value-preserved
loop-value-preserved g c = let was = c.loop-value.invariant in let pushed = c.push_reserved-in-Err.ensures in let e = c.in-Err.ensures.err in
    let same = ap (λ p. p.before.value) c.of-promise.ensures ∙ c.of.ensures in
    let more = one_more value_of (λ w. g.W.Work.may w) (May (λ t. g.W.Work.may t.1) (λ t. t.1) g.W.Work.done) _ _ (Refused c.in-Err.refused.value c.of-promise.result) _ _ _ c.in-Some.value was.0 was.1 was.2 c.in-Some.ensures.steps.0 pushed.items
    same (λ may. (subst (λ t. g.W.Work.may t.1) (sym e) may, λ d post. subst (λ (w : g.row.W.Denot). g.W.Work.done w d) (ap (λ t. t.1) e ∙ sym same) post)) in
    (more.0, more.1, more.2, room_left _ _ c.in-Some.value _ _ _ _ c.in-Some.ensures.steps.0 pushed.len pushed.capacity was.3)

pub run_refused-outcomes-requires : goal.run_refused-outcomes-requires
run_refused-outcomes-requires g c = let was = c.loop-value.invariant in
    let none : length (into_iter_items c.loop-value.value-iterator) ≡ 0 = grind (arith, common_steps) in
    let values = none_left value_of _ _ _ was.1 none ∙ c.into_iter-value-iterator.ensures.into_iter_gives.0 in
    record {
      can = all_widen _ _ c.loop-value.starts.items (can_widen _ _ _ _ _ (λ t may. (search rules, (search rules, (search rules, (may, search rules))))) (λ f e came. came)) was.2;
      empty = c.in_ok-outcomes.ensures.items;
      room = room_for_all c.loop-value.starts.items c.len-2.result _ _ c.in_ok-outcomes.ensures.capacity c.len-2.ensures (c.captures.values.ok.0 ∙ sym (same_length value_of c.loop-value.starts.items c.captures.values.items values));
    }

pub join_all-requires : goal.join_all-requires
join_all-requires g c = let was = c.loop-value.invariant in
    let none : length (into_iter_items c.loop-value.value-iterator) ≡ 0 = grind (arith, common_steps) in
    let values = none_left value_of _ _ _ was.1 none ∙ c.into_iter-value-iterator.ensures.into_iter_gives.0 in
    record {
      kept = c.run_refused-outcomes.ensures.kept;
      empty = c.in_ok-all.ensures.items;
      room = room_for_all c.run_refused-outcomes.result.items c.len-3.result _ _ c.in_ok-all.ensures.capacity c.len-3.ensures
          (c.captures.values.ok.0 ∙ sym (same_length_by outcome_promise start_promise c.run_refused-outcomes.result.items c.loop-value.starts.items c.run_refused-outcomes.ensures.promises ∙ same_length value_of c.loop-value.starts.items c.captures.values.items values));
    }

pub returns : goal.returns
returns g c = let was = c.loop-value.invariant in
    let none : length (into_iter_items c.loop-value.value-iterator) ≡ 0 = grind (arith, common_steps) in
    let values = none_left value_of _ _ _ was.1 none ∙ c.into_iter-value-iterator.ensures.into_iter_gives.0 in
    let kept = subst (λ ps. AllZip (λ (p : Began g.row.W.Denot g.row.W-Done.Denot) d. g.W.Work.done p.before.value d) ps c.join_all.result.items) c.run_refused-outcomes.ensures.promises c.join_all.ensures.kept in
    record { done = subst (λ ws. AllZip g.W.Work.done ws c.join_all.result.items) values (zip_through start_promise (λ p. p.before.value) g.W.Work.done c.loop-value.starts.items c.join_all.result.items kept) }
