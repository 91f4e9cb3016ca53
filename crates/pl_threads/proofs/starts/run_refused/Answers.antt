use Rattle.std.proofs.Common.{◌≡◌, length, List, ◌++◌, map, arith, ap, sym, subst, ◌∙◌, All}
use Rattle.std.proofs.lemmas.Grind.{common_steps}
use Rattle.std.proofs.lemmas.List.Elements.{All-head}
use Rattle.std.specs.Vec.Iter.{into_iter_items}
use Rattle.pl_threads.specs.declared.starts.Outcome.{Outcome}
use Rattle.pl_threads.specs.declared.starts.Outcome.TheVariants.{Coming, There}
use Rattle.pl_threads.specs.declared.starts.Start.{Start}
use Rattle.pl_threads.specs.Starts.{CanRun, IsKept, outcome_promise, start_promise}
use Rattle.pl_threads.proofs.Rows.{room_for_one, room_left, room_at_first, one_turned, all_turned, none_holds}
use Rattle.pl_threads.proofs.starts.run_refused.Given.{Over}
use Rattle.pl_threads.proofs.starts.run_refused.Goals as goal

-- what was refused may be run
abbrev May : (g : Over) → Start g.row.E.Denot g.row.P.Denot g.row.F.Denot → Type 0
May g s = CanRun (λ f. g.F.FnOnce.pre f tt) (λ f e. g.F.FnOnce.post f tt e) g.P.Promise.kept_by s

pub loop-start-init : goal.loop-start-init
loop-start-init g c = let gives = c.into_iter-start-iterator.ensures.into_iter_gives.0 in (
  subst (All (May g)) (sym gives) c.requires.can,
  ap (λ (l : List (Outcome g.row.E.Denot g.row.P.Denot)). map outcome_promise l ++ map start_promise (into_iter_items c.into_iter-start-iterator.result)) c.requires.empty,
  none_holds (IsKept g.P.Promise.kept_by) c.args.outcomes.items c.requires.empty,
  room_at_first _ c.args.starts.items c.args.outcomes.items _ _ gives c.args.outcomes.ok.0 c.requires.empty c.requires.room,
)

pub push_reserved-requires : goal.push_reserved-requires
push_reserved-requires g c = room_for_one _ _ c.in-Some.start _ _ c.in-Some.ensures.steps.0 c.loop-start.invariant.3

pub loop-start-preserved-in-Runs : goal.loop-start-preserved-in-Runs
loop-start-preserved-in-Runs g c = let was = c.loop-start.invariant in let pushed = c.push_reserved.ensures in
    let more = one_turned start_promise outcome_promise (May g) (IsKept g.P.Promise.kept_by) _ _ c.in-Some.start _ _ (Coming c.in-Runs.handle) _ was.0 was.1 was.2 c.in-Some.ensures.steps.0 pushed.items
    (λ _. (sym (ap start_promise c.in-Runs.is), tt)) in
    (more.0, more.1, more.2, room_left _ _ c.in-Some.start _ _ _ _ c.in-Some.ensures.steps.0 pushed.len pushed.capacity was.3)

pub run_here-ended-requires : goal.run_here-ended-requires
run_here-ended-requires g c =
    let can = All-head (May g) c.in-Some.start _ (subst (All (May g)) c.in-Some.ensures.steps.0 c.loop-start.invariant.0) in
    let may = subst (May g) c.in-Refused.is can in
    record { may_run = may.0 }

pub push_reserved-requires-in-Refused : goal.push_reserved-requires-in-Refused
push_reserved-requires-in-Refused g c = room_for_one _ _ c.in-Some.start _ _ c.in-Some.ensures.steps.0 c.loop-start.invariant.3

pub loop-start-preserved : goal.loop-start-preserved
loop-start-preserved g c = let was = c.loop-start.invariant in let pushed = c.push_reserved-in-Refused.ensures in
    let more = one_turned start_promise outcome_promise (May g) (IsKept g.P.Promise.kept_by) _ _ c.in-Some.start _ _ (There c.run_here-ended.result c.in-Refused.promise) _ was.0 was.1 was.2 c.in-Some.ensures.steps.0 pushed.items
    (λ can. let may = subst (May g) c.in-Refused.is can in (sym (ap start_promise c.in-Refused.is), may.1 c.run_here-ended.result c.run_here-ended.ensures.has_run)) in
    (more.0, more.1, more.2, room_left _ _ c.in-Some.start _ _ _ _ c.in-Some.ensures.steps.0 pushed.len pushed.capacity was.3)

pub returns-clause-promises : goal.returns-clause-promises
returns-clause-promises g c =
    let none : length (into_iter_items c.loop-start.start-iterator) ≡ 0 = grind (arith, common_steps) in
    all_turned start_promise outcome_promise _ _ _ c.loop-start.invariant.1 none ∙ ap (map start_promise) c.into_iter-start-iterator.ensures.into_iter_gives.0

pub returns-clause-kept : goal.returns-clause-kept
returns-clause-kept g c = c.loop-start.invariant.2
