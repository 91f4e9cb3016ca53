use Rattle.std.proofs.Common.{◌≡◌, ◌∙◌, ap, ◌+◌, ◌-◌, ◌≤◌, ◌<◌, arith}
use Rattle.pl_adhesion.specs.Skirt.{rectangle_round}
use Rattle.pl_adhesion.proofs.Descending.{made_more, made_all}
use Rattle.pl_adhesion.proofs.SkirtLemmas.{near_more, skirt_some, skirt_empty}
use Rattle.pl_adhesion.proofs.rectangles.skirt.Goals as goal

pub loop-index-preserved : goal.loop-index-preserved
loop-index-preserved c =
    let less : c.loop-index.index < c.args.count = omega arith in
    let small : c.args.distance + c.from.result ≤ 300 = omega arith in
    let by : c.args.distance + c.from.result ≡ c.args.distance + 1 + (c.args.count - 1 - c.loop-index.index) = omega arith in
    (made_more _ _ _ _ _ _ c.loop-index.invariant.0 less (c.in_ok-rectangle.ensures ∙ ap (λ n. rectangle_round n c.in-Some.reach) by) c.in_ok-push.ensures.items, near_more _ _ _ _ _ c.loop-index.invariant.1 small c.in-Some.ensures.near c.in_ok-rectangle.ensures c.in_ok-push.ensures.items)

pub returns-clause-value : goal.returns-clause-value
returns-clause-value c =
    let all : c.args.count ≤ c.loop-index.index = omega arith in
    made_all _ _ _ _ c.loop-index.invariant.0 all ∙ skirt_some c.args.bed.now c.args.distance c.args.count _ c.in-Some.ensures.value

pub returns-clause-none : goal.returns-clause-none
returns-clause-none c =
    let all : c.args.count ≤ c.loop-index.index = omega arith in
    skirt_empty c.args.bed.now c.args.distance _ c.in-Some.reach _ (made_all _ _ _ _ c.loop-index.invariant.0 all) c.in-Some.ensures.none
