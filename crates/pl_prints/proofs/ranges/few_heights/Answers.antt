use Rattle.std.proofs.Common.{◌≤◌, length, subst, arith}
use Rattle.pl_options.specs.KeyMap.{KeyMap}
use Rattle.pl_values.specs.PrintValues.{tops_for}
use Rattle.pl_prints.specs.Heights.{of_object}
use Rattle.pl_prints.proofs.FewLemmas.{few_more, few_all}
use Rattle.pl_prints.proofs.ranges.few_heights.Goals as goal

pub loop-place-preserved : goal.loop-place-preserved
loop-place-preserved c =
    few_more (tops_for c.args.plate.now.config) c.places-place-items.result.now c.args.plate.now.places c.loop-place.place-index c.place-item.result c.place-item.result
    c.places-place-items.ensures.places c.loop-place-test.true c.place-item.is
    (subst (λ (config : KeyMap). length (of_object (tops_for config) c.place-item.result) ≤ 100000) c.config.ensures c.few_at_place.ensures) c.loop-place.invariant

pub returns : goal.returns
returns c =
    few_all c.args.plate.now c.places-place-items.result.now c.loop-place.place-index c.places-place-items.ensures.places c.loop-place-test.false (omega (arith, c.loop-place.auto.place-index-end, c.places-place-items.ensures.kept.sixteen)) c.loop-place.invariant
