use Rattle.std.proofs.Common.{arith, ◌∙◌}
use Rattle.std.specs.FinMap.{get}
use Rattle.pl_keys.specs.Steps as steps
use Rattle.pl_cascade.specs.Slots.{step_of}
use Rattle.pl_cascade.specs.Direct.{settings_touch}
use Rattle.pl_cascade.proofs.Differing.{direct-none, direct-more, direct-all}
use Rattle.pl_cascade.proofs.direct.direct.Goals as goal

pub loop-place-init : goal.loop-place-init
loop-place-init c k =
    direct-none c.args.old.now c.args.new.now k _ (steps.has c.settings_steps.result) (c.print_slots-slots.ensures.slots k) (c.print_slots-slots.ensures.below k)
    (c.settings_steps.ensures (step_of k) ∙ (λ i. settings_touch (get (c.config.ensures i)) (get (c.config-2.ensures i)) (step_of k)))

pub loop-place-preserved : goal.loop-place-preserved
loop-place-preserved c k = direct-more c.args.old.now c.args.new.now c.loop-place.place k _ _ _ (c.loop-place.invariant k) (c.touched_at.ensures.object k) (c.touched_at.ensures.print k) (c.union-slots.ensures k)

pub returns : goal.returns
returns c k = direct-all c.args.old.now c.args.new.now c.loop-place.place k _ (omega arith) (c.loop-place.invariant k)
