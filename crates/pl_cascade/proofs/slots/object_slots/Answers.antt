use Rattle.std.proofs.Common.{arith, ap, sym, ◌∙◌}
use Rattle.std.specs.Prelude.{◌==◌, ◌||◌}
use Rattle.pl_keys.specs.Steps as steps
use Rattle.pl_tech.specs.Slots.{has}
use Rattle.pl_cascade.proofs.Sets.{object-more, object-still}
use Rattle.pl_cascade.proofs.slots.object_slots.Goals as goal
use Rattle.pl_cascade.proofs.slots.object_slots.Goals.{then-has, else-has}

pub loop-step-preserved : goal.loop-step-preserved
loop-step-preserved c k = elim c.if-has.branch [
  | then-has w ↦
      object-more (steps.has c.args.chosen) c.args.place c.loop-step.step k (has c.loop-step.slots k) (has c.if-has.slots k) (omega arith) (omega arith) (sym c.has.ensures.value ∙ w.if-has.true) (c.loop-step.invariant k)
      (ap (λ s. has s k) w.slots-is ∙ w.with-slots.ensures k ∙ ap (λ n. (k == n) || has c.loop-step.slots k) w.of.ensures)
  | else-has w ↦
      ap (λ s. has s k) w.slots-is ∙ object-still (steps.has c.args.chosen) c.args.place c.loop-step.step k (has c.loop-step.slots k) (sym c.has.ensures.value ∙ w.if-has.false) (c.loop-step.invariant k)
]
