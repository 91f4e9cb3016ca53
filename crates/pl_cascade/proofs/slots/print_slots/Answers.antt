use Rattle.std.proofs.Common.{arith, ap, sym, ◌∙◌}
use Rattle.std.specs.Prelude.{◌==◌, ◌||◌}
use Rattle.pl_keys.specs.Steps as steps
use Rattle.pl_tech.specs.Slots.{has}
use Rattle.pl_cascade.proofs.Sets.{print-more, print-still, print-all, print-below}
use Rattle.pl_cascade.proofs.slots.print_slots.Goals as goal
use Rattle.pl_cascade.proofs.slots.print_slots.Goals.{then-has, else-has}

pub loop-step-preserved : goal.loop-step-preserved
loop-step-preserved c = (
  λ k. elim c.if-has.branch [
    | then-has w ↦
        print-more (steps.has c.args.chosen) c.loop-step.step k (has c.loop-step.slots k) (has c.if-has.slots k) (omega arith) (sym c.has.ensures.value ∙ w.if-has.true) (c.loop-step.invariant.0 k)
        (ap (λ s. has s k) w.slots-is ∙ w.with-slots.ensures k ∙ ap (λ n. (k == n) || has c.loop-step.slots k) w.of.ensures)
    | else-has w ↦
        ap (λ s. has s k) w.slots-is ∙ print-still (steps.has c.args.chosen) c.loop-step.step k (has c.loop-step.slots k) (sym c.has.ensures.value ∙ w.if-has.false) (c.loop-step.invariant.0 k)
  ],
  λ _. c.has.ensures.kinds,
)

pub returns-clause-slots : goal.returns-clause-slots
returns-clause-slots c k = print-all (steps.has c.args.chosen) c.loop-step.step k (has c.loop-step.slots k) (λ n far. c.loop-step.invariant.1 (omega arith) n (omega arith)) (c.loop-step.invariant.0 k)

pub returns-clause-below : goal.returns-clause-below
returns-clause-below c k far = print-below (steps.has c.args.chosen) c.loop-step.step k (has c.loop-step.slots k) (omega arith) far (c.loop-step.invariant.0 k)
