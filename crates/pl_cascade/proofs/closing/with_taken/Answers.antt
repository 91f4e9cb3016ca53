use Rattle.std.proofs.Common.{arith, ◌∙◌, ap, sym}
use Rattle.std.specs.Prelude.{◌||◌}
use Rattle.pl_tech.specs.Slots.{has}
use Rattle.pl_cascade.specs.Cascade.{takes}
use Rattle.pl_cascade.proofs.Closures.{taken-none, taken-more, taken-still, taken-all}
use Rattle.pl_cascade.proofs.closing.with_taken.Goals as goal
use Rattle.pl_cascade.proofs.closing.with_taken.Goals.{then-has, else-has}

pub loop-number-init : goal.loop-number-init
loop-number-init c = taken-none (has c.args.set)

pub loop-number-preserved : goal.loop-number-preserved
loop-number-preserved c k = elim c.if-has.branch [
  | then-has w ↦
      taken-more (has c.args.set) c.loop-number.number k (has c.loop-number.all k) (has c.if-has.all k) (c.loop-number.invariant k)
      (ap (λ s. has s k) w.all-is ∙ w.union-all.ensures k ∙ ap (λ b. has c.loop-number.all k || b) (w.taken_by.ensures k ∙ ap (λ s. takes s k) c.of-slot.ensures))
      (ap (has c.args.set) (sym c.of-slot.ensures) ∙ sym c.has.ensures ∙ w.if-has.true)
  | else-has w ↦
      ap (λ s. has s k) w.all-is
      ∙ taken-still (has c.args.set) c.loop-number.number k (has c.loop-number.all k) (c.loop-number.invariant k) (ap (has c.args.set) (sym c.of-slot.ensures) ∙ sym c.has.ensures ∙ w.if-has.false)
]

pub returns : goal.returns
returns c k = taken-all (has c.args.set) c.loop-number.number k _ (omega arith) (c.loop-number.invariant k)
