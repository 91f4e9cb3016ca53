use Rattle.std.proofs.Common.{arith, ap, ◌∙◌}
use Rattle.pl_keys.specs.Steps as steps
use Rattle.pl_cascade.specs.Cascade.{takes}
use Rattle.pl_cascade.proofs.Sets.{taken_told}
use Rattle.pl_cascade.proofs.closing.taken_by.Goals as goal

pub returns : goal.returns
returns c k =
    taken_told c.number-number.result k _ _ _ (steps.has c.takes_here.result) (steps.has c.takes_in_print-2.result) (omega arith) (c.union.ensures k) (c.object_slots.ensures k) (c.print_slots-2.ensures.slots k) c.takes_here.ensures c.takes_in_print-2.ensures
    ∙ ap (λ s. takes s k) c.number-number.ensures.value
