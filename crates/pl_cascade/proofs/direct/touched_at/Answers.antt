use Rattle.pl_keys.specs.Steps as steps
use Rattle.pl_cascade.proofs.Differing.{object_told, print_told}
use Rattle.pl_cascade.proofs.direct.touched_at.Goals as goal

pub returns-in-Some-Some-clause-object : goal.returns-in-Some-Some-clause-object
returns-in-Some-Some-clause-object c k object =
    object_told c.args.old.now c.args.new.now c.args.place k c.in-Some-Some.object.now c.in-Some-Some.changed.now _ _ _ (steps.has c.options_steps-options.result) (steps.has c.object_steps.result) (steps.has c.print_steps.result)
    c.in-Some-Some.ensures.object c.in-Some-Some.ensures'.object (c.union.ensures k) (c.object_slots-here.ensures k) (c.print_slots.ensures.slots k) (c.object_steps.ensures _) (c.options_steps-options.ensures _) object

pub returns-in-Some-Some-clause-print : goal.returns-in-Some-Some-clause-print
returns-in-Some-Some-clause-print c k print =
    print_told c.args.old.now c.args.new.now c.args.place k c.in-Some-Some.object.now c.in-Some-Some.changed.now _ _ _ (steps.has c.options_steps-options.result) (steps.has c.object_steps.result) (steps.has c.print_steps.result)
    c.in-Some-Some.ensures.object c.in-Some-Some.ensures'.object (c.union.ensures k) (c.object_slots-here.ensures k) (c.print_slots.ensures.slots k) (c.print_slots.ensures.below k) (c.print_steps.ensures _) (c.options_steps-options.ensures _) print
