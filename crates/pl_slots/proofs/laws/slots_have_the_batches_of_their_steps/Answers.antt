use Rattle.pl_slots.proofs.Results.{object_batches, step_batches}
use Rattle.pl_slots.proofs.laws.slots_have_the_batches_of_their_steps.Goals as goal

pub returns-clause-object : goal.returns-clause-object
returns-clause-object c = object_batches

pub returns-clause-print : goal.returns-clause-print
returns-clause-print c = step_batches
