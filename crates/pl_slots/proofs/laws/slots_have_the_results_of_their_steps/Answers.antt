use Rattle.std.proofs.Common.{arith}
use Rattle.pl_slots.proofs.Results.{object_step, print_step}
use Rattle.pl_slots.proofs.laws.slots_have_the_results_of_their_steps.Goals as goal

pub returns-clause-object : goal.returns-clause-object
returns-clause-object c = object_step

pub returns-clause-print : goal.returns-clause-print
returns-clause-print c = print_step

pub returns-clause-export : goal.returns-clause-export
returns-clause-export c = λ plate few. print_step plate 9 few (omega arith)
