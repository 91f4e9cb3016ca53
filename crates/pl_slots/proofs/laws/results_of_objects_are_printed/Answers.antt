use Rattle.pl_slots.proofs.Results.{loops_printed, infill_printed, ironing_printed, support_printed}
use Rattle.pl_slots.proofs.laws.results_of_objects_are_printed.Goals as goal

pub returns-clause-loops : goal.returns-clause-loops
returns-clause-loops c = loops_printed

pub returns-clause-infill : goal.returns-clause-infill
returns-clause-infill c = infill_printed

pub returns-clause-ironing : goal.returns-clause-ironing
returns-clause-ironing c = ironing_printed

pub returns-clause-support : goal.returns-clause-support
returns-clause-support c = support_printed
