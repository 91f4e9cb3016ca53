use Rattle.pl_sliced.proofs.Meaning.{plate_read, fault_named, its_plate, its_fault}
use Rattle.pl_sliced.proofs.laws.slice_texts_mean_one_plate.Goals as goal

pub returns-clause-plates : goal.returns-clause-plates
returns-clause-plates c = λ bytes plate. (its_plate bytes plate, plate_read bytes plate)

pub returns-clause-faults : goal.returns-clause-faults
returns-clause-faults c = λ bytes line fault. (its_fault bytes line fault, fault_named bytes line fault)
