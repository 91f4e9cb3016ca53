use Rattle.pl_script.proofs.Told.{command_read, fault_read, its_command, its_fault}
use Rattle.pl_script.proofs.laws.command_lines_have_one_reading.Goals as goal

pub returns-clause-lines : goal.returns-clause-lines
returns-clause-lines c = λ blocks before number text session order. (its_command blocks before number text session order, λ h. command_read blocks before number text session order h.0 h.1)

pub returns-clause-faults : goal.returns-clause-faults
returns-clause-faults c = λ blocks before number text fault. (its_fault blocks before number text fault, fault_read blocks before number text fault)
