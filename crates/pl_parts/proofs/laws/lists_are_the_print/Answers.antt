use Rattle.pl_parts.proofs.PlateLists.{print_is, IsPrintData-data_of}
use Rattle.pl_parts.proofs.laws.lists_are_the_print.Goals as goal

pub returns-clause-print : goal.returns-clause-print
returns-clause-print c = print_is

pub returns-clause-written : goal.returns-clause-written
returns-clause-written c = IsPrintData-data_of
