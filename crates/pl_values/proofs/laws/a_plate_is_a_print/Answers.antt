use Rattle.pl_values.proofs.Prints.{IsPrint-print_of}
use Rattle.pl_values.proofs.laws.a_plate_is_a_print.Goals as goal

pub returns : goal.returns
returns c = IsPrint-print_of
