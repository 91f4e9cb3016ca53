use Rattle.pl_cascade.proofs.Closures.{is_closure}
use Rattle.pl_cascade.proofs.laws.two_rounds_are_the_closure.Goals as goal

pub returns : goal.returns
returns c = is_closure
