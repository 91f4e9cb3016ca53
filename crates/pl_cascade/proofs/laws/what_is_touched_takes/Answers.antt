use Rattle.pl_cascade.proofs.Lawful.{direct_touched, touched_taken}
use Rattle.pl_cascade.proofs.laws.what_is_touched_takes.Goals as goal

pub returns-clause-direct : goal.returns-clause-direct
returns-clause-direct c = direct_touched

pub returns-clause-taken : goal.returns-clause-taken
returns-clause-taken c = touched_taken
