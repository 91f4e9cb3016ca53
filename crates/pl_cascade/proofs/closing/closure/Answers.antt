use Rattle.pl_tech.specs.Slots.{has}
use Rattle.pl_cascade.proofs.Closures.{closure_told}
use Rattle.pl_cascade.proofs.closing.closure.Goals as goal

pub returns-clause-least : goal.returns-clause-least
returns-clause-least c = closure_told (has c.args.set) (has c.with_taken.result) (has c.with_taken-2.result) c.with_taken.ensures c.with_taken-2.ensures
