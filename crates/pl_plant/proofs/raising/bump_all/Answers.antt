use Rattle.std.proofs.Common.{arith}
use Rattle.pl_machine.specs.Each.{is_each_slot}
use Rattle.pl_plant.proofs.raising.bump_all.Goals as goal

pub returns-clause-counts : goal.returns-clause-counts
returns-clause-counts c = is_each_slot _ _ 0 c.loop-n.writer.wide (λ k low. c.loop-n.invariant.raised.done k (omega (arith, c.loop-n-test.false)))
