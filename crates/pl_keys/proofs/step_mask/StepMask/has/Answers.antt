use Rattle.std.proofs.Common.{arith}
use Rattle.std.proofs.lemmas.Bool.Decides.{nat_tests}
use Rattle.pl_keys.proofs.Masks.{has-above}
use Rattle.pl_keys.proofs.step_mask.StepMask.has.Goals as goal

pub returns-then-kind-lt10-clause-kinds : goal.returns-then-kind-lt10-clause-kinds
returns-then-kind-lt10-clause-kinds c step far = rw (← c.self.view_is) (has-above c.self.inside.bits step c.self.invariant far)

pub returns-else-kind-lt10-clause-value : goal.returns-else-kind-lt10-clause-value
returns-else-kind-lt10-clause-value c =
    rw (← c.self.view_is) (grind (arith, nat_tests, has-above c.self.inside.bits c.args.kind c.self.invariant c.if-kind-lt10.false))

pub returns-else-kind-lt10-clause-kinds : goal.returns-else-kind-lt10-clause-kinds
returns-else-kind-lt10-clause-kinds c step far = rw (← c.self.view_is) (has-above c.self.inside.bits step c.self.invariant far)
