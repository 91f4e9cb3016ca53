use Rattle.std.proofs.Common.{arith, ap, ◌∙◌}
use Rattle.std.specs.Prelude.{◌||◌}
use Rattle.pl_keys.specs.Steps.{has}
use Rattle.pl_cascade.proofs.Searches.{below_all}
use Rattle.pl_cascade.proofs.steps.both.Goals as goal

pub returns : goal.returns
returns c k =
    c.loop-step.invariant.0 k
    ∙ ap (λ b. has c.args.one k || b) (below_all (has c.args.other) c.loop-step.step k (λ far. c.loop-step.invariant.1 (omega arith) k (omega arith)))
