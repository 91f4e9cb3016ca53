use Rattle.std.proofs.Common.{arith}
use Rattle.pl_units.proofs.Powers.{down, down_back, up, up_back, some_on, none_on}
use Rattle.pl_units.proofs.scaled.scaled.Goals as goal

pub returns-then-lower-raise-clause-near : goal.returns-then-lower-raise-clause-near
returns-then-lower-raise-clause-near c = some_on c.scaled_down.result _ _ (λ size h. down c.args.number c.args.raise c.args.lower size (omega arith) h) c.scaled_down.ensures.near

pub returns-then-lower-raise-clause-far : goal.returns-then-lower-raise-clause-far
returns-then-lower-raise-clause-far c = none_on c.scaled_down.result _ _ (λ far size h. far size (down_back c.args.number c.args.raise c.args.lower size (omega arith) h)) c.scaled_down.ensures.far

pub returns-else-lower-raise-clause-near : goal.returns-else-lower-raise-clause-near
returns-else-lower-raise-clause-near c = some_on c.scaled_up.result _ _ (λ size h. up c.args.number c.args.raise c.args.lower size (omega arith) h) c.scaled_up.ensures.near

pub returns-else-lower-raise-clause-far : goal.returns-else-lower-raise-clause-far
returns-else-lower-raise-clause-far c = none_on c.scaled_up.result _ _ (λ far size h. let e = up_back c.args.number c.args.raise c.args.lower size (omega arith) h in omega (arith, e, far)) c.scaled_up.ensures.far
