use Rattle.std.proofs.Common.{arith, inl, inr}
use Rattle.pl_units.proofs.Powers.{far_power, far_digits}
use Rattle.pl_units.proofs.scaled.scaled_up.Goals as goal

pub returns-then-power-gt9-clause-far : goal.returns-then-power-gt9-clause-far
returns-then-power-gt9-clause-far c =
    elim c.then-power-gt9.either [
      | inl great ↦ far_power c.args.number c.args.power (omega arith) (omega arith)
      | inr many ↦ far_digits c.args.number c.args.power many.1
    ]
