use Rattle.std.proofs.Common.{◌^◌, arith}
use Rattle.pl_units.proofs.Powers.{ten_pos, ten_most, near_zero, near_quotient}
use Rattle.pl_units.proofs.scaled.scaled_down.Goals as goal

pub returns-then-power-gt31-clause-near : goal.returns-then-power-gt31-clause-near
returns-then-power-gt31-clause-near c = near_zero c.args.number (10 ^ c.args.power) (omega (arith, ten_most 31 c.args.power (omega arith)))

pub pow-one-requires : goal.pow-one-requires
pow-one-requires c = omega (arith, ten_most c.args.power 31 c.if-power-gt31.false)

pub overflow_add-size : goal.overflow_add-size
overflow_add-size c = omega (arith, ten_most c.args.power 31 c.if-power-gt31.false, c.pow-one.ensures)

pub overflow_mul-size-2 : goal.overflow_mul-size-2
overflow_mul-size-2 c = omega (arith, ten_most c.args.power 31 c.if-power-gt31.false, c.pow-one.ensures)

pub nonzero_div-size : goal.nonzero_div-size
nonzero_div-size c = omega (arith, ten_pos c.args.power, c.pow-one.ensures)

pub returns-else-size-gt1000000000-clause-near : goal.returns-else-size-gt1000000000-clause-near
returns-else-size-gt1000000000-clause-near c = rw c.pow-one.ensures (near_quotient c.args.number (10 ^ c.args.power) (ten_pos c.args.power))
