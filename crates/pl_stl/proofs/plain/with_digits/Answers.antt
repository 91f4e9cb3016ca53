use Rattle.std.proofs.Common.{◌+◌, ◌*◌, ◌^◌, ◌≤◌, arith, length, refl}
use Rattle.std.proofs.Math.Nat.{mul-le-mul}
use Rattle.pl_units.proofs.Powers.{ten_most}
use Rattle.pl_stl.proofs.PlainLengths.{digits_length}
use Rattle.pl_stl.proofs.plain.with_digits.Goals as goal

pub overflow_mul-size : goal.overflow_mul-size
overflow_mul-size c =
    let most : c.in_ok-number.number ≤ 10 ^ 12 = omega (arith, c.in_ok-number.ensures.small, ten_most (length c.args.before.now + length c.args.after.now) 12 c.requires) in
    let product : c.in_ok-number.number * c.in_ok-unit.unit ≤ 10 ^ 12 * 1000000 = mul-le-mul most c.in_ok-unit.ensures.small in
    omega (arith, product)

pub returns : goal.returns
returns c =
    rw c.with_sign.ensures (digits_length c.args.negative c.args.before.now c.args.after.now c.in_ok-whole.whole c.in_ok-number.number c.in_ok-unit.unit (c.in_ok-number.number * c.in_ok-unit.unit) c.in_ok-whole.ensures.value c.in_ok-number.ensures.value (omega arith) c.requires c.in_ok-unit.ensures.value refl (omega arith))
