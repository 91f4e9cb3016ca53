use Rattle.std.proofs.Common.{◌≡◌, true, get_or, arith}
use Rattle.std.specs.Char.{is_ascii_digit}
use Rattle.std.proofs.lemmas.Bool.Decides.{nat_tests}
use Rattle.pl_script.proofs.Wholes.{too_many_after}
use Rattle.pl_script.proofs.numbers.up_to.Goals as goal

pub returns-then-number-most : goal.returns-then-number-most
returns-then-number-most c =
    let digit : is_ascii_digit (get_or c.args.digits.now c.loop-digit.digit-index 0) ≡ true = grind (arith, nat_tests, c.is_ascii_digit.ensures.value, c.if-not-is_ascii_digit.false) in
    too_many_after c.args.most c.loop-digit.number c.args.digits.now c.loop-digit.digit-index _ c.loop-digit-test.true digit (omega (arith, c.from.ensures)) c.if-number-most.true c.loop-digit.invariant.same
