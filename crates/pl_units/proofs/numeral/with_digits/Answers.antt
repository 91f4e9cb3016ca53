use Rattle.std.proofs.Common.{◌+◌, ◌≤◌, ◌++◌, arith, sym, ◌∙◌, length, length-append, refl}
use Rattle.pl_units.proofs.Powers.{ten_most}
use Rattle.pl_units.proofs.Numerals.{digits_none, digits_stop, digits_then, digits_read}
use Rattle.pl_units.proofs.numeral.with_digits.Goals as goal

pub returns-in_err-whole-clause-value : goal.returns-in_err-whole-clause-value
returns-in_err-whole-clause-value c =
    let none = digits_stop c.args.before.now c.args.after.now 0 (sym c.in_err-whole.ensures.value) in
    c.from_residual.ensures ∙ sym (digits_none c.args.negative c.args.before.now c.args.after.now c.args.exponent none)

pub returns-in_err-number-clause-value : goal.returns-in_err-number-clause-value
returns-in_err-number-clause-value c =
    let none = digits_then c.args.before.now c.args.after.now 0 c.in_ok-whole.whole (sym c.in_ok-whole.ensures.value) ∙ sym c.in_err-number.ensures.value in
    c.from_residual-in_err-number.ensures ∙ sym (digits_none c.args.negative c.args.before.now c.args.after.now c.args.exponent none)

pub returns-clause-value : goal.returns-clause-value
returns-clause-value c =
    let number = digits_then c.args.before.now c.args.after.now 0 c.in_ok-whole.whole (sym c.in_ok-whole.ensures.value) ∙ sym c.in_ok-number.ensures.value in
    let both = length-append c.args.before.now c.args.after.now in
    let some : 1 ≤ length (c.args.before.now ++ c.args.after.now) = omega (arith, both) in
    let few : length (c.args.before.now ++ c.args.after.now) ≤ 30 = omega (arith, both) in
    sym (digits_read c.args.negative c.args.before.now c.args.after.now c.in_ok-number.number c.args.exponent number some few)

pub returns-clause-small : goal.returns-clause-small
returns-clause-small c =
    (omega (arith, c.in_ok-number.ensures.small, ten_most (length c.args.before.now + length c.args.after.now) 30 (omega arith)), omega arith, refl)
