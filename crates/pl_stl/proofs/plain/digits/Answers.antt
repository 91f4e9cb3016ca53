use Rattle.std.proofs.Common.{◌≡◌, ◌+◌, ◌*◌, arith, ap, sym, ◌∙◌, drop, get_or, true}
use Rattle.std.specs.Char.{is_ascii_digit}
use Rattle.pl_units.specs.Numeral.{digits_after}
use Rattle.pl_units.proofs.Powers.{ten_most, ten_more}
use Rattle.pl_units.proofs.Numerals.{digit_step, digit_small}
use Rattle.pl_stl.proofs.plain.digits.Goals as goal

pub overflow_mul-number : goal.overflow_mul-number
overflow_mul-number c = omega (arith, ten_most (c.args.before + c.loop-b.b-index) 11 (omega arith), c.loop-b.invariant.small)

pub overflow_add-number : goal.overflow_add-number
overflow_add-number c = omega (arith, ten_most (c.args.before + c.loop-b.b-index) 11 (omega arith), c.loop-b.invariant.small)

pub loop-b-preserved : goal.loop-b-preserved
loop-b-preserved c =
    let digit : is_ascii_digit (get_or c.args.text.now c.loop-b.b-index 0) ≡ true = sym c.is_ascii_digit.ensures.value ∙ c.if-not-is_ascii_digit.false in
    record {
      rest =
          ap (λ d. digits_after (c.loop-b.number * 10 + d) (drop (c.loop-b.b-index + 1) c.args.text.now)) c.from.ensures
          ∙ sym (digit_step c.args.text.now c.loop-b.b-index c.loop-b.number c.loop-b-test.true digit) ∙ c.loop-b.invariant.rest;
      small = omega (arith, digit_small (get_or c.args.text.now c.loop-b.b-index 0) digit, c.from.ensures, c.loop-b.invariant.small, ten_more c.args.before c.loop-b.b-index);
    }
