use Rattle.std.proofs.Common.{rules, ◌≤◌, ◌∙◌, arith, ap, length}
use Rattle.std.proofs.lemmas.Fmt.{decimal_nonempty, decimal_digit}
use Rattle.pl_units.proofs.DecimalTexts.{tenth_room, whole_more, whole_one}
use Rattle.pl_units.proofs.decimal.+put_whole.Goals as goal

pub overflow_sub-out : goal.overflow_sub-out
overflow_sub-out t c = omega (arith, decimal_nonempty c.args.number c.ranges.number.fits, c.requires.room)

pub bounds-out-end : goal.bounds-out-end
bounds-out-end t c = omega (arith, decimal_nonempty c.args.number c.ranges.number.fits, c.requires.room, c.requires.place)

pub overflow_sub-end : goal.overflow_sub-end
overflow_sub-end t c = omega (arith, decimal_nonempty c.args.number c.ranges.number.fits, c.requires.room)

pub put_whole-requires : goal.put_whole-requires
put_whole-requires t c = (search rules, (search rules, omega (arith, tenth_room c.args.number c.if-number-ge10.true c.ranges.number.fits, c.requires.room)))

pub overflow_sub-result : goal.overflow_sub-result
overflow_sub-result t c = omega (arith, decimal_nonempty c.args.number c.ranges.number.fits, c.requires.room)

pub returns-then-number-ge10-clause-start : goal.returns-then-number-ge10-clause-start
returns-then-number-ge10-clause-start t c = omega (arith, tenth_room c.args.number c.if-number-ge10.true c.ranges.number.fits, c.requires.room, c.put_whole.ensures.start)

pub returns-then-number-ge10-clause-text : goal.returns-then-number-ge10-clause-text
returns-then-number-ge10-clause-text t c =
    let some : 1 ≤ c.args.end = omega (arith, decimal_nonempty c.args.number c.ranges.number.fits, c.requires.room) in
    c.put_whole.ensures.text ∙ whole_more c.args.out.now c.args.number c.args.end c.if-number-ge10.true c.ranges.number.fits some c.requires.place

pub returns-else-number-ge10-clause-start : goal.returns-else-number-ge10-clause-start
returns-else-number-ge10-clause-start t c = omega (arith, ap length (decimal_digit c.args.number c.if-number-ge10.false), c.requires.room)

pub returns-else-number-ge10-clause-text : goal.returns-else-number-ge10-clause-text
returns-else-number-ge10-clause-text t c =
    let some : 1 ≤ c.args.end = omega (arith, decimal_nonempty c.args.number c.ranges.number.fits, c.requires.room) in
    whole_one c.args.out.now c.args.number c.args.end c.if-number-ge10.false some c.requires.place
