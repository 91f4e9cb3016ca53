use Rattle.std.proofs.Common.{sym, ◌+◌}
use Rattle.std.proofs.lemmas.List.{take_rest}
use Rattle.pl_units.proofs.Powers.{some_on}
use Rattle.pl_stl.proofs.PlainLengths.{no_mark}
use Rattle.pl_stl.proofs.plain.with_point.Goals as goal

pub returns-in-None : goal.returns-in-None
returns-in-None c =
    some_on c.with_digits.result _ _ (λ nm h. no_mark c.args.negative c.args.text.now nm (rw (sym c.in-None.ensures) h)) c.with_digits.ensures

pub returns-in-Some : goal.returns-in-Some
returns-in-Some c =
    let given = rw (take_rest c.args.text.now (c.in-Some.at + 1)) at c.with_digits-in-Some.ensures in
    some_on c.with_digits-in-Some.result _ _ (λ nm h. no_mark c.args.negative c.args.text.now nm (rw (sym c.in-Some.ensures) h)) given
