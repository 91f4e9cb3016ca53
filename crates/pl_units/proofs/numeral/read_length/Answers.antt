use Rattle.std.proofs.Common.{sym}
use Rattle.pl_units.proofs.Lengths.{near_of, far_of}
use Rattle.pl_units.proofs.numeral.read_length.Goals as goal

pub returns-in-None : goal.returns-in-None
returns-in-None c = far_of c.args.text.now c.in-Some.numeral (sym c.in-Some.ensures.value) c.in-None.ensures.far

pub returns-in-Some-size : goal.returns-in-Some-size
returns-in-Some-size c =
    near_of c.args.text.now c.in-Some.numeral c.in-Some-size.size c.with_sign.result (sym c.in-Some.ensures.value) c.in-Some-size.ensures.near c.in-Some-size.ensures.within c.with_sign.ensures
