use Rattle.pl_units.proofs.Lengths.{ok_is_length, far_is_too_far, bad_is_none}
use Rattle.pl_units.proofs.numeral.read_mm.Goals as goal

pub returns-clause-value : goal.returns-clause-value
returns-clause-value c nm = ok_is_length c.args.bytes.now c.read_length.result nm c.read_length.ensures

pub returns-clause-far : goal.returns-clause-far
returns-clause-far c = far_is_too_far c.args.bytes.now c.read_length.result c.read_length.ensures

pub returns-clause-bad : goal.returns-clause-bad
returns-clause-bad c = bad_is_none c.args.bytes.now c.read_length.result c.read_length.ensures
