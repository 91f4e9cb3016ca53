use Rattle.std.proofs.Common.{arith}
use Rattle.pl_units.proofs.DecimalTexts.{whole_room}
use Rattle.pl_units.proofs.decimal.put_number_before.Goals as goal

pub put_whole-requires-clause-room : goal.put_whole-requires-clause-room
put_whole-requires-clause-room c = omega (arith, whole_room c.args.value c.ranges.value.fits, c.requires.room)

pub returns-clause-low : goal.returns-clause-low
returns-clause-low c = omega (arith, whole_room c.args.value c.ranges.value.fits, c.put_whole.ensures.start)

pub returns-clause-high : goal.returns-clause-high
returns-clause-high c = omega (arith, c.put_whole.ensures.start)
