use Rattle.std.proofs.Common.{arith}
use Rattle.pl_script.proofs.Sessions.{each_of}
use Rattle.pl_script.proofs.Ways.{way_begins, way_short, way_tells}
use Rattle.pl_script.proofs.stuck.least_left.Goals as goal

pub loop-init : goal.loop-init
loop-init c = way_begins c.args.lines.now

pub loop-smaller : goal.loop-smaller
loop-smaller c = omega (arith, way_short c.args.lines.now c.pass_one.new.progress c.pass_one.ensures.way, c.pass_one.ensures.passed c.loop-test.true)

pub returns : goal.returns
returns c = way_tells c.args.lines.now (each_of c.args.lines.now c.requires.each) c.pass_one.new.progress c.pass_one.ensures.way (c.pass_one.ensures.rest c.loop-test.false) c.least_next.result c.least_next.ensures
