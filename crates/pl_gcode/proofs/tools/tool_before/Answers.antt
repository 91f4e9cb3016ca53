use Rattle.std.proofs.Common.{◌-◌, ◌<◌, length, arith}
use Rattle.pl_gcode.proofs.Heights.{tool_before_is}
use Rattle.pl_gcode.proofs.tools.tool_before.Goals as goal

pub returns : goal.returns
returns g c =
    let below : c.args.i - 1 < length (g.P.Parts.print c.args.parts.now).heights = omega arith in
    tool_before_is (g.P.Parts.print c.args.parts.now) c.args.i _ c.if-i-eq0.false c.tools-tools.ensures (c.requires.print.tooled (c.args.i - 1) below)
