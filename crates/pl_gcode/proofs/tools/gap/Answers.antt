use Rattle.pl_gcode.proofs.Heights.{gap_between}
use Rattle.pl_gcode.proofs.tools.gap.Goals as goal

pub rise-requires : goal.rise-requires
rise-requires g c = gap_between (g.P.Parts.print c.args.parts.now) c.args.i _ c.if-at-eq0.false c.heights-heights.ensures (c.requires.print.gaps c.args.i c.requires.height)
