use Rattle.pl_gcode.proofs.Heights.{ends_at_last}
use Rattle.pl_gcode.proofs.gcode.ends_line.Goals as goal

pub returns-in-len1-up : goal.returns-in-len1-up
returns-in-len1-up c = ends_at_last c.args.text.now c.in-len1-up.len_at_least
