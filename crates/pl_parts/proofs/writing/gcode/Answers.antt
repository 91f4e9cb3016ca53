use Rattle.pl_gcode.specs.Gcode.{head_text, height_text}
use Rattle.pl_parts.specs.Parts.{print_from}
use Rattle.pl_parts.proofs.Written.{text_more}
use Rattle.pl_parts.proofs.writing.gcode.Goals as goal

pub loop-i-preserved : goal.loop-i-preserved
loop-i-preserved c = text_more (head_text (print_from c.args.parts.now).settings) (height_text (print_from c.args.parts.now)) c.loop-i.i c.loop-i.text c.put_height.new.out c.loop-i.invariant c.in_ok-put_height.ensures
