use Rattle.pl_gcode.specs.Gcode.{head_text, height_text}
use Rattle.pl_batches.proofs.Texts.{text_more}
use Rattle.pl_batches.proofs.exporting.ExportingLayered.put_layer.Goals as goal

pub returns : goal.returns
returns g c =
    let print = g.Q.Parts.print c.args.self.now.parts.now in
    text_more (head_text print.settings) (height_text print) c.args.number c.args.text.now c.put_height.new.out c.requires.before c.in_ok-put_height.ensures
