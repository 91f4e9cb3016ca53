use Rattle.std.proofs.Common.{◌∙◌, refl}
use Rattle.std.proofs.lemmas.Result.{err_from_is_err_and}
use Rattle.pl_gcode.specs.Gcode.{own_text, opening_lines}
use Rattle.pl_gcode.proofs.Heights.{head_parts}
use Rattle.pl_gcode.proofs.Written.{written_none, written_more, written_err, written_last}
use Rattle.pl_gcode.proofs.gcode.put_head.Goals as goal

pub returns-in_err-put_opening : goal.returns-in_err-put_opening
returns-in_err-put_opening g c =
    let p = err_from_is_err_and c.from_residual.result c.from_residual.ensures.1 in
    written_err _ _ _ _ _ (opening_lines c.of-settings.result) (own_text c.of-settings.result.start_gcode) _ _ p.1 (written_none _ _ _ refl) c.in_err-put_opening.ensures
    (head_parts (g.P.Parts.print c.args.parts.now).settings c.of-settings.result c.of-settings.result.start_gcode (c.of-settings.ensures ∙ c.config.ensures.settings) refl)

pub returns : goal.returns
returns g c =
    written_last _ _ _ _ _ (own_text c.start_gcode.result.now) _
    (written_more _ _ _ _ _ (opening_lines c.of-settings.result) (own_text c.start_gcode.result.now) (written_none _ _ _ refl) c.in_ok-put_opening.ensures
    (head_parts (g.P.Parts.print c.args.parts.now).settings c.of-settings.result c.start_gcode.result.now (c.of-settings.ensures ∙ c.config.ensures.settings) c.start_gcode.ensures))
    c.put_own.ensures refl
