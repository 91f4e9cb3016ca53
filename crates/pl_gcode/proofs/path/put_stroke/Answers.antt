use Rattle.std.proofs.Common.{refl}
use Rattle.std.proofs.lemmas.Result.{err_from_is_err_and}
use Rattle.pl_gcode.proofs.PathTexts.{stroke_first, stroke_second}
use Rattle.pl_gcode.proofs.Written.{written_none, written_more, written_err, written_last}
use Rattle.pl_gcode.proofs.path.put_stroke.Goals as goal

pub returns-in_err-put_start : goal.returns-in_err-put_start
returns-in_err-put_start c =
    let p = err_from_is_err_and c.from_residual.result c.from_residual.ensures.1 in
    written_err _ _ _ _ _ _ _ _ _ p.1 (written_none _ _ _ refl) c.in_err-put_start.ensures (stroke_first c.args.settings.now c.args.pace.now c.args.by.now c.args.stroke.now c.start-start.result c.start-start.ensures)

pub returns : goal.returns
returns c =
    written_last _ _ _ _ _ _ _
    (written_more _ _ _ _ _ _ _ (written_none _ _ _ refl) c.in_ok-put_start.ensures (stroke_first c.args.settings.now c.args.pace.now c.args.by.now c.args.stroke.now c.start-start.result c.start-start.ensures))
    c.put_extrude.ensures (stroke_second c.args.settings.now c.args.pace.now c.args.by.now c.args.stroke.now c.start-start.result c.end.result c.end.ensures)
