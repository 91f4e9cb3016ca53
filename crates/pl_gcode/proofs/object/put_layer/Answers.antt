use Rattle.std.proofs.Common.{refl}
use Rattle.std.proofs.lemmas.Result.{err_from_is_err_and}
use Rattle.pl_gcode.proofs.Heights.{layer_parts}
use Rattle.pl_gcode.proofs.Written.{written_none, written_more, written_err}
use Rattle.pl_gcode.proofs.object.put_layer.Goals as goal

pub returns-in_err-put_strokes : goal.returns-in_err-put_strokes
returns-in_err-put_strokes g c =
    let p = err_from_is_err_and c.from_residual-in_err-put_strokes.result c.from_residual-in_err-put_strokes.ensures.1 in
    let parts = layer_parts (g.P.Parts.print c.args.parts.now) c.args.place c.args.k c.args.by.now c.args.settings.now c.layer_height-height.result c.perimeter_pace-perimeter.result c.infill_pace-infill.result c.ironing_pace-ironing.result c.loops.result.now c.infill.result.now _ c.requires.settings c.layer_height-height.ensures c.perimeter_pace-perimeter.ensures c.infill_pace-infill.ensures c.ironing_pace-ironing.ensures c.loops.ensures c.infill.ensures refl in
    written_err _ _ _ _ _ _ _ _ _ p.1 (written_more _ _ _ _ _ _ _ (written_none _ _ _ parts) c.in_ok-put_loops.ensures refl) c.in_err-put_strokes.ensures refl

pub returns-in_err-put_strokes-2 : goal.returns-in_err-put_strokes-2
returns-in_err-put_strokes-2 g c =
    let p = err_from_is_err_and c.from_residual-in_err-put_strokes-2.result c.from_residual-in_err-put_strokes-2.ensures.1 in
    let parts = layer_parts (g.P.Parts.print c.args.parts.now) c.args.place c.args.k c.args.by.now c.args.settings.now c.layer_height-height.result c.perimeter_pace-perimeter.result c.infill_pace-infill.result c.ironing_pace-ironing.result c.loops.result.now c.infill.result.now c.ironing.result.now c.requires.settings c.layer_height-height.ensures c.perimeter_pace-perimeter.ensures c.infill_pace-infill.ensures c.ironing_pace-ironing.ensures c.loops.ensures c.infill.ensures c.ironing.ensures in
    written_err _ _ _ _ _ _ _ _ _ p.1 (written_more _ _ _ _ _ _ _ (written_more _ _ _ _ _ _ _ (written_none _ _ _ parts) c.in_ok-put_loops.ensures refl) c.in_ok-put_strokes.ensures refl) c.in_err-put_strokes-2.ensures refl
