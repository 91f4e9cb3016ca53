use Rattle.std.proofs.lemmas.Result.{err_from_is_err_and}
use Rattle.pl_gcode.specs.Paths.{stroke_path}
use Rattle.pl_gcode.proofs.Written.{written_more, written_err, flat_map_next}
use Rattle.pl_gcode.proofs.path.put_strokes.Goals as goal

pub returns-in_err-put_stroke : goal.returns-in_err-put_stroke
returns-in_err-put_stroke c =
    let p = err_from_is_err_and c.from_residual.result c.from_residual.ensures.1 in
    written_err _ _ _ _ _ _ _ _ _ p.1 c.loop-stroke.invariant c.in_err-put_stroke.ensures (flat_map_next (stroke_path c.args.settings.now c.args.pace.now c.args.by.now) c.args.strokes.now c.loop-stroke.stroke-index _ c.loop-stroke-test.true)

pub loop-stroke-preserved : goal.loop-stroke-preserved
loop-stroke-preserved c =
    written_more _ _ _ _ _ _ _ c.loop-stroke.invariant c.in_ok-put_stroke.ensures (flat_map_next (stroke_path c.args.settings.now c.args.pace.now c.args.by.now) c.args.strokes.now c.loop-stroke.stroke-index _ c.loop-stroke-test.true)
