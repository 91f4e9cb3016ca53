use Rattle.std.proofs.lemmas.Result.{err_from_is_err_and}
use Rattle.pl_gcode.specs.Paths.{loop_path}
use Rattle.pl_gcode.proofs.Written.{written_err, flat_map_item}
use Rattle.pl_gcode.proofs.path.put_loops.Goals as goal

pub returns-in_err-put_loop : goal.returns-in_err-put_loop
returns-in_err-put_loop c =
    let p = err_from_is_err_and c.from_residual.result c.from_residual.ensures.1 in
    written_err _ _ _ _ _ _ _ _ _ p.1 c.loop-path.invariant c.in_err-put_loop.ensures
    (flat_map_item (loop_path c.args.settings.now c.args.pace.now c.args.by.now) c.args.loops.now c.loop-path.path-index c.path-item.result c.corners.result.now c.loop-path-test.true c.path-item.is c.corners.ensures)
