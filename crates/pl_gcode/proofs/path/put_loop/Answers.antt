use Rattle.std.proofs.Common.{◌-◌, length, refl, take, drop}
use Rattle.std.proofs.lemmas.Result.{err_from_is_err_and}
use Rattle.pl_gcode.proofs.PathTexts.{first_and_others, loop_first}
use Rattle.pl_gcode.proofs.Written.{written_none, written_more, written_err, written_last}
use Rattle.pl_gcode.proofs.path.put_loop.Goals as goal

pub returns-in_err-put_start-in-len1-up : goal.returns-in_err-put_start-in-len1-up
returns-in_err-put_start-in-len1-up c =
    let p = err_from_is_err_and c.from_residual.result c.from_residual.ensures.1 in
    written_err _ _ _ _ _ _ _ _ _ p.1 (written_none _ _ _ refl) c.in_err-put_start-in-len1-up.ensures
    (loop_first c.args.settings.now c.args.pace.now c.args.by.now _ c.args.corners.now (take (length c.args.corners.now - 1) (drop 1 c.args.corners.now)) c.of_corner.result (first_and_others c.args.corners.now _ c.in-len1-up.len_at_least) c.of_corner.ensures)

pub returns-in_ok-put_start-in-len1-up : goal.returns-in_ok-put_start-in-len1-up
returns-in_ok-put_start-in-len1-up c =
    written_last _ _ _ _ _ _ _
    (written_more _ _ _ _ _ _ _ (written_none _ _ _ refl) c.in_ok-put_start-in-len1-up.ensures
    (loop_first c.args.settings.now c.args.pace.now c.args.by.now _ c.args.corners.now (take (length c.args.corners.now - 1) (drop 1 c.args.corners.now)) c.of_corner.result (first_and_others c.args.corners.now _ c.in-len1-up.len_at_least) c.of_corner.ensures))
    c.put_round.ensures refl
