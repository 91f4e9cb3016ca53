use Rattle.std.proofs.lemmas.Result.{err_from_is_err_and}
use Rattle.pl_gcode.proofs.PathTexts.{round_next, round_last}
use Rattle.pl_gcode.proofs.Written.{written_more, written_err, written_last}
use Rattle.pl_gcode.proofs.path.put_round.Goals as goal

pub returns-in_err-put_extrude : goal.returns-in_err-put_extrude
returns-in_err-put_extrude c =
    let p = err_from_is_err_and c.from_residual.result c.from_residual.ensures.1 in
    written_err _ _ _ _ _ _ _ _ _ p.1 c.loop-corner.invariant c.in_err-put_extrude.ensures
    (round_next c.args.settings.now c.args.pace.now c.args.by.now c.args.first.now c.args.others.now c.loop-corner.corner-index _ c.loop-corner.from c.of_corner-to.result c.loop-corner-test.true c.of_corner-to.ensures)

pub loop-corner-preserved : goal.loop-corner-preserved
loop-corner-preserved c =
    written_more _ _ _ _ _ _ _ c.loop-corner.invariant c.in_ok-put_extrude.ensures
    (round_next c.args.settings.now c.args.pace.now c.args.by.now c.args.first.now c.args.others.now c.loop-corner.corner-index _ c.loop-corner.from c.of_corner-to.result c.loop-corner-test.true c.of_corner-to.ensures)

pub returns : goal.returns
returns c =
    written_last _ _ _ _ _ _ _ c.loop-corner.invariant c.put_extrude-2.ensures
    (round_last c.args.settings.now c.args.pace.now c.args.by.now c.args.first.now c.args.others.now c.loop-corner.corner-index c.loop-corner.from c.of_corner.result c.loop-corner-test.false c.of_corner.ensures)
