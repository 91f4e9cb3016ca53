use Rattle.std.proofs.Common.{refl, append_assoc}
use Rattle.std.proofs.lemmas.Result.{err_from_is_err_and}
use Rattle.pl_gcode.specs.Gcode.{change_before, around_first, tool_text}
use Rattle.pl_gcode.proofs.Written.{written_none, written_more, written_err}
use Rattle.pl_gcode.proofs.tools.put_turn.Goals as goal

pub returns-in_err-put_around : goal.returns-in_err-put_around
returns-in_err-put_around g c =
    let print = g.P.Parts.print c.args.parts.now in
    let change = change_before print c.args.i c.args.turn.now.current c.args.turn.now.changes c.args.tool in
    let around = around_first print c.args.i c.args.turn.now.first in
    let objects = tool_text print c.args.i c.args.tool in
    let p = err_from_is_err_and c.from_residual-in_err-put_around.result c.from_residual-in_err-put_around.ensures.1 in
    written_err _ _ _ _ _ around objects _ _ p.1 (written_more _ _ _ _ _ change _ (written_none _ _ _ (append_assoc change around objects)) c.in_ok-put_change.ensures refl) c.in_err-put_around.ensures refl
