use Rattle.std.proofs.Common.{refl}
use Rattle.std.proofs.lemmas.Result.{err_from_is_err_and}
use Rattle.pl_gcode.specs.Gcode.{tool_line}
use Rattle.pl_gcode.proofs.Heights.{change_is}
use Rattle.pl_gcode.proofs.Written.{written_none, written_err}
use Rattle.pl_gcode.proofs.tools.put_change.Goals as goal

pub returns-in_err-put_number : goal.returns-in_err-put_number
returns-in_err-put_number g c =
    let p = err_from_is_err_and c.from_residual.result c.from_residual.ensures.1 in
    written_err _ _ _ _ _ (tool_line c.args.tool) _ _ _ p.1 (written_none _ _ _ refl) c.in_err-put_number.ensures (change_is (g.P.Parts.print c.args.parts.now) c.args.i c.args.turn.now.current c.args.turn.now.changes c.args.tool c.if-tool-turn.false)
