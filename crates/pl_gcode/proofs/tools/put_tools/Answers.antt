use Rattle.std.proofs.Common.{true, List, ℕ, ap, refl}
use Rattle.std.proofs.lemmas.Result.{err_from_is_err_and}
use Rattle.pl_gcode.specs.Gcode.{tools_text, tool_before}
use Rattle.pl_gcode.proofs.Heights.{tools_next}
use Rattle.pl_gcode.proofs.Written.{written_as, written_err}
use Rattle.pl_gcode.proofs.tools.put_tools.Goals as goal

pub returns-in_err-put_turn : goal.returns-in_err-put_turn
returns-in_err-put_turn g c =
    let p = err_from_is_err_and c.from_residual.result c.from_residual.ensures.1 in
    let print = g.P.Parts.print c.args.parts.now in
    written_err _ _ _ _ _ _ _ _ _ p.1
    (written_as _ _ _ _ _ c.loop-tool.invariant.written (ap (λ (l : List ℕ). tools_text print c.args.i (tool_before print c.args.i) 0 true l) c.tools-tool-items.ensures))
    c.in_err-put_turn.ensures
    (tools_next print c.args.i c.tools-tool-items.result.now c.loop-tool.tool-index _ c.loop-tool.turn _ c.loop-tool-test.true refl)
