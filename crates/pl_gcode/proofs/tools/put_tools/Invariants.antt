use Rattle.std.proofs.Common.{◌≡◌, ◌+◌, ◌≤◌, true, drop}
use Rattle.pl_gcode.specs.Gcode.{tools_text, tool_before, changes_from}
use Rattle.pl_gcode.proofs.Written.{Written}
use Rattle.pl_gcode.proofs.tools.put_tools.Given as goal

abbrev pub invariant-loop-tool : goal.invariant-loop-tool
invariant-loop-tool g l = record {
  written : Written l.initial.out l.out (tools_text (g.P.Parts.print l.parts) l.i (tool_before (g.P.Parts.print l.parts) l.i) 0 true l.tool-items) (tools_text (g.P.Parts.print l.parts) l.i l.turn.current l.turn.changes l.turn.first (drop l.tool-index l.tool-items));
  left : l.turn.changes + changes_from l.turn.current (drop l.tool-index l.tool-items) ≡ changes_from (tool_before (g.P.Parts.print l.parts) l.i) l.tool-items;
  few : l.turn.changes ≤ l.tool-index;
}
