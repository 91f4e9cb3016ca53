use Rattle.std.proofs.Common.{◌≤◌, ◌+◌, ◌∙◌, sym, arith, length, List, Bool}
use Rattle.std.proofs.lemmas.List.Sums.{prefix_len-drop_all}
use Rattle.pl_grid.specs.Lines.{line_cells}
use Rattle.pl_grid.proofs.RunLemmas.{length-line_cells, filled_more}
use Rattle.pl_grid.proofs.runs.Line.run_end.Goals as goal

pub loop-end-preserved : goal.loop-end-preserved
loop-end-preserved c =
    let cells : List Bool = line_cells c.args.self.now.along c.args.self.now.plane.now c.args.self.now.line in
    let within : c.loop-end.end + c.alike-end.result ≤ length cells = omega (arith, length-line_cells c.args.self.now.along c.args.self.now.plane.now c.args.self.now.line, c.alike-end.ensures.within) in (
      filled_more cells c.loop-end.end c.alike-end.result within (λ k low high. c.alike-end.ensures.alike k low high ∙ (sym c.is_filled.ensures ∙ c.if-is_filled.true)) ∙ c.loop-end.invariant.0,
      c.loop-end.invariant.1,
      omega (arith, c.alike-end.ensures.within, c.loop-end.invariant.1),
    )

pub returns-after-loop-end : goal.returns-after-loop-end
returns-after-loop-end c =
    let past : length (line_cells c.args.self.now.along c.args.self.now.plane.now c.args.self.now.line) ≤ c.loop-end.end = omega (arith, length-line_cells c.args.self.now.along c.args.self.now.plane.now c.args.self.now.line, c.loop-end.invariant) in
    omega (arith, c.loop-end.invariant.0, prefix_len-drop_all (λ b. b) _ c.loop-end.end past)
