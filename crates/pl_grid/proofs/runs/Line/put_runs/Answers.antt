use Rattle.std.proofs.Common.{◌<◌, ◌≤◌, ◌+◌, ◌∙◌, sym, arith, length, List, Bool}
use Rattle.pl_grid.specs.Lines.{line_cells}
use Rattle.pl_grid.proofs.RunLemmas.{length-line_cells, scanned_skip, scanned_run, scanned_all, run_within}
use Rattle.pl_grid.proofs.runs.Line.put_runs.Goals as goal

pub loop-at-preserved-then-not-is_filled : goal.loop-at-preserved-then-not-is_filled
loop-at-preserved-then-not-is_filled c =
    let cells : List Bool = line_cells c.args.self.now.along c.args.self.now.plane.now c.args.self.now.line in
    let less : c.loop-at.at < length cells = omega (arith, length-line_cells c.args.self.now.along c.args.self.now.plane.now c.args.self.now.line, c.loop-at.invariant.1, c.loop-at-test.true) in
    let within : c.loop-at.at + c.alike-at.result ≤ length cells = omega (arith, length-line_cells c.args.self.now.along c.args.self.now.plane.now c.args.self.now.line, c.alike-at.ensures.within) in
    (scanned_skip _ _ cells _ _ c.loop-at.at c.alike-at.result c.loop-at.invariant.0 within (λ k low high. c.alike-at.ensures.alike k low high ∙ (sym c.is_filled.ensures ∙ c.if-not-is_filled.true)), c.loop-at.invariant.1)

pub run-requires-clause-within : goal.run-requires-clause-within
run-requires-clause-within c =
    let cells : List Bool = line_cells c.args.self.now.along c.args.self.now.plane.now c.args.self.now.line in
    let count = length-line_cells c.args.self.now.along c.args.self.now.plane.now c.args.self.now.line in
    let less : c.loop-at.at < length cells = omega (arith, count, c.loop-at.invariant.1, c.loop-at-test.true) in
    omega (arith, count, run_within cells c.loop-at.at c.run_end-end.result less c.run_end-end.ensures)

pub loop-at-preserved : goal.loop-at-preserved
loop-at-preserved c =
    let cells : List Bool = line_cells c.args.self.now.along c.args.self.now.plane.now c.args.self.now.line in
    let less : c.loop-at.at < length cells = omega (arith, length-line_cells c.args.self.now.along c.args.self.now.plane.now c.args.self.now.line, c.loop-at.invariant.1, c.loop-at-test.true) in
    (scanned_run _ _ cells _ _ _ c.loop-at.at c.run_end-end.result c.run.result c.loop-at.invariant.0 less (sym c.is_filled.ensures ∙ c.if-not-is_filled.false) c.run_end-end.ensures c.run.ensures c.in_ok-push.ensures.items, c.loop-at.invariant.1)

pub returns : goal.returns
returns c = scanned_all _ _ _ _ _ c.loop-at.at c.loop-at.invariant.0 (omega (arith, length-line_cells c.args.self.now.along c.args.self.now.plane.now c.args.self.now.line, c.loop-at.invariant.1))
