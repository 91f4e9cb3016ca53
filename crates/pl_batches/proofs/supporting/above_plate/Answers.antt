use Rattle.std.proofs.Common.{rules, ◌*◌, true, length, ◌∙◌}
use Rattle.pl_support.specs.Support.{support_at}
use Rattle.pl_batches.specs.Passes.{AfterSteps}
use Rattle.pl_batches.proofs.Lists.{along_cells}
use Rattle.pl_batches.proofs.Passing.{passes_all}
use Rattle.pl_batches.proofs.supporting.above_plate.Goals as goal

pub returns-in-Done-clause-strokes : goal.returns-in-Done-clause-strokes
returns-in-Done-clause-strokes g c =
    let made = c.in-Done.field-0 in
    let after : AfterSteps c.args.slices.now (2 * length c.args.slices.now) made.found.items made.kept.cells.items made.kept.strokes.items made.covered = search rules in
    let all = passes_all c.args.slices.now made.found.items made.kept.cells.items made.kept.strokes.items made.covered after in
    along_cells (length c.args.slices.now) (support_at true true c.args.slices.now) c.into_set-in-Done.result.cells _ (c.into_set-in-Done.ensures.cells ∙ all.0) (c.into_set-in-Done.ensures.strokes ∙ all.1)
