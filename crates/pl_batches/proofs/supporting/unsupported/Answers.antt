use Rattle.std.proofs.Common.{◌≡◌, rules, false, length, ◌∙◌}
use Rattle.pl_support.specs.Support.{support_at}
use Rattle.pl_steps.specs.Layers.{each}
use Rattle.pl_batches.specs.Passes.{strokes_at}
use Rattle.pl_batches.proofs.Lists.{along_cells}
use Rattle.pl_batches.proofs.supporting.unsupported.Goals as goal

pub returns-in-Done-clause-strokes : goal.returns-in-Done-clause-strokes
returns-in-Done-clause-strokes g c =
    let layer = support_at false false c.args.slices.now in
    let cells : c.in-Done.made.cells.items ≡ each (length c.args.slices.now) layer = search rules in
    let strokes : c.in-Done.made.strokes.items ≡ each (length c.args.slices.now) (strokes_at layer) = search rules in
    along_cells (length c.args.slices.now) layer c.into_set.result.cells _ (c.into_set.ensures.cells ∙ cells) (c.into_set.ensures.strokes ∙ strokes)
