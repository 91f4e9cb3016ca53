use Rattle.std.proofs.Common.{false, ap}
use Rattle.pl_grid.specs.Strokes.{strokes_of}
use Rattle.pl_fill.specs.Layers.{layer_axis}
use Rattle.pl_support.specs.Support.{support_at}
use Rattle.pl_steps.proofs.Each.{each_more}
use Rattle.pl_batches.specs.Passes.{strokes_at}
use Rattle.pl_batches.proofs.supporting.NowhereLayered.put_layer.Goals as goal

pub returns : goal.returns
returns c =
    let layer = support_at false false c.args.self.now.slices.now in (
      each_more c.args.number layer c.args.made.now.cells.items _ c.in_ok-cells.cells c.requires.before.0 c.in_ok-cells.ensures c.in_ok-put.ensures.cells,
      each_more c.args.number (strokes_at layer) c.args.made.now.strokes.items _ (strokes_of (layer_axis c.args.number) 2 c.in_ok-cells.cells) c.requires.before.1 (ap (strokes_of (layer_axis c.args.number) 2) c.in_ok-cells.ensures) c.in_ok-put.ensures.strokes,
    )
