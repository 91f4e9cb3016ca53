use Rattle.std.proofs.Common.{◌≡◌, ◌-◌, true, false, length, ap, ◌∙◌, arith}
use Rattle.pl_grid.specs.Planes.{Cells}
use Rattle.pl_grid.specs.Strokes.{strokes_of}
use Rattle.pl_fill.specs.Layers.{layer_axis}
use Rattle.pl_support.specs.Support.{support_at}
use Rattle.pl_steps.proofs.Each.{each_more}
use Rattle.pl_batches.specs.Passes.{from_top, strokes_at}
use Rattle.pl_batches.proofs.Lists.{each_long, length_each}
use Rattle.pl_batches.proofs.supporting.EverywhereLayered.put_layer.Goals as goal

pub next_down-requires-clause-found : goal.next_down-requires-clause-found
next_down-requires-clause-found c = each_long c.args.number (from_top (length c.args.self.now.slices.now) (support_at true false c.args.self.now.slices.now)) c.deref.result.now (c.deref.ensures.value ∙ c.requires.before.0)

pub next_down-requires-clause-more : goal.next_down-requires-clause-more
next_down-requires-clause-more c =
    let long : length c.deref.result.now ≡ c.args.number = length_each c.args.number (from_top (length c.args.self.now.slices.now) (support_at true false c.args.self.now.slices.now)) c.deref.result.now (c.deref.ensures.value ∙ c.requires.before.0) in
    omega (arith, long, c.requires.there)

pub returns : goal.returns
returns c =
    let n = length c.args.self.now.slices.now in
    let layer = support_at true false c.args.self.now.slices.now in
    let long : length c.deref.result.now ≡ c.args.number = length_each c.args.number (from_top n layer) c.deref.result.now (c.deref.ensures.value ∙ c.requires.before.0) in
    let here : c.in_ok-cells.cells ≡ from_top n layer c.args.number = c.in_ok-cells.ensures ∙ ap (from_top n layer) long in (
      each_more c.args.number (from_top n layer) c.args.made.now.cells.items _ c.in_ok-cells.cells c.requires.before.0 here c.in_ok-put.ensures.cells,
      each_more c.args.number (from_top n (strokes_at layer)) c.args.made.now.strokes.items _ (strokes_of (layer_axis (n - 1 - c.args.number)) 2 c.in_ok-cells.cells) c.requires.before.1 (ap (strokes_of (layer_axis (n - 1 - c.args.number)) 2) here) c.in_ok-put.ensures.strokes,
    )
