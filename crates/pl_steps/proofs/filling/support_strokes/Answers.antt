use Rattle.std.proofs.Common.{[], arith}
use Rattle.pl_fill.specs.Layers.{layer_axis}
use Rattle.pl_fill.specs.Surfaces.{layer_at}
use Rattle.pl_grid.specs.Strokes.{strokes_of}
use Rattle.pl_steps.proofs.Each.{each_next}
use Rattle.pl_steps.proofs.filling.support_strokes.Goals as goal

pub loop-k-preserved : goal.loop-k-preserved
loop-k-preserved c =
    each_next c.loop-k.k c.args.cells.now c.planes-plane-items.result.now (layer_at [] 0) c.plane-item.result (λ plane k. strokes_of (layer_axis k) 2 plane) c.loop-k.lists.items _ c.in_ok-layer_support.field-0 (omega arith) c.plane-item.is
    c.planes-plane-items.ensures c.loop-k.invariant c.in_ok-layer_support.ensures c.in_ok-push.ensures.items
