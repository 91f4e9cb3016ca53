use Rattle.pl_steps.specs.Layers.{surfaces_at}
use Rattle.pl_steps.proofs.Each.{each_more}
use Rattle.pl_steps.proofs.preparing.prepare.Goals as goal

pub loop-k-preserved : goal.loop-k-preserved
loop-k-preserved c = each_more c.loop-k.k (surfaces_at c.args.slices.now c.args.inner.now c.args.top c.args.bottom) c.loop-k.sets.items _ c.in_ok-layer_surfaces.field-0 c.loop-k.invariant c.in_ok-layer_surfaces.ensures c.in_ok-push.ensures.items
