use Rattle.pl_steps.specs.Layers.{surfaces_at}
use Rattle.pl_steps.proofs.Each.{each_more}
use Rattle.pl_batches.proofs.preparing.PreparingLayered.put_layer.Goals as goal

pub returns : goal.returns
returns c =
    each_more c.args.number (surfaces_at c.args.self.now.slices.now c.args.self.now.inner.now c.args.self.now.top c.args.self.now.bottom) c.args.sets.now.items _ c.in_ok-set.set c.requires.before c.in_ok-set.ensures c.in_ok-push.ensures.items
