use Rattle.std.proofs.Common.{arith}
use Rattle.pl_steps.specs.Layers.{no_surfaces, ironing_in}
use Rattle.pl_steps.proofs.Each.{each_next}
use Rattle.pl_steps.proofs.filling.ironing.Goals as goal

pub loop-k-preserved : goal.loop-k-preserved
loop-k-preserved c =
    each_next c.loop-k.k c.args.sets.now c.sets-set-items.result.now no_surfaces c.set-item.result (λ set k. ironing_in c.args.on set.top k) c.loop-k.lists.items _ c.in_ok-layer_ironing.field-0 (omega arith) c.set-item.is
    c.sets-set-items.ensures c.loop-k.invariant c.in_ok-layer_ironing.ensures c.in_ok-push.ensures.items
