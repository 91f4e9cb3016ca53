use Rattle.std.proofs.Common.{length, ap, arith}
use Rattle.pl_steps.specs.Layers.{no_surfaces, ironing_in}
use Rattle.pl_steps.proofs.Each.{each_next}
use Rattle.pl_batches.proofs.filling.IroningLayered.put_layer.Goals as goal

pub returns : goal.returns
returns c =
    each_next c.args.number c.args.self.now.sets.now c.sets.result.now no_surfaces c.index-sets-number.result (λ set k. ironing_in c.args.self.now.on set.top k) c.args.lists.now.items _ c.in_ok-layer_ironing.field-0 (omega (arith, ap length c.sets.ensures)) c.index-sets-number.is
    c.sets.ensures c.requires.before c.in_ok-layer_ironing.ensures c.in_ok-push.ensures.items
