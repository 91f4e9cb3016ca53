use Rattle.std.proofs.Common.{length, ap, arith}
use Rattle.pl_steps.specs.Layers.{no_surfaces, infill_in}
use Rattle.pl_steps.proofs.Each.{each_next}
use Rattle.pl_batches.proofs.filling.FillingLayered.put_layer.Goals as goal

pub returns : goal.returns
returns c =
    each_next c.args.number c.args.self.now.sets.now c.sets.result.now no_surfaces c.index-sets-number.result (infill_in c.args.self.now.density) c.args.lists.now.items _ c.in_ok-layer_infill.field-0 (omega (arith, ap length c.sets.ensures)) c.index-sets-number.is
    c.sets.ensures c.requires.before c.in_ok-layer_infill.ensures c.in_ok-push.ensures.items
