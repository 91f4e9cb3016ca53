use Rattle.pl_layers.proofs.Sweeping.{unbegun}
use Rattle.pl_layers.proofs.sweep.first_layer.Goals as goal

pub returns : goal.returns
returns c = λ k less. unbegun _ c.lowest.result.0 c.args.facet.now c.lowest.ensures.value (c.layers_to.ensures k less)
