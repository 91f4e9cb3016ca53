use Rattle.pl_layers.proofs.Samples.{exact_at}
use Rattle.pl_layers.proofs.Sweeping.{above_floor}
use Rattle.pl_layers.proofs.sweep.layers_to.Goals as goal

pub returns : goal.returns
returns c = λ k less. above_floor c.args.heights c.args.floor.now.0 c.args.low.now.0 c.height_over.result k c.height_over.ensures.value ((exact_at c.args.heights c.size_of.result c.size_of-2.result c.height_over.result k c.layers_below.result c.size_of.ensures c.size_of-2.ensures (c.layers_below.ensures.exact k)).0 less)
