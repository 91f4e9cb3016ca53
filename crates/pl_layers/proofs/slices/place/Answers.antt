use Rattle.std.proofs.Common.{◌∙◌}
use Rattle.pl_layers.proofs.Points.{layer_sampled, sample_near, box_is, corner_is}
use Rattle.pl_layers.proofs.slices.place.Goals as goal

pub sample-requires-clause-k : goal.sample-requires-clause-k
sample-requires-clause-k c = (layer_sampled c.args.heights c.args.mesh.now c.args.k c.requires.mesh c.requires.heights c.requires.k).few

pub sum-requires-3-clause-b : goal.sum-requires-3-clause-b
sum-requires-3-clause-b c = sample_near c.args.heights c.args.mesh.now c.args.k c.sample.result.0 c.requires.mesh c.requires.heights c.requires.k c.sample.ensures

pub returns-clause-bounds : goal.returns-clause-bounds
returns-clause-bounds c = c.box_over.ensures ∙ box_is c.span_x-x.result c.span_y-y.result c.args.quarter c.args.mesh.now c.span_x-x.ensures c.span_y-y.ensures

pub returns-clause-corner : goal.returns-clause-corner
returns-clause-corner c = corner_is c.args.quarter c.args.mesh.now c.args.heights c.args.k c.span_x-x.result c.span_y-y.result c.span-z.result c.sample.result.0 _ c.span_x-x.ensures c.span_y-y.ensures c.span-z.ensures c.sum.ensures c.sum-2.ensures c.sum-3.ensures c.sample.ensures
