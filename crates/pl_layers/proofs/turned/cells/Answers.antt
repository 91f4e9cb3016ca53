use Rattle.std.proofs.Common.{◌∙◌}
use Rattle.pl_layers.proofs.Points.{box_is}
use Rattle.pl_layers.proofs.turned.cells.Goals as goal

pub returns : goal.returns
returns c = c.box_over.ensures ∙ box_is c.span_x.result c.span_y.result c.args.quarter c.args.mesh.now c.span_x.ensures c.span_y.ensures
