use Rattle.std.proofs.Common.{◌∙◌}
use Rattle.pl_grid.proofs.PackedLemmas.{cell_at_bit}
use Rattle.pl_grid.proofs.plane.Plane.cell.Goals as goal

pub returns : goal.returns
returns c = c.bit.ensures ∙ cell_at_bit c.args.self.now c.self.inside.bounds c.self.inside.words.items c.deref.result.now c.bit_place.result c.args.column c.args.row c.self.view_is c.deref.ensures.value c.bit_place.ensures.value c.requires.column c.requires.row
