use Rattle.std.proofs.Common.{ap, sym, ◌∙◌, w32, arith}
use Rattle.std.proofs.lemmas.Int.{to_z-of_z}
use Rattle.pl_grid.specs.Extent.{Extent}
use Rattle.pl_grid.proofs.RowCells.{alike_cells}
use Rattle.pl_grid.proofs.Setting.{row_some}
use Rattle.pl_grid.proofs.plane.Plane.alike_in_row.Goals as goal

pub returns-in-Some-clause-alike : goal.returns-in-Some-clause-alike
returns-in-Some-clause-alike c k less = alike_cells c.args.self.now c.self.inside.bounds c.self.inside.words.items c.deref.result.now c.args.y c.in-Some.row c.args.column k c.bit_place-place.result c.self.view_is c.deref.ensures.value
    (row_some c.self.inside.bounds _ c.in-Some.row (sym c.in-Some.ensures.value) ∙ to_z-of_z w32 c.args.y c.ranges.y) c.in-Some.ensures.below (omega (arith, c.alike_from.ensures.most, ap (λ (e : Extent). e.cols) c.bounds.view_is)) c.bit_place-place.ensures.value (c.alike_from.ensures.alike k less)
