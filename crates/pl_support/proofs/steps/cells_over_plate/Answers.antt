use Rattle.std.proofs.Common.{◌≡◌, IfOk, subst}
use Rattle.pl_grid.specs.Planes.{Cells}
use Rattle.pl_support.proofs.SupportLemmas.{over_plate_is}
use Rattle.pl_support.proofs.steps.cells_over_plate.Goals as goal

pub returns : goal.returns
returns c = subst (λ (cells : Cells). IfOk c.minus.result (λ p. p ≡ cells)) (over_plate_is c.args.slices.now c.args.k c.args.cells.now c.args.covered.now c.requires.boxes c.requires.layer c.requires.cells c.requires.covered) c.minus.ensures
