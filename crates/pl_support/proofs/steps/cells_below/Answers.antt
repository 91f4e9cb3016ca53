use Rattle.std.proofs.Common.{◌≡◌, IfOk, subst}
use Rattle.pl_grid.specs.Planes.{Cells}
use Rattle.pl_support.proofs.SupportLemmas.{carried_is}
use Rattle.pl_support.proofs.steps.cells_below.Goals as goal

pub returns : goal.returns
returns c = subst (λ (cells : Cells). IfOk c.carried_down.result (λ p. p ≡ cells)) (carried_is c.args.slices.now c.args.k c.args.above.now c.index-slices-k.result c.index-slices-k-2.result c.requires.boxes c.requires.layer c.requires.above c.index-slices-k.is c.index-slices-k-2.is) c.carried_down.ensures
