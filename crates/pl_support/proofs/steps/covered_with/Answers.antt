use Rattle.std.proofs.Common.{◌≡◌, IfOk, subst}
use Rattle.pl_grid.specs.Planes.{Cells}
use Rattle.pl_support.proofs.SupportLemmas.{boxes_of_covered, covered_is}
use Rattle.pl_support.proofs.steps.covered_with.Goals as goal

pub union-requires : goal.union-requires
union-requires c = boxes_of_covered c.args.slices.now c.args.k c.args.covered.now c.index-slices-k.result c.requires.boxes c.requires.layer c.requires.covered c.index-slices-k.is

pub returns : goal.returns
returns c = subst (λ (cells : Cells). IfOk c.union.result (λ p. p ≡ cells)) (covered_is c.args.slices.now c.args.k c.args.covered.now c.index-slices-k.result c.requires.layer c.requires.covered c.index-slices-k.is) c.union.ensures
