use Rattle.std.proofs.Common.{subst}
use Rattle.pl_grid.specs.Planes.{Cells, IsFull}
use Rattle.pl_grid.proofs.PackedLemmas.{IsFull-packed}
use Rattle.pl_grid.proofs.plane.Plane.bounds.Goals as goal

pub returns-clause-full : goal.returns-clause-full
returns-clause-full c = subst (λ (p : Cells). IsFull p) c.self.view_is (IsFull-packed c.self.inside.bounds c.self.inside.words.items)
