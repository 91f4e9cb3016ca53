use Rattle.std.proofs.Common.{◌≡◌, List, subst, sym, ◌∙◌, arith}
use Rattle.std.specs.List.{AllPairs}
use Rattle.pl_grid.specs.Planes.{Cells}
use Rattle.pl_fill.specs.Surfaces.{HaveEqualBoxes}
use Rattle.pl_batches.proofs.tests.rows.Goals as goal

pub returns-clause-pairs : goal.returns-clause-pairs
returns-clause-pairs c =
    subst (λ (ps : List Cells). AllPairs (λ p q. p.bounds ≡ q.bounds) ps) (sym c.of.ensures) (λ i j d before less. c.loop-k.invariant.boxes i d (omega (arith, before, less)) ∙ sym (c.loop-k.invariant.boxes j d less))

pub returns-clause-boxes : goal.returns-clause-boxes
returns-clause-boxes c =
    subst (λ (ps : List Cells). HaveEqualBoxes ps ps) (sym c.of.ensures) (λ i d less j e fewer. c.loop-k.invariant.boxes i d less ∙ sym (c.loop-k.invariant.boxes j e fewer))
