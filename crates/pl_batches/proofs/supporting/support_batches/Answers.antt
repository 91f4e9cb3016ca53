use Rattle.std.proofs.Common.{◌≡◌, true, List, IfOk, subst}
use Rattle.pl_grid.specs.Planes.{Cells}
use Rattle.pl_tech.specs.Ran.{MatchRan}
use Rattle.pl_batches.proofs.Passing.{no_support}
use Rattle.pl_batches.proofs.supporting.support_batches.Goals as goal

pub returns-then-not-on-clause-cells : goal.returns-then-not-on-clause-cells
returns-then-not-on-clause-cells g c =
    subst (λ (cells : List Cells). IfOk c.unsupported.result (λ r. MatchRan r (λ o. o.cells ≡ cells) (g.P.Probe.raised c.unsupported.new.probe ≡ true))) (no_support c.args.on c.args.plate_only c.planes-slices.result.now c.args.slices.now c.if-not-on.true c.planes-slices.ensures) c.unsupported.ensures.cells
