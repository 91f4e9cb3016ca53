use Rattle.std.proofs.Common.{◌≡◌, pos}
use Rattle.std.specs.List.{All}
use Rattle.pl_support.proofs.tests.rows.Given as goal

abbrev pub invariant-loop-cells : goal.invariant-loop-cells
invariant-loop-cells l = All (λ p. p.bounds ≡ record { x0 = pos 0; y0 = pos 0; cols = 5; rows = 1 }) l.planes.items
