use Rattle.std.proofs.Common.{◌≡◌, pos, length}
use Rattle.std.specs.List.{All}
use Rattle.pl_batches.proofs.tests.rows.Given as goal

abbrev pub invariant-loop-k : goal.invariant-loop-k
invariant-loop-k l = record {
  long : length l.planes.items ≡ l.k;
  boxes : All (λ p. p.bounds ≡ record { x0 = pos 0; y0 = pos 0; cols = 3; rows = 1 }) l.planes.items;
}
