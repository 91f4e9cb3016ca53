use Rattle.std.proofs.Common.{◌≡◌, length, pos}
use Rattle.std.specs.List.{All}
use Rattle.pl_fill.proofs.tests.ten_full_layers.Given as goal

abbrev pub invariant-loop-layer : goal.invariant-loop-layer
invariant-loop-layer l = record {
  count : length l.planes.items ≡ l._layer;
  boxes : All (λ p. p.bounds ≡ record { x0 = pos 0; y0 = pos 0; cols = 5; rows = 5 }) l.planes.items;
}
