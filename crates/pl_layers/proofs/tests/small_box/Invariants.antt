use Rattle.std.proofs.Common.{◌≡◌, length}
use Rattle.std.specs.List.{All}
use Rattle.pl_stl.specs.Mesh.{IsNearFacet}
use Rattle.pl_layers.proofs.tests.small_box.Given as goal

abbrev pub invariant-loop-corners : goal.invariant-loop-corners
invariant-loop-corners l = (length l.facets.items ≡ l.corners-index) × All IsNearFacet l.facets.items
