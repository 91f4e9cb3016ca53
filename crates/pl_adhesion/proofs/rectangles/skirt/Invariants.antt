use Rattle.std.proofs.Common.{◌+◌}
use Rattle.std.specs.List.{All}
use Rattle.pl_adhesion.specs.NearLoops.{IsNearLoop}
use Rattle.pl_adhesion.specs.Skirt.{rectangle_round}
use Rattle.pl_adhesion.proofs.Descending.{Made}
use Rattle.pl_adhesion.proofs.rectangles.skirt.Given as goal

abbrev pub invariant-loop-index : goal.invariant-loop-index
invariant-loop-index l = Made (λ j. rectangle_round (l.distance + 1 + j) l.reach) l.count l.index l.loops.items × All IsNearLoop l.loops.items
