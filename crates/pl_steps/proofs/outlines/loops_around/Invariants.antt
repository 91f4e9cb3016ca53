use Rattle.std.proofs.Common.{◌≡◌, take}
use Rattle.std.specs.List.{flat_map}
use Rattle.pl_rings.specs.Sides.{loops_of}
use Rattle.pl_steps.proofs.outlines.loops_around.Given as goal

abbrev pub invariant-loop-plane : goal.invariant-loop-plane
invariant-loop-plane l = l.found.items ≡ flat_map loops_of (take l.plane-index l.planes)
