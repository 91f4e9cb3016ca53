use Rattle.std.proofs.Common.{◌≡◌, take}
use Rattle.pl_grid.specs.Planes.{plane_of}
use Rattle.pl_fill.proofs.SurfaceLemmas.{kept_test}
use Rattle.pl_fill.proofs.surface.common.Given as goal

abbrev pub invariant-loop-layer : goal.invariant-loop-layer
invariant-loop-layer l = l.kept ≡ plane_of l.fn.plane.bounds (kept_test l.fn.plane (take l.layer-index l.layers))
