use Rattle.std.proofs.Common.{◌≡◌, take}
use Rattle.std.specs.List.{list_any}
use Rattle.pl_grid.specs.Planes.{plane_of}
use Rattle.pl_values.specs.PrintValues.{bed}
use Rattle.pl_prints.specs.Footprints.{covers}
use Rattle.pl_prints.proofs.footing.footing_plane.Given as goal

abbrev pub invariant-loop-footprint : goal.invariant-loop-footprint
invariant-loop-footprint l = l.plane ≡ plane_of bed (λ x y. list_any (λ f. covers f x y) (take l.footprint-index l.footprints))
