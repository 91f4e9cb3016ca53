use Rattle.std.proofs.Common.{◌≡◌, ◌||◌, take}
use Rattle.std.specs.List.{list_any}
use Rattle.pl_grid.specs.Planes.{filled, plane_of}
use Rattle.pl_values.specs.PrintValues.{bed}
use Rattle.pl_prints.specs.Footprints.{stands_at}
use Rattle.pl_prints.proofs.footing.Footprint.put.Given as goal

abbrev pub invariant-loop-shift : goal.invariant-loop-shift
invariant-loop-shift l = l.floor ≡ plane_of bed (λ x y. filled l.initial.floor x y || list_any (λ shift. stands_at l.self shift x y) (take l.shift-index l.self.instances))
