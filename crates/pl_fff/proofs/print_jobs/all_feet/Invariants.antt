use Rattle.std.proofs.Common.{◌≡◌, [], ◌∷◌, take}
use Rattle.std.specs.List.{flat_map, filter_map}
use Rattle.pl_prints.specs.Footprints.{footprint_in}
use Rattle.pl_fff.proofs.print_jobs.all_feet.Given as goal

abbrev pub invariant-loop-number : goal.invariant-loop-number
invariant-loop-number l = l.feet.items ≡ flat_map (λ object. footprint_in l.plate.config object ∷ []) (filter_map (λ place. place) (take l.number l.plate.places))
