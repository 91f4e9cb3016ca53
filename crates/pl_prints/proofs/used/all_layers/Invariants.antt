use Rattle.std.proofs.Common.{◌≡◌, ◌≤◌, length, take, [], ◌∷◌}
use Rattle.std.specs.List.{flat_map, filter_map}
use Rattle.pl_prints.specs.Layers.{layers_in}
use Rattle.pl_prints.proofs.used.all_layers.Given as goal

abbrev pub invariant-loop-place : goal.invariant-loop-place
invariant-loop-place l = (length l.layers.items ≤ l.place-index) × (l.layers.items ≡ flat_map (λ object. layers_in l.plate.config object ∷ []) (filter_map (λ place. place) (take l.place-index l.plate.places)))
