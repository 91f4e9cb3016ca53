-- The heights of a print, and what the places of a plate give.
use Rattle.std.specs.Prelude.{ℤ, ℕ, List, [], ◌∷◌, map, Option, Some, None, is_some, if◌then◌else◌}
use Rattle.std.specs.List.{flat_map}
use Rattle.pl_units.specs.declared.Nm.{Nm}
use Rattle.pl_model.specs.declared.object.Object.{Object}
use Rattle.pl_model.specs.Places.{place_in}
use Rattle.pl_values.specs.Ascending.{ascending}
use Rattle.pl_prints.specs.Layers.{Layers, tops_in}

-- a number of nanometres as a length
abbrev pub nm_of : ℤ → Nm
nm_of z = record { 0 = z }

-- the tops of all layers, ascending and each once
abbrev pub heights_in : List Layers → List Nm
heights_in objects = map nm_of (ascending (flat_map tops_in objects))

-- the place, where it is filled
abbrev pub if_filled : List (Option Object) → ℕ → List ℕ
if_filled places place = if is_some (place_in places place) then place ∷ [] else []

-- what the object at a place gives, and nothing where there is none
abbrev pub of_object : {X : Type 0} → (Object → List X) → Option Object → List X
of_object gives None = []
of_object gives (Some object) = gives object
