-- Which results are kept when a job is made.
use Rattle.std.specs.Prelude.{◌≡◌, ℕ, ◌<◌, List, Option, Some}
use Rattle.pl_options.specs.KeyMap.{KeyMap}
use Rattle.pl_tech.specs.Kept.{kept_at}
use Rattle.pl_model.specs.declared.object.Object.{Object}
use Rattle.pl_model.specs.Contents.{Contents}
use Rattle.pl_model.specs.Places.{place_in}
use Rattle.pl_cascade.specs.Slots.{object_slot}
use Rattle.pl_slots.specs.declared.output.FffOutput.{FffOutput}
use Rattle.pl_slots.specs.ObjectSteps.{object_value}

-- the result of a step of the object at a place is kept
abbrev pub IsKept : List (Option FffOutput) → KeyMap → Object → ℕ → ℕ → Type 0
IsKept kept config object place step = kept_at kept (object_slot place step) ≡ Some (object_value config object step)

-- the results of a step of all objects of a plate are
abbrev pub AreKept : List (Option FffOutput) → Contents → ℕ → Type 0
AreKept kept plate step = (place : ℕ) (object : Object) → place < 16 → place_in plate.places place ≡ Some object → IsKept kept plate.config object place step
