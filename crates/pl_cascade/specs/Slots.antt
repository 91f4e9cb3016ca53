-- The slots of a plate: 6p + s for step s of the object at place p, and 96 to 99 for tower, skirt, brim and export.
use Rattle.std.specs.Prelude.{ℕ, ◌+◌, ◌*◌, ◌-◌, ◌/◌, ◌%◌, ◌==◌, nat_lt, Bool, false, ◌&&◌, ◌||◌, if◌then◌else◌, is_some, List, [], ◌∷◌}
use Rattle.std.specs.List.{list_any}
use Rattle.pl_keys.specs.Steps as steps
use Rattle.pl_model.specs.Contents.{Contents}
use Rattle.pl_model.specs.Places.{place_in}

-- the slot is a step of an object
abbrev pub is_object_slot : ℕ → Bool
is_object_slot slot = nat_lt slot 96

-- the place of that object
abbrev pub place_of : ℕ → ℕ
place_of slot = slot / 6

-- the step of a slot: 0 to 5 of an object, 6 to 9 of the print
abbrev pub step_of : ℕ → ℕ
step_of slot = if is_object_slot slot then slot % 6 else slot - 90

-- the slots of a step of the object at a place, and of a step of the print
abbrev pub object_slot : ℕ → ℕ → ℕ
object_slot place step = 6 * place + step

abbrev pub print_slot : ℕ → ℕ
print_slot step = 90 + step

abbrev pub is_one_of : List ℕ → ℕ → Bool
is_one_of list n = list_any (λ m. m == n) list

-- ---- presence

-- the object slots of filled places and all four print slots
abbrev pub is_present : Contents → ℕ → Bool
is_present plate slot = if is_object_slot slot then is_some (place_in plate.places (place_of slot)) else nat_lt slot 100

-- ---- needs

-- the steps of the same object whose results a step of an object needs
abbrev pub needs_here : ℕ → List ℕ
needs_here step =
    if step == steps.perimeters then steps.slice ∷ []
    else if step == steps.prepare then steps.slice ∷ steps.perimeters ∷ []
    else if step == steps.infill then steps.prepare ∷ []
    else if step == steps.ironing then steps.slice ∷ steps.prepare ∷ []
    else if step == steps.support then steps.slice ∷ []
    else []

-- the steps of all objects that skirt and brim need
abbrev pub needs_of_ground : List ℕ
needs_of_ground = steps.slice ∷ steps.support ∷ []

-- a print slot needs a slot, if that is present: the tower all object slots, skirt and brim all slices and supports, and the
-- export all others
abbrev pub print_needs : ℕ → ℕ → Bool
print_needs step need =
    if step == steps.tower then is_object_slot need
    else if (step == steps.skirt) || (step == steps.brim) then is_object_slot need && is_one_of needs_of_ground (step_of need)
    else if step == steps.export then nat_lt need 99
    else false

-- the slots whose results a slot needs
abbrev pub needs_slot : Contents → ℕ → ℕ → Bool
needs_slot plate slot need =
    if is_object_slot slot
    then is_object_slot need && ((place_of need == place_of slot) && is_one_of (needs_here (step_of slot)) (step_of need))
    else is_present plate need && print_needs (step_of slot) need
