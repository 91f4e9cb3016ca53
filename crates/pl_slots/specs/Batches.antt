-- In how many batches the results of slots are computed.
use Rattle.std.specs.Prelude.{ℕ, ◌==◌, ◌||◌, length, if◌then◌else◌}
use Rattle.std.specs.Option.{option_map_or}
use Rattle.pl_keys.specs.Steps as steps
use Rattle.pl_model.specs.Contents.{Contents}
use Rattle.pl_model.specs.Places.{place_in}
use Rattle.pl_cascade.specs.Slots.{is_object_slot, place_of, step_of}
use Rattle.pl_values.specs.ObjectValues.{layers_for}
use Rattle.pl_values.specs.PrintValues.{heights_of}
use Rattle.pl_batches.specs.Batches.{batches_of}
use Rattle.pl_slots.specs.Values.{sixteen}

-- a step of the print: tower and export height by height, skirt and brim at once
abbrev pub print_batches : Contents → ℕ → ℕ
print_batches plate step =
    if (step == steps.tower) || (step == steps.export) then batches_of (length (heights_of plate))
    else if (step == steps.skirt) || (step == steps.brim) then 1
    else 0

-- a slot: a step of an object layer by layer, and none where there is no object or no such slot
abbrev pub batches : Contents → ℕ → ℕ
batches plate slot =
    if is_object_slot slot
    then option_map_or (λ object. batches_of (layers_for plate.config object)) (place_in plate.places (place_of slot)) 0
    else print_batches (sixteen plate) (step_of slot)
