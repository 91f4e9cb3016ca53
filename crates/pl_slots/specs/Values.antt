-- The results of the slots of a plate.
use Rattle.std.specs.Prelude.{ℕ, ◌==◌, if◌then◌else◌, [], take}
use Rattle.std.specs.Option.{option_map_or}
use Rattle.pl_keys.specs.Steps as steps
use Rattle.pl_model.specs.Contents.{Contents}
use Rattle.pl_model.specs.Places.{place_in}
use Rattle.pl_cascade.specs.Slots.{is_object_slot, place_of, step_of}
use Rattle.pl_values.specs.PrintValues.{heights_of, tools_of, skirt_for, brim_for, blocks_of}
use Rattle.pl_values.specs.Whole.{plate_gcode}
use Rattle.pl_slots.specs.declared.output.TowerSet.{TowerSet}
use Rattle.pl_slots.specs.declared.output.FffOutput.{FffOutput}
use Rattle.pl_slots.specs.declared.output.FffOutput.TheVariants.{Tower, Loops, Gcode}
use Rattle.pl_slots.specs.ObjectSteps.{object_value}

-- the plate with its places 0 to 15 alone; a plate has no others
abbrev pub sixteen : Contents → Contents
sixteen plate = record plate { places = take 16 plate.places }

-- the heights of a plate, their tools, and the strokes of each of the four changes that a height can have
abbrev pub tower_for : Contents → TowerSet
tower_for plate = record { heights = heights_of plate; tools = tools_of plate; blocks = blocks_of plate }

-- the result of a step of the print
abbrev pub print_value : Contents → ℕ → FffOutput
print_value plate step =
    if step == steps.tower then Tower (tower_for plate)
    else if step == steps.skirt then Loops (skirt_for plate)
    else if step == steps.brim then Loops (brim_for plate)
    else if step == steps.export then Gcode (plate_gcode plate)
    else Gcode []

-- the result of a slot, and nothing where there is no object or no such slot
abbrev pub slot_value : Contents → ℕ → FffOutput
slot_value plate slot =
    if is_object_slot slot
    then option_map_or (λ object. object_value plate.config object (step_of slot)) (place_in plate.places (place_of slot)) (Gcode [])
    else print_value (sixteen plate) (step_of slot)
