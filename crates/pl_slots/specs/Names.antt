-- What slots are called.
use Rattle.std.specs.Prelude.{ℕ, ◌==◌, List, [], ◌++◌, if◌then◌else◌, codes}
use Rattle.std.specs.Fmt.{decimal}
use Rattle.pl_keys.specs.Steps as steps
use Rattle.pl_cascade.specs.Slots.{is_object_slot, place_of, step_of}

abbrev pub step_name : ℕ → List ℕ
step_name step =
    if step == steps.slice then codes "slice"
    else if step == steps.perimeters then codes "perimeters"
    else if step == steps.prepare then codes "prepare"
    else if step == steps.infill then codes "infill"
    else if step == steps.ironing then codes "ironing"
    else if step == steps.support then codes "support"
    else if step == steps.tower then codes "tower"
    else if step == steps.skirt then codes "skirt"
    else if step == steps.brim then codes "brim"
    else if step == steps.export then codes "export"
    else []

-- a step of an object by its place and its name, as 0.slice, and a step of the print by its name alone
abbrev pub slot_name : ℕ → List ℕ
slot_name slot = if is_object_slot slot then decimal (place_of slot) ++ (codes "." ++ step_name (step_of slot)) else step_name (step_of slot)
