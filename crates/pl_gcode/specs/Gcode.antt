-- The G-code of a print: the head, the heights and the tail.
use Rattle.std.specs.Prelude.{ℕ, zero, suc, pos, ◌+◌, ◌-ℤ◌, ◌*◌, ◌/◌, ◌==◌, Bool, true, false, nat_lt, List, [], ◌∷◌, ◌++◌, length, slice_index_or, if◌then◌else◌, codes}
use Rattle.std.specs.Fmt.{decimal}
use Rattle.std.specs.declared.option.Option.{Option}
use Rattle.std.specs.declared.option.Option.TheVariants.{Some, None}
use Rattle.std.specs.List.{range_with_len, flat_map, enumerate_from}
use Rattle.pl_units.specs.Decimal.{fixed}
use Rattle.pl_units.specs.Micro.{micro}
use Rattle.pl_units.specs.declared.Nm.{Nm}
use Rattle.pl_grid.specs.declared.stroke.Corner.{Corner}
use Rattle.pl_gcode.specs.Print.{Settings, Print}
use Rattle.pl_gcode.specs.Paths.{Pace, line_of, feed, stroke_path, loop_path}

-- the text ends with a line end, or is empty
abbrev pub ends_line : List ℕ → Bool
ends_line [] = true
ends_line (b ∷ []) = b == 10
ends_line (b ∷ c ∷ cs) = ends_line (c ∷ cs)

-- a text of the user's own, with a line end where it has none at its end
abbrev pub own_text : List ℕ → List ℕ
own_text text = text ++ (if ends_line text then [] else 10 ∷ [])

-- the remark, the units, and the first layer's temperatures
abbrev pub opening_lines : Settings → List ℕ
opening_lines s =
    line_of (codes "; headless plater") ++ line_of (codes "G21") ++ line_of (codes "G90") ++ line_of (codes "M83")
    ++ line_of (codes "M140 S" ++ decimal s.first_layer_bed_temperature)
    ++ line_of (codes "M104 S" ++ decimal s.first_layer_temperature)
    ++ line_of (codes "M190 S" ++ decimal s.first_layer_bed_temperature)
    ++ line_of (codes "M109 S" ++ decimal s.first_layer_temperature)

abbrev pub head_text : Settings → List ℕ
head_text s = opening_lines s ++ own_text s.start_gcode

-- nozzle and bed off
abbrev pub closing_lines : List ℕ
closing_lines = line_of (codes "M104 S0") ++ line_of (codes "M140 S0")

abbrev pub tail_text : Settings → List ℕ
tail_text s = own_text s.end_gcode ++ closing_lines

abbrev pub perimeter_pace : Settings → Nm → Pace
perimeter_pace s height = record { speed = s.perimeter_speed; height = height; percent = s.extrusion_multiplier }

abbrev pub infill_pace : Settings → Nm → Pace
infill_pace s height = record { speed = s.infill_speed; height = height; percent = s.extrusion_multiplier }

-- ironing takes 15 percent of the extrusion
abbrev pub ironing_pace : Settings → Nm → Pace
ironing_pace s height = record { speed = s.infill_speed; height = height; percent = s.extrusion_multiplier * 15 / 100 }

-- what an object prints at layer k, moved to one of its instances
abbrev pub layer_text : Print → ℕ → ℕ → Corner → List ℕ
layer_text p place k by =
    let s = p.settings in
    let height = p.layer_height place k in
    flat_map (loop_path s (perimeter_pace s height) by) (p.loops place k)
    ++ flat_map (stroke_path s (infill_pace s height) by) (p.infill place k)
    ++ flat_map (stroke_path s (ironing_pace s height) by) (p.ironing place k)
    ++ flat_map (stroke_path s (infill_pace s height) by) (p.support place k)

-- the remark before the instance of number i of an object
abbrev pub name_line : ℕ → ℕ → List ℕ
name_line place i = line_of (codes ";OBJECT " ++ decimal place ++ codes " " ++ decimal i)

-- the instance of number i of an object at layer k
abbrev pub instance_text : Print → ℕ → ℕ → ℕ × Corner → List ℕ
instance_text p place k (i, by) = name_line place i ++ layer_text p place k by

abbrev pub object_text : Print → ℕ → Option ℕ → List ℕ
object_text p place None = []
object_text p place (Some k) = flat_map (instance_text p place k) (enumerate_from 0 (p.instances place))

abbrev pub origin : Corner
origin = record { x = pos 0; y = pos 0 }

abbrev pub height_at : Print → ℕ → Nm
height_at p i = slice_index_or p.heights i (record { 0 = pos 0 })

-- from the height before to this one, and from the bed to the first
abbrev pub gap : Print → ℕ → Nm
gap p zero = height_at p 0
gap p (suc i) = record { 0 = (height_at p (suc i)).0 -ℤ (height_at p i).0 }

-- the skirt at height i, and the brim at the first
abbrev pub skirt_text : Print → ℕ → List ℕ
skirt_text p i = if nat_lt i p.settings.skirt_height then flat_map (loop_path p.settings (perimeter_pace p.settings (gap p i)) origin) p.skirt else []

abbrev pub brim_text : Print → ℕ → List ℕ
brim_text p i = if i == 0 then flat_map (loop_path p.settings (perimeter_pace p.settings (gap p i)) origin) p.brim else []

abbrev pub around_text : Print → ℕ → List ℕ
around_text p i = skirt_text p i ++ brim_text p i

-- what the object of a place has at height i, where it has this tool
abbrev pub place_text : Print → ℕ → ℕ → ℕ → List ℕ
place_text p i tool place = if p.tool place == tool then object_text p place (p.layer_at place i) else []

-- what the objects of a tool have at height i
abbrev pub tool_text : Print → ℕ → ℕ → List ℕ
tool_text p i tool = flat_map (place_text p i tool) p.places

abbrev pub tool_line : ℕ → List ℕ
tool_line tool = line_of (codes "T" ++ decimal tool)

-- a change to a tool at height i: its number, and the tower's strokes of this change
abbrev pub change_text : Print → ℕ → ℕ → ℕ → List ℕ
change_text p i tool change = tool_line tool ++ flat_map (stroke_path p.settings (infill_pace p.settings (gap p i)) origin) (p.block i change)

abbrev pub change_before : Print → ℕ → ℕ → ℕ → ℕ → List ℕ
change_before p i current changes tool = if tool == current then [] else change_text p i tool changes

abbrev pub around_first : Print → ℕ → Bool → List ℕ
around_first p i first = if first then around_text p i else []

-- the number of changes with a tool counted in, where the current one is another
abbrev pub counted : ℕ → ℕ → ℕ → ℕ
counted current changes tool = if tool == current then changes else changes + 1

-- one tool of height i, on from the current one and the number of changes before; `first` for the first of them
abbrev pub turn_text : Print → ℕ → ℕ → ℕ → Bool → ℕ → List ℕ
turn_text p i current changes first tool = change_before p i current changes tool ++ around_first p i first ++ tool_text p i tool

-- the tools of height i, on from the current one and the number of changes before; `first` before the first of them
abbrev pub tools_text : Print → ℕ → ℕ → ℕ → Bool → List ℕ → List ℕ
tools_text p i current changes first [] = []
tools_text p i current changes first (tool ∷ tools) = turn_text p i current changes first tool ++ tools_text p i tool (counted current changes tool) false tools

-- how many of the tools differ from the one before them
abbrev pub changes_from : ℕ → List ℕ → ℕ
changes_from current [] = 0
changes_from current (tool ∷ tools) = counted current (changes_from tool tools) tool

abbrev pub last_tool : ℕ → List ℕ → ℕ
last_tool current [] = current
last_tool current (tool ∷ tools) = last_tool tool tools

-- the tool before height i
abbrev pub tool_before : Print → ℕ → ℕ
tool_before p zero = 0
tool_before p (suc i) = last_tool (tool_before p i) (p.tools i)

-- how many changes of tools height i has
abbrev pub changes_at : Print → ℕ → ℕ
changes_at p i = changes_from (tool_before p i) (p.tools i)

-- from the second height on the temperatures are those of the other layers
abbrev pub temperatures_text : Settings → ℕ → List ℕ
temperatures_text s i = if i == 1 then line_of (codes "M140 S" ++ decimal s.bed_temperature) ++ line_of (codes "M104 S" ++ decimal s.temperature) else []

-- the remark of a height, and the move up to it
abbrev pub rise_text : Settings → Nm → List ℕ
rise_text s height =
    let z = fixed (micro height.0) 3 in
    line_of (codes ";Z " ++ z) ++ line_of (codes "G1 Z" ++ z ++ codes " " ++ feed s.travel_speed)

abbrev pub height_text : Print → ℕ → List ℕ
height_text p i = rise_text p.settings (height_at p i) ++ temperatures_text p.settings i ++ tools_text p i (tool_before p i) 0 true (p.tools i)

-- the G-code of a print
abbrev pub gcode_of : Print → List ℕ
gcode_of p = head_text p.settings ++ flat_map (height_text p) (range_with_len 0 (length p.heights)) ++ tail_text p.settings
