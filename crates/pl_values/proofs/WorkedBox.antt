-- The plate with one box of 0.8 by 0.8 by 0.4 mm, without perimeters and skirt, filled wholly: from its facets to its G-code.
use Rattle.std.proofs.Common.{negsuc, ◌-ℤ◌, ◌&&◌, ◌||◌, true, ◌≡◌, ℤ, ℕ, zero, suc, pos, ◌-◌, ◌==◌, false, Bool, List, [], ◌∷◌, ◌++◌, map, Option, Some, None, refl, ap, ◌∙◌}
use Rattle.std.specs.Prelude.{replicate, position, is_some, slice_index_or, if◌then◌else◌, codes}
use Rattle.std.specs.FinMap.{get, find, from_entries, get-empty, get-from_entries}
use Rattle.std.specs.Fmt.{digits}
use Rattle.std.specs.List.{range_with_len, flat_map, list_any}
use Rattle.std.specs.Option.{option_or, option_map_or}
use Rattle.std.specs.Ordering.{int_eq}
use Rattle.pl_stl.specs.declared.mesh.Point3.{Point3}
use Rattle.pl_stl.specs.declared.mesh.Facet.{Facet}
use Rattle.pl_keys.specs.declared.key.Key.{Key}
use Rattle.pl_keys.specs.declared.key.Key.TheVariants as key
use Rattle.pl_keys.specs.declared.value.Value.{Value}
use Rattle.pl_keys.specs.declared.value.Value.TheVariants.{Whole}
use Rattle.pl_keys.specs.Keys.{keys}
use Rattle.pl_keys.specs.Values.{default_of}
use Rattle.pl_options.specs.KeyMap.{KeyMap, key_cmp}
use Rattle.pl_options.proofs.KeyMaps.{key_cmp_total}
use Rattle.pl_grid.specs.Planes.{Cells, plane_of, cells_of, filled, is_inside}
use Rattle.pl_grid.proofs.PlaneLemmas.{filled-plane_of}
use Rattle.pl_grid.specs.Strokes.{strokes_of}
use Rattle.pl_grid.specs.declared.stroke.Stroke.{Stroke}
use Rattle.pl_layers.specs.declared.heights.Heights.{Heights}
use Rattle.pl_layers.specs.Heights.{z_of, layer_count_of, layer_height_of}
use Rattle.pl_layers.specs.Slices.{slice_of}
use Rattle.pl_rings.specs.Rings.{eroded_times, rings_of}
use Rattle.pl_rings.specs.Sides.{loops_of}
use Rattle.pl_fill.specs.Surfaces.{layer_at, solid_of, sparse_of}
use Rattle.pl_fill.specs.Layers.{layer_axis, infill_of}
use Rattle.pl_support.specs.Support.{support_of}
use Rattle.pl_adhesion.specs.Brim.{brim_of}
use Rattle.pl_adhesion.specs.Reach.{has_cell}
use Rattle.pl_adhesion.specs.Skirt.{skirt_of}
use Rattle.pl_tower.specs.Heights.{tools_along}
use Rattle.pl_tower.specs.Tools.{members}
use Rattle.pl_tower.specs.Tower.{block_of}
use Rattle.pl_gcode.specs.Gcode.{gcode_of}
use Rattle.pl_gcode.specs.Print.{Settings, Print}
use Rattle.pl_gcode.specs.SettingsOf.{settings_of, whole_in, words_in}
use Rattle.pl_model.specs.declared.object.Object.{Object}
use Rattle.pl_model.specs.Contents.{Contents, fresh}
use Rattle.pl_model.specs.Effective.{value_for}
use Rattle.pl_model.specs.Problem.{heights_for, cell_of, length_in}
use Rattle.pl_values.specs.Ascending.{ascending}
use Rattle.pl_values.specs.ObjectValues.{layers_for, slices_for, loops_for, infill_for, ironing_for, support_for, loop_lists_for, infill_lists_for, ironing_lists_for, support_lists_for, top_for, tool_for, corners_for}
use Rattle.pl_values.specs.Options.{whole_for, flag_for, flag_in, cells_in}
use Rattle.pl_values.specs.PrintValues.{tops_for, tops_of, tools_of, tool_set_of, layer_with_top, option_length, farther, ground_of, skirt_for, brim_for, block_for, bed, is_below}
use Rattle.pl_values.specs.Whole.{of_place, print_of, plate_gcode}

-- ---- the plate

abbrev point : ℕ → ℕ → ℕ → Point3
point x y z = record { x = record { 0 = pos x }; y = record { 0 = pos y }; z = record { 0 = pos z } }

abbrev mesh : List Facet
mesh =
    record { a = point 0 0 0; b = point 0 800000 0; c = point 800000 0 0 } ∷
    record { a = point 800000 0 0; b = point 0 800000 0; c = point 800000 800000 0 } ∷
    record { a = point 0 0 400000; b = point 800000 0 400000; c = point 0 800000 400000 } ∷
    record { a = point 800000 0 400000; b = point 800000 800000 400000; c = point 0 800000 400000 } ∷
    record { a = point 0 0 0; b = point 800000 0 0; c = point 0 0 400000 } ∷
    record { a = point 800000 0 0; b = point 800000 0 400000; c = point 0 0 400000 } ∷
    record { a = point 0 800000 0; b = point 0 800000 400000; c = point 800000 800000 0 } ∷
    record { a = point 800000 800000 0; b = point 0 800000 400000; c = point 800000 800000 400000 } ∷
    record { a = point 0 0 0; b = point 0 0 400000; c = point 0 800000 0 } ∷
    record { a = point 0 800000 0; b = point 0 0 400000; c = point 0 800000 400000 } ∷
    record { a = point 800000 0 0; b = point 800000 800000 0; c = point 800000 0 400000 } ∷
    record { a = point 800000 800000 0; b = point 800000 800000 400000; c = point 800000 0 400000 } ∷ []

abbrev pub entries : List (Key × Value)
entries = (key.Perimeters, Whole (pos 0)) ∷ (key.FillDensity, Whole (pos 100)) ∷ (key.Skirts, Whole (pos 0)) ∷ map (λ key. (key, default_of key)) keys

abbrev pub config : KeyMap
config = from_entries entries

abbrev pub box : Object
box = fresh [] mesh

abbrev pub plate : Contents
plate = record { config = config; places = Some box ∷ replicate 15 None }

-- ---- its options

pub option_is : (key : Key) → get config key ≡ find key_cmp key entries
option_is key = get-from_entries key_cmp_total entries key

value_is : (key : Key) → value_for config box key ≡ find key_cmp key entries
value_is key = (λ i. option_or (get-empty key_cmp key i) (get config key)) ∙ option_is key

-- ---- its slices

abbrev heights : Heights
heights = record { first = record { 0 = pos 200000 }; height = record { 0 = pos 200000 } }

full : Cells
unfolding cells_of
full = plane_of (record { x0 = pos 0; y0 = pos 0; cols = 2; rows = 2 }) (λ _ _. true)

count_is : layer_count_of heights mesh ≡ 2
count_is = refl

first_slice : slice_of mesh 0 heights 0 ≡ full
unfolding full cells_of
first_slice = refl

second_slice : slice_of mesh 0 heights 1 ≡ full
unfolding full cells_of
second_slice = refl

-- ---- what is made of it

perimeters_are : whole_for config box key.Perimeters ≡ 0
perimeters_are = ap whole_in (value_is key.Perimeters)

tops_solid : whole_for config box key.TopSolidLayers ≡ 4
tops_solid = ap whole_in (value_is key.TopSolidLayers)

bottoms_solid : whole_for config box key.BottomSolidLayers ≡ 3
bottoms_solid = ap whole_in (value_is key.BottomSolidLayers)

density_is : whole_for config box key.FillDensity ≡ 100
density_is = ap whole_in (value_is key.FillDensity)

ironing_is : flag_for config box key.Ironing ≡ false
ironing_is = ap flag_in (value_is key.Ironing)

support_is : flag_for config box key.SupportMaterial ≡ false
support_is = ap flag_in (value_is key.SupportMaterial)

over_plate_is : flag_for config box key.SupportMaterialBuildplateOnly ≡ false
over_plate_is = ap flag_in (value_is key.SupportMaterialBuildplateOnly)

tool_is : tool_for config box ≡ 0
tool_is = ap (λ value. whole_in value - 1) (value_is key.Extruder)

heights_are : heights_for config box ≡ heights
heights_are i = record { first = length_in (value_is key.FirstLayerHeight i); height = length_in (value_is key.LayerHeight i) }

layers_are : layers_for config box ≡ 2
layers_are = ap (λ h. layer_count_of h mesh) heights_are ∙ count_is

abbrev slices : List Cells
slices = full ∷ full ∷ []

slices_are : slices_for config box ≡ slices
slices_are = (λ i. map (slice_of mesh 0 (heights_are i)) (range_with_len 0 (layers_are i))) ∙ (λ i. first_slice i ∷ second_slice i ∷ [])

abbrev tops : List ℤ
tops = pos 200000 ∷ pos 400000 ∷ []

tops_are : tops_for config box ≡ tops
tops_are i = map (z_of (heights_are i)) (range_with_len 0 (layers_are i))

print_tops_are : tops_of plate ≡ tops
unfolding ascending
print_tops_are i = ascending (tops_are i ++ [])

-- the box of one tool is used where it has a layer
abbrev used_by : ℕ → List ℤ → ℤ → ℕ → Bool
used_by mine tops z tool = ((mine == tool) && is_some (position (λ top. int_eq top z) tops)) || false

tools_are : tools_of plate ≡ (0 ∷ []) ∷ (0 ∷ []) ∷ []
unfolding members
tools_are i = tools_along 0 (map (λ z. tool_set_of (used_by (tool_is i) (tops_are i) z)) (print_tops_are i))

abbrev infill : ℕ → List Stroke
infill k = infill_of (solid_of slices (layer_at slices k) k 4 3) (sparse_of slices (layer_at slices k) k 4 3) k 100

infill_is : (k : ℕ) → infill_for config box k ≡ infill k
infill_is k i =
    infill_of
    (solid_of (slices_are i) (eroded_times (perimeters_are i) (layer_at (slices_are i) k)) k (tops_solid i) (bottoms_solid i))
    (sparse_of (slices_are i) (eroded_times (perimeters_are i) (layer_at (slices_are i) k)) k (tops_solid i) (bottoms_solid i))
    k (density_is i)

abbrev support : ℕ → List Stroke
support k = strokes_of (layer_axis k) 2 (layer_at (support_of false false slices) k)

support_strokes_are : (k : ℕ) → support_for config box k ≡ support k
support_strokes_are k i = strokes_of (layer_axis k) 2 (layer_at (support_of (support_is i) (over_plate_is i) (slices_are i)) k)

no_ironing : (k : ℕ) → ironing_for config box k ≡ []
no_ironing k i = if ironing_is i then strokes_of (layer_axis k) 1 (top_for config box k) else []

no_loops : (k : ℕ) → loops_for config box k ≡ []
no_loops k i = flat_map loops_of (rings_of (perimeters_are i) (layer_at (slices_for config box) k))

no_block : (change : ℕ) → block_for plate change ≡ []
no_block change i =
    if flag_in (option_is key.WipeTower i)
    then block_of (cell_of (option_length plate key.WipeTowerX)) (cell_of (option_length plate key.WipeTowerY)) (cells_in (option_length plate key.WipeTowerWidth)) change
    else []

either_way : {X : Type 0} (b : Bool) (x : X) → (if b then x else x) ≡ x
either_way true x = refl
either_way false x = refl

no_skirt : skirt_for plate ≡ []
no_skirt =
    ap (skirt_of (ground_of plate) (cells_in (farther (option_length plate key.SkirtDistance) (option_length plate key.BrimWidth)))) (ap whole_in (option_is key.Skirts))
    ∙ either_way (has_cell (ground_of plate)) []

no_brim : brim_for plate ≡ []
no_brim = ap (λ value. brim_of (ground_of plate) (cells_in (length_in value))) (option_is key.BrimWidth)

-- ---- its print

-- a value at the place 0, and another one at each other place
abbrev at_first : {X : Type 0} → X → X → ℕ → X
at_first value nothing zero = value
at_first value nothing (suc place) = nothing

none_beyond : (m n : ℕ) → slice_index_or {A = Option Object} (replicate m None) n None ≡ None
none_beyond zero n = refl
none_beyond (suc m) zero = refl
none_beyond (suc m) (suc n) = none_beyond m n

at_place : {X : Type 0} (nothing : X) (value : Object → X) (is : X) → value box ≡ is → (place : ℕ) → of_place plate place nothing value ≡ at_first is nothing place
at_place nothing value is e zero = e
at_place nothing value is e (suc place) = ap (λ there. option_map_or value there nothing) (none_beyond 15 place)

abbrev settings : Settings
settings = record {
  perimeter_speed = 45;
  infill_speed = 80;
  travel_speed = 130;
  temperature = 210;
  first_layer_temperature = 215;
  bed_temperature = 60;
  first_layer_bed_temperature = 60;
  filament_diameter = record { 0 = pos 1750000 };
  extrusion_multiplier = 100;
  skirt_height = 1;
  start_gcode = [];
  end_gcode = [];
}

settings_are : settings_of config ≡ settings
settings_are i = record {
  perimeter_speed = whole_in (option_is key.PerimeterSpeed i);
  infill_speed = whole_in (option_is key.InfillSpeed i);
  travel_speed = whole_in (option_is key.TravelSpeed i);
  temperature = whole_in (option_is key.Temperature i);
  first_layer_temperature = whole_in (option_is key.FirstLayerTemperature i);
  bed_temperature = whole_in (option_is key.BedTemperature i);
  first_layer_bed_temperature = whole_in (option_is key.FirstLayerBedTemperature i);
  filament_diameter = length_in (option_is key.FilamentDiameter i);
  extrusion_multiplier = whole_in (option_is key.ExtrusionMultiplier i);
  skirt_height = whole_in (option_is key.SkirtHeight i);
  start_gcode = words_in (option_is key.StartGcode i);
  end_gcode = words_in (option_is key.EndGcode i);
}

abbrev layer_at_height_by : List ℤ → List ℤ → ℕ → Option ℕ
layer_at_height_by all mine i = position (λ top. int_eq top (slice_index_or all i (pos 0))) mine

-- of each of its two layers, and of each change of tools
abbrev of_each : {X : Type 0} → ℕ → (ℕ → List X) → ℕ → List X
of_each count each k = slice_index_or (map each (range_with_len 0 count)) k []

of_layers : {X : Type 0} (value each : ℕ → List X) → ((k : ℕ) → value k ≡ each k) → (k : ℕ) → of_each (layers_for config box) value k ≡ of_each 2 each k
of_layers value each same k i = of_each (layers_are i) (λ n. same n i) k

abbrev print : Print
print = record {
  settings = settings;
  heights = map (λ z. record { 0 = z }) tops;
  tools = λ i. slice_index_or ((0 ∷ []) ∷ (0 ∷ []) ∷ []) i [];
  block = λ i change. of_each 4 (λ _. []) change;
  skirt = [];
  brim = [];
  places = 0 ∷ [];
  tool = at_first 0 0;
  instances = at_first (record { x = pos 0; y = pos 0 } ∷ []) [];
  layers = at_first 2 0;
  layer_at = λ place i. at_first (layer_at_height_by tops tops i) None place;
  layer_height = λ place k. at_first (layer_height_of heights k) (record { 0 = pos 0 }) place;
  loops = λ place k. at_first (of_each 2 (λ _. []) k) [] place;
  infill = λ place k. at_first (of_each 2 infill k) [] place;
  ironing = λ place k. at_first (of_each 2 (λ _. []) k) [] place;
  support = λ place k. at_first (of_each 2 support k) [] place;
}

print_is : print_of plate ≡ print
print_is i = record {
  settings = settings_are i;
  heights = map (λ z. record { 0 = z }) (print_tops_are i);
  tools = λ j. slice_index_or (tools_are i) j [];
  block = λ j change. of_each 4 (λ n. no_block n i) change;
  skirt = no_skirt i;
  brim = no_brim i;
  places = 0 ∷ [];
  tool = λ place. at_place 0 (tool_for config) 0 tool_is place i;
  instances = λ place. at_place [] corners_for (record { x = pos 0; y = pos 0 } ∷ []) refl place i;
  layers = λ place. at_place 0 (layers_for config) 2 layers_are place i;
  layer_at = λ place j. at_place None (λ object. layer_with_top config object (slice_index_or (tops_of plate) j (pos 0))) (layer_at_height_by tops tops j) (λ h. layer_at_height_by (print_tops_are h) (tops_are h) j) place i;
  layer_height = λ place k. at_place (record { 0 = pos 0 }) (λ object. layer_height_of (heights_for config object) k) (layer_height_of heights k) (λ h. layer_height_of (heights_are h) k) place i;
  loops = λ place k. at_place [] (λ object. slice_index_or (loop_lists_for config object) k []) (of_each 2 (λ _. []) k) (of_layers (loops_for config box) (λ _. []) no_loops k) place i;
  infill = λ place k. at_place [] (λ object. slice_index_or (infill_lists_for config object) k []) (of_each 2 infill k) (of_layers (infill_for config box) infill infill_is k) place i;
  ironing = λ place k. at_place [] (λ object. slice_index_or (ironing_lists_for config object) k []) (of_each 2 (λ _. []) k) (of_layers (ironing_for config box) (λ _. []) no_ironing k) place i;
  support = λ place k. at_place [] (λ object. slice_index_or (support_lists_for config object) k []) (of_each 2 support k) (of_layers (support_for config box) support support_strokes_are k) place i;
}

-- ---- its G-code

abbrev text : List ℕ
text = codes "; headless plater\nG21\nG90\nM83\nM140 S60\nM104 S215\nM190 S60\nM109 S215\n;Z 0.200\nG1 Z0.200 F7800\n;OBJECT 0 0\nG1 X0.000 Y0.200 F7800\nG1 F4800\nG1 X0.800 Y0.200 E0.02660\nG1 X0.800 Y0.600 F7800\nG1 F4800\nG1 X0.000 Y0.600 E0.02660\n;Z 0.400\nG1 Z0.400 F7800\nM140 S60\nM104 S210\n;OBJECT 0 0\nG1 X0.200 Y0.000 F7800\nG1 F4800\nG1 X0.200 Y0.800 E0.02660\nG1 X0.600 Y0.800 F7800\nG1 F4800\nG1 X0.600 Y0.000 E0.02660\nM104 S0\nM140 S0\n"

text_is : gcode_of print ≡ text
unfolding full cells_of digits
text_is = refl

pub box_gcode : plate_gcode plate ≡ text
box_gcode = ap gcode_of print_is ∙ text_is

-- ---- its ground

abbrev stands_by : Bool → Bool → List Cells → ℤ → ℤ → Bool
stands_by on plate_only slices x y =
    list_any (λ corner. filled (layer_at slices 0) (x -ℤ corner.x) (y -ℤ corner.y) || filled (layer_at (support_of on plate_only slices) 0) (x -ℤ corner.x) (y -ℤ corner.y)) (corners_for box) || false

ground_at : (x y : ℤ) → filled (ground_of plate) x y ≡ (is_inside bed x y && stands_by false false slices x y)
ground_at x y =
    filled-plane_of bed (λ x y. list_any (λ object. is_below config object x y) (box ∷ [])) x y
    ∙ (λ i. is_inside bed x y && stands_by (support_is i) (over_plate_is i) (slices_are i) x y)

-- it has the cell 1 1, and neither the one to the right of it nor the one to the left of the bed
has_corner : filled (ground_of plate) (pos 1) (pos 1) ≡ true
unfolding full cells_of
has_corner = ground_at (pos 1) (pos 1)

lacks_right : filled (ground_of plate) (pos 2) (pos 1) ≡ false
unfolding full cells_of
lacks_right = ground_at (pos 2) (pos 1)

lacks_left : filled (ground_of plate) (negsuc 0) (pos 1) ≡ false
lacks_left = ground_at (negsuc 0) (pos 1)
