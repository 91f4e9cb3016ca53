-- What a plate is printed as: its heights, its tools, and what goes round all that stands on the bed.
use Rattle.std.specs.Prelude.{ℤ, ℕ, pos, ◌-ℤ◌, ◌^◌, ◌==◌, Bool, ◌&&◌, ◌||◌, List, [], length, map, filter, position, is_some, sum_by, if◌then◌else◌, Option}
use Rattle.std.specs.Int.{int_max}
use Rattle.std.specs.Ordering.{int_eq}
use Rattle.std.specs.List.{range_with_len, filter_map, flat_map, list_any}
use Rattle.std.specs.FinMap.{get}
use Rattle.pl_units.specs.declared.Nm.{Nm}
use Rattle.pl_keys.specs.declared.key.Key.{Key}
use Rattle.pl_keys.specs.declared.key.Key.TheVariants as key
use Rattle.pl_options.specs.KeyMap.{KeyMap}
use Rattle.pl_grid.specs.Extent.{Extent}
use Rattle.pl_grid.specs.Planes.{Cells, filled, plane_of}
use Rattle.pl_grid.specs.declared.stroke.Corner.{Corner}
use Rattle.pl_grid.specs.declared.stroke.Stroke.{Stroke}
use Rattle.pl_layers.specs.Heights.{z_of}
use Rattle.pl_fill.specs.Surfaces.{layer_at}
use Rattle.pl_adhesion.specs.Skirt.{skirt_of}
use Rattle.pl_adhesion.specs.Brim.{brim_of}
use Rattle.pl_tower.specs.Heights.{tools_along}
use Rattle.pl_tower.specs.Tower.{block_of}
use Rattle.pl_gcode.specs.SettingsOf.{whole_in}
use Rattle.pl_model.specs.declared.object.Object.{Object}
use Rattle.pl_model.specs.Places.{place_in}
use Rattle.pl_model.specs.Contents.{Contents}
use Rattle.pl_model.specs.Problem.{heights_for, cell_of, length_in}
use Rattle.pl_values.specs.Options.{flag_in, cells_in}
use Rattle.pl_values.specs.ObjectValues.{layers_for, slices_for, supports_for, tool_for, corners_for}
use Rattle.pl_values.specs.Ascending.{ascending}

-- ---- objects

-- the filled places, ascending
abbrev pub places_of : Contents → List ℕ
places_of plate = filter (λ place. is_some (place_in plate.places place)) (range_with_len 0 (length plate.places))

-- the objects, in the order of their places
abbrev pub objects_of : Contents → List Object
objects_of plate = filter_map (λ place. place) plate.places

-- ---- heights

-- the tops of an object's layers
abbrev pub tops_for : KeyMap → Object → List ℤ
tops_for config object = map (z_of (heights_for config object)) (range_with_len 0 (layers_for config object))

-- the tops of all layers, ascending and each once
abbrev pub tops_of : Contents → List ℤ
tops_of plate = ascending (flat_map (tops_for plate.config) (objects_of plate))

-- the heights of the print
abbrev pub heights_of : Contents → List Nm
heights_of plate = map (λ z. record { 0 = z }) (tops_of plate)

-- the layer of an object with this top
abbrev pub layer_with_top : KeyMap → Object → ℤ → Option ℕ
layer_with_top config object z = position (λ top. int_eq top z) (tops_for config object)

-- ---- tools

-- some object of this tool has a layer with this top
abbrev pub is_used : Contents → ℤ → ℕ → Bool
is_used plate z tool = list_any (λ object. (tool_for plate.config object == tool) && is_some (layer_with_top plate.config object z)) (objects_of plate)

-- the set of the tools that pass a test, as a number
abbrev pub tool_set_of : (ℕ → Bool) → ℕ
tool_set_of test = sum_by (λ tool. if test tool then 2 ^ tool else 0) (range_with_len 0 4)

-- the tools of each height, in order
abbrev pub tools_of : Contents → List (List ℕ)
tools_of plate = tools_along 0 (map (λ z. tool_set_of (is_used plate z)) (tops_of plate))

-- ---- what stands on the bed

-- 625 columns and 525 rows of cells of 400,000 nm
abbrev pub bed : Extent
bed = record { x0 = pos 0; y0 = pos 0; cols = 625; rows = 525 }

-- the first layer or its support has the cell
abbrev pub is_at_bottom : KeyMap → Object → ℤ → ℤ → Bool
is_at_bottom config object x y = filled (layer_at (slices_for config object) 0) x y || filled (layer_at (supports_for config object) 0) x y

-- some instance has it
abbrev pub is_below : KeyMap → Object → ℤ → ℤ → Bool
is_below config object x y = list_any (λ corner. is_at_bottom config object (x -ℤ corner.x) (y -ℤ corner.y)) (corners_for object)

-- the cells of the bed on which some instance of an object stands
abbrev pub ground_of : Contents → Cells
ground_of plate = plane_of bed (λ x y. list_any (λ object. is_below plate.config object x y) (objects_of plate))

-- ---- skirt, brim and tower

abbrev pub option_length : Contents → Key → Nm
option_length plate key = length_in (get plate.config key)

abbrev pub farther : Nm → Nm → Nm
farther a b = record { 0 = int_max a.0 b.0 }

-- the skirt lies beyond the brim
abbrev pub skirt_for : Contents → List (List Corner)
skirt_for plate = skirt_of (ground_of plate) (cells_in (farther (option_length plate key.SkirtDistance) (option_length plate key.BrimWidth))) (whole_in (get plate.config key.Skirts))

abbrev pub brim_for : Contents → List (List Corner)
brim_for plate = brim_of (ground_of plate) (cells_in (option_length plate key.BrimWidth))

-- the strokes of the wipe tower at a change of tools, counted from 0 at each height
abbrev pub block_for : Contents → ℕ → List Stroke
block_for plate change =
    if flag_in (get plate.config key.WipeTower)
    then block_of (cell_of (option_length plate key.WipeTowerX)) (cell_of (option_length plate key.WipeTowerY)) (cells_in (option_length plate key.WipeTowerWidth)) change
    else []

-- the tower's strokes of each of a height's changes, of which there are at most four
abbrev pub blocks_of : Contents → List (List Stroke)
blocks_of plate = map (block_for plate) (range_with_len 0 4)
