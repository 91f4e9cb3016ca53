-- What an object is printed as, by its mesh, its turn and the options that hold for it.
use Rattle.std.specs.Prelude.{ℕ, ◌-◌, List, [], map, if◌then◌else◌}
use Rattle.std.specs.List.{range_with_len, flat_map}
use Rattle.pl_keys.specs.declared.key.Key.TheVariants as key
use Rattle.pl_options.specs.KeyMap.{KeyMap}
use Rattle.pl_grid.specs.Planes.{Cells}
use Rattle.pl_grid.specs.Strokes.{strokes_of}
use Rattle.pl_grid.specs.declared.stroke.Corner.{Corner}
use Rattle.pl_grid.specs.declared.stroke.Stroke.{Stroke}
use Rattle.pl_layers.specs.Heights.{layer_count_of}
use Rattle.pl_layers.specs.Slices.{slice_of}
use Rattle.pl_rings.specs.Rings.{eroded_times, rings_of}
use Rattle.pl_rings.specs.Sides.{loops_of}
use Rattle.pl_fill.specs.Surfaces.{layer_at, solid_of, sparse_of, top_of}
use Rattle.pl_fill.specs.Layers.{layer_axis, infill_of}
use Rattle.pl_support.specs.Support.{support_of}
use Rattle.pl_model.specs.declared.instances.Shift.{Shift}
use Rattle.pl_model.specs.declared.object.Object.{Object}
use Rattle.pl_model.specs.Problem.{heights_for, cell_of}
use Rattle.pl_values.specs.Options.{whole_for, flag_for}

-- ---- layers

-- how many layers an object has
abbrev pub layers_for : KeyMap → Object → ℕ
layers_for config object = layer_count_of (heights_for config object) object.mesh

-- the slices of its layers, from the lowest on
abbrev pub slices_for : KeyMap → Object → List Cells
slices_for config object = map (slice_of object.mesh object.quarter (heights_for config object)) (range_with_len 0 (layers_for config object))

-- ---- perimeters

-- the loops of layer k: those of its slice, then those of what is left after each erosion but the last
abbrev pub loops_for : KeyMap → Object → ℕ → List (List Corner)
loops_for config object k = flat_map loops_of (rings_of (whole_for config object key.Perimeters) (layer_at (slices_for config object) k))

-- what the perimeters leave of layer k
abbrev pub inner_for : KeyMap → Object → ℕ → Cells
inner_for config object k = eroded_times (whole_for config object key.Perimeters) (layer_at (slices_for config object) k)

-- ---- surfaces

-- the cells of layer k's inner plane that are near a top or a bottom
abbrev pub solid_for : KeyMap → Object → ℕ → Cells
solid_for config object k = solid_of (slices_for config object) (inner_for config object k) k (whole_for config object key.TopSolidLayers) (whole_for config object key.BottomSolidLayers)

-- its other cells
abbrev pub sparse_for : KeyMap → Object → ℕ → Cells
sparse_for config object k = sparse_of (slices_for config object) (inner_for config object k) k (whole_for config object key.TopSolidLayers) (whole_for config object key.BottomSolidLayers)

-- its cells that the next slice lacks
abbrev pub top_for : KeyMap → Object → ℕ → Cells
top_for config object k = top_of (slices_for config object) (inner_for config object k) k

-- ---- strokes

-- the strokes that fill layer k
abbrev pub infill_for : KeyMap → Object → ℕ → List Stroke
infill_for config object k = infill_of (solid_for config object k) (sparse_for config object k) k (whole_for config object key.FillDensity)

-- the strokes that iron layer k
abbrev pub ironing_for : KeyMap → Object → ℕ → List Stroke
ironing_for config object k = if flag_for config object key.Ironing then strokes_of (layer_axis k) 1 (top_for config object k) else []

-- ---- support

-- the support cells of each layer
abbrev pub supports_for : KeyMap → Object → List Cells
supports_for config object = support_of (flag_for config object key.SupportMaterial) (flag_for config object key.SupportMaterialBuildplateOnly) (slices_for config object)

-- the strokes that support layer k, along each second line
abbrev pub support_for : KeyMap → Object → ℕ → List Stroke
support_for config object k = strokes_of (layer_axis k) 2 (layer_at (supports_for config object) k)

-- ---- all layers

-- of each layer, from the lowest on: its loops
abbrev pub loop_lists_for : KeyMap → Object → List (List (List Corner))
loop_lists_for config object = map (loops_for config object) (range_with_len 0 (layers_for config object))

-- the strokes that fill it
abbrev pub infill_lists_for : KeyMap → Object → List (List Stroke)
infill_lists_for config object = map (infill_for config object) (range_with_len 0 (layers_for config object))

-- those that iron it
abbrev pub ironing_lists_for : KeyMap → Object → List (List Stroke)
ironing_lists_for config object = map (ironing_for config object) (range_with_len 0 (layers_for config object))

-- and those that support it
abbrev pub support_lists_for : KeyMap → Object → List (List Stroke)
support_lists_for config object = map (support_for config object) (range_with_len 0 (layers_for config object))

-- ---- tool and place

-- the tool of an object, counted from 0: options count from 1, and nought is the first one too
abbrev pub tool_for : KeyMap → Object → ℕ
tool_for config object = whole_for config object key.Extruder - 1

-- the bed cell of an instance
abbrev pub corner_for : Shift → Corner
corner_for shift = record { x = cell_of shift.x; y = cell_of shift.y }

abbrev pub corners_for : Object → List Corner
corners_for object = map corner_for object.instances
