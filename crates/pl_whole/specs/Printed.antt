-- What a plate is printed as: each object with its parts, and what goes round all of them.
use Rattle.std.specs.Prelude.{List, [], map, slice_get, Option, Some, None}
use Rattle.std.specs.Option.{option_map}
use Rattle.pl_units.specs.declared.Nm.{Nm}
use Rattle.std.specs.Prelude.{ℕ}
use Rattle.pl_options.specs.KeyMap.{KeyMap}
use Rattle.pl_grid.specs.Planes.{Cells}
use Rattle.pl_grid.specs.declared.stroke.Corner.{Corner}
use Rattle.pl_grid.specs.declared.stroke.Stroke.{Stroke}
use Rattle.pl_fill.specs.Surfaces.{layer_at}
use Rattle.pl_model.specs.declared.instances.Shift.{Shift}
use Rattle.pl_model.specs.declared.object.Object.{Object}
use Rattle.pl_model.specs.Contents.{Contents}
use Rattle.pl_model.specs.Problem.{heights_for}
use Rattle.pl_values.specs.ObjectValues.{layers_for, slices_for, loop_lists_for, infill_lists_for, ironing_lists_for, supports_for, support_lists_for, tool_for, corners_for}
use Rattle.pl_values.specs.PrintValues.{heights_of, tools_of, blocks_of, skirt_for, brim_for}
use Rattle.pl_steps.specs.Parts.{Parts}
use Rattle.pl_prints.specs.Layers.{Layers, layers_in}
use Rattle.pl_prints.specs.Footprints.{Footprint}
use Rattle.pl_parts.specs.Parts.{ObjectData}

-- ---- objects

-- where an object's instances stand, its layers, and all that it is printed as
pub record Printed : Type 0 where
  pub instances : List Shift
  pub layers : Layers
  pub parts : Parts

abbrev pub parts_for : KeyMap → Object → Parts
parts_for config object = record {
  tool = tool_for config object;
  corners = corners_for object;
  heights = heights_for config object;
  layers = layers_for config object;
  loops = loop_lists_for config object;
  infill = infill_lists_for config object;
  ironing = ironing_lists_for config object;
  support = support_lists_for config object;
  first_slice = slice_get (slices_for config object) 0;
  first_support = slice_get (supports_for config object) 0;
}

abbrev pub printed_for : KeyMap → Object → Printed
printed_for config object = record { instances = object.instances; layers = layers_in config object; parts = parts_for config object }

-- the object of each place, where there is one
abbrev pub objects_for : Contents → List (Option Printed)
objects_for plate = map (option_map (printed_for plate.config)) plate.places

-- ---- what is taken of an object

-- a plane, and one without cells where there is none
abbrev pub plane_in : Option Cells → Cells
plane_in None = layer_at [] 0
plane_in (Some plane) = plane

-- what it puts on the bed
abbrev pub footprint_of : Printed → Footprint
footprint_of printed = record { slice = plane_in printed.parts.first_slice; support = plane_in printed.parts.first_support; instances = printed.instances }

-- what the G-code takes
abbrev pub data_in : Printed → ObjectData
data_in printed = record {
  corners = printed.parts.corners;
  layers = printed.layers;
  loops = printed.parts.loops;
  infill = printed.parts.infill;
  ironing = printed.parts.ironing;
  support = printed.parts.support;
}

-- ---- what goes round

pub record AroundData : Type 0 where
  pub heights : List Nm
  pub tools : List (List ℕ)
  pub blocks : List (List Stroke)
  pub skirt : List (List Corner)
  pub brim : List (List Corner)

unfoldable pub around_of : Contents → AroundData
around_of plate = record { heights = heights_of plate; tools = tools_of plate; blocks = blocks_of plate; skirt = skirt_for plate; brim = brim_for plate }
