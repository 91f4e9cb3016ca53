-- A print as lists: what each object and the whole of a plate are printed as, and the print of these.
use Rattle.std.specs.Prelude.{ℤ, ℕ, pos, ◌<◌, ◌≤◌, ◌^◌, List, [], length, map, filter, slice_index_or, Option, None, is_some}
use Rattle.std.specs.Option.{option_map, option_map_or}
use Rattle.std.specs.List.{range_with_len}
use Rattle.pl_units.specs.declared.Nm.{Nm}
use Rattle.pl_options.specs.KeyMap.{KeyMap}
use Rattle.pl_grid.specs.declared.stroke.Corner.{Corner}
use Rattle.pl_grid.specs.declared.stroke.Stroke.{Stroke}
use Rattle.pl_layers.specs.Heights.{layer_height_of}
use Rattle.pl_gcode.specs.IsPrint.{IsPrint}
use Rattle.pl_gcode.specs.Print.{Settings, Print}
use Rattle.pl_gcode.specs.SettingsOf.{settings_of}
use Rattle.pl_model.specs.declared.object.Object.{Object}
use Rattle.pl_model.specs.Contents.{Contents}
use Rattle.pl_values.specs.ObjectValues.{corners_for, loop_lists_for, infill_lists_for, ironing_lists_for, support_lists_for}
use Rattle.pl_values.specs.PrintValues.{heights_of, tools_of, blocks_of, skirt_for, brim_for}
use Rattle.pl_prints.specs.Layers.{Layers, layers_in, layer_in}

-- ---- lists

-- what the object of a place is printed as: where its instances stand, its layers, and the loops and strokes of each
pub record ObjectData : Type 0 where
  pub corners : List Corner
  pub layers : Layers
  pub loops : List (List (List Corner))
  pub infill : List (List Stroke)
  pub ironing : List (List Stroke)
  pub support : List (List Stroke)

-- what a print consists of
pub record PrintData : Type 0 where
  pub settings : Settings
  pub heights : List Nm
  -- of each height
  pub tools : List (List ℕ)
  -- of each change of tools that a height may have
  pub blocks : List (List Stroke)
  pub skirt : List (List Corner)
  pub brim : List (List Corner)
  -- of each place
  pub objects : List (Option ObjectData)

-- ---- the print of lists

abbrev pub object_at : PrintData → ℕ → Option ObjectData
object_at lists place = slice_index_or lists.objects place None

-- what the object of a place has, and nothing where the place is empty
abbrev pub at_place : {X : Type 0} → PrintData → ℕ → X → (ObjectData → X) → X
at_place lists place nothing value = option_map_or value (object_at lists place) nothing

-- the filled places, ascending
abbrev pub filled_places : PrintData → List ℕ
filled_places lists = filter (λ place. is_some (object_at lists place)) (range_with_len 0 (length lists.objects))

-- height i, in nanometres
abbrev pub height_of : PrintData → ℕ → ℤ
height_of lists i = (slice_index_or lists.heights i (record { 0 = pos 0 })).0

abbrev pub print_from : PrintData → Print
print_from lists = record {
  settings = lists.settings;
  heights = lists.heights;
  tools = λ i. slice_index_or lists.tools i [];
  block = λ i change. slice_index_or lists.blocks change [];
  skirt = lists.skirt;
  brim = lists.brim;
  places = filled_places lists;
  tool = λ place. at_place lists place 0 (λ object. object.layers.tool);
  instances = λ place. at_place lists place [] (λ object. object.corners);
  layers = λ place. at_place lists place 0 (λ object. object.layers.count);
  layer_at = λ place i. at_place lists place None (λ object. layer_in object.layers (height_of lists i));
  layer_height = λ place k. at_place lists place (record { 0 = pos 0 }) (λ object. layer_height_of object.layers.heights k);
  loops = λ place k. at_place lists place [] (λ object. slice_index_or object.loops k []);
  infill = λ place k. at_place lists place [] (λ object. slice_index_or object.infill k []);
  ironing = λ place k. at_place lists place [] (λ object. slice_index_or object.ironing k []);
  support = λ place k. at_place lists place [] (λ object. slice_index_or object.support k []);
}

-- G-code is written of it: it is a print, of fewer than 2^32 heights and at most sixteen places
pub record IsPrintData (lists : PrintData) : Type 0 where
  pub print : IsPrint (print_from lists)
  pub few_heights : length lists.heights < 2 ^ 32
  pub few_places : length lists.objects ≤ 16

-- ---- the lists of a plate

abbrev pub object_data : KeyMap → Object → ObjectData
object_data config object = record {
  corners = corners_for object;
  layers = layers_in config object;
  loops = loop_lists_for config object;
  infill = infill_lists_for config object;
  ironing = ironing_lists_for config object;
  support = support_lists_for config object;
}

abbrev pub data_of : Contents → PrintData
data_of plate = record {
  settings = settings_of plate.config;
  heights = heights_of plate;
  tools = tools_of plate;
  blocks = blocks_of plate;
  skirt = skirt_for plate;
  brim = brim_for plate;
  objects = map (option_map (object_data plate.config)) plate.places;
}
