-- A plate as a print, and its G-code.
use Rattle.std.specs.Prelude.{ℕ, pos, List, [], slice_index_or, Option, None}
use Rattle.std.specs.Option.{option_map_or}
use Rattle.pl_layers.specs.Heights.{layer_height_of}
use Rattle.pl_gcode.specs.Print.{Print}
use Rattle.pl_gcode.specs.SettingsOf.{settings_of}
use Rattle.pl_gcode.specs.Gcode.{gcode_of}
use Rattle.pl_model.specs.declared.object.Object.{Object}
use Rattle.pl_model.specs.Places.{place_in}
use Rattle.pl_model.specs.Contents.{Contents}
use Rattle.pl_model.specs.Problem.{heights_for}
use Rattle.pl_values.specs.ObjectValues.{layers_for, loop_lists_for, infill_lists_for, ironing_lists_for, support_lists_for, tool_for, corners_for}
use Rattle.pl_values.specs.PrintValues.{places_of, heights_of, tops_of, layer_with_top, tools_of, skirt_for, brim_for, blocks_of}

-- what the object of a place has, and nothing where the place is empty
abbrev pub of_place : {X : Type 0} → Contents → ℕ → X → (Object → X) → X
of_place plate place nothing value = option_map_or value (place_in plate.places place) nothing

-- the object of a place has its layer of this number at height i
abbrev pub layer_at_height : Contents → ℕ → ℕ → Option ℕ
layer_at_height plate place i = of_place plate place None (λ object. layer_with_top plate.config object (slice_index_or (tops_of plate) i (pos 0)))

abbrev pub print_of : Contents → Print
print_of plate = record {
  settings = settings_of plate.config;
  heights = heights_of plate;
  tools = λ i. slice_index_or (tools_of plate) i [];
  block = λ i change. slice_index_or (blocks_of plate) change [];
  skirt = skirt_for plate;
  brim = brim_for plate;
  places = places_of plate;
  tool = λ place. of_place plate place 0 (tool_for plate.config);
  instances = λ place. of_place plate place [] corners_for;
  layers = λ place. of_place plate place 0 (layers_for plate.config);
  layer_at = layer_at_height plate;
  layer_height = λ place k. of_place plate place (record { 0 = pos 0 }) (λ object. layer_height_of (heights_for plate.config object) k);
  loops = λ place k. of_place plate place [] (λ object. slice_index_or (loop_lists_for plate.config object) k []);
  infill = λ place k. of_place plate place [] (λ object. slice_index_or (infill_lists_for plate.config object) k []);
  ironing = λ place k. of_place plate place [] (λ object. slice_index_or (ironing_lists_for plate.config object) k []);
  support = λ place k. of_place plate place [] (λ object. slice_index_or (support_lists_for plate.config object) k []);
}

-- the G-code of a plate
abbrev pub plate_gcode : Contents → List ℕ
plate_gcode plate = gcode_of (print_of plate)
