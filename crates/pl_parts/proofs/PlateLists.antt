-- The print of the lists of a plate.
use Rattle.std.proofs.Common.{◌≡◌, ℕ, pos, ◌<◌, ◌≤◌, ◌^◌, [], length, filter, slice_index_or, Option, Some, None, refl, sym, subst, ap, ◌∙◌, arith}
use Rattle.std.specs.Prelude.{is_some}
use Rattle.std.specs.Option.{option_map, option_map_or}
use Rattle.std.specs.List.{range_with_len}
use Rattle.std.proofs.Math.ListN.{get_or-map}
use Rattle.std.proofs.lemmas.List.{length-map}
use Rattle.pl_units.specs.declared.Nm.{Nm}
use Rattle.pl_gcode.specs.IsPrint.{IsPrint}
use Rattle.pl_gcode.specs.SettingsOf.{settings_of}
use Rattle.pl_layers.specs.Heights.{layer_height_of}
use Rattle.pl_model.specs.declared.object.Object.{Object}
use Rattle.pl_model.specs.Contents.{Contents}
use Rattle.pl_model.specs.Places.{place_in}
use Rattle.pl_values.specs.PrintValues.{tops_of, heights_of, tools_of, blocks_of, skirt_for, brim_for, places_of}
use Rattle.pl_values.specs.Ranges.{IsInRange}
use Rattle.pl_values.proofs.Prints.{IsPrint-print_of}
use Rattle.pl_values.specs.Whole.{of_place, print_of}
use Rattle.pl_prints.specs.Layers.{layer_in}
use Rattle.pl_parts.specs.Parts.{ObjectData, object_at, at_place, filled_places, height_of, print_from, IsPrintData, object_data, data_of}

-- ---- places

object_is : (plate : Contents) (place : ℕ) → object_at (data_of plate) place ≡ option_map (object_data plate.config) (place_in plate.places place)
object_is plate place = get_or-map (option_map (object_data plate.config)) plate.places place None

of_mapped : {X : Type 0} (make : Object → ObjectData) (value : ObjectData → X) (there : Option Object) (nothing : X) → option_map_or value (option_map make there) nothing ≡ option_map_or (λ object. value (make object)) there nothing
of_mapped make value None nothing = refl
of_mapped make value (Some object) nothing = refl

-- what the object of a place has is what it has in the lists
place_is : {X : Type 0} (plate : Contents) (place : ℕ) (nothing : X) (value : ObjectData → X) → at_place (data_of plate) place nothing value ≡ of_place plate place nothing (λ object. value (object_data plate.config object))
place_is plate place nothing value =
    ap (λ there. option_map_or value there nothing) (object_is plate place) ∙ of_mapped (object_data plate.config) value (place_in plate.places place) nothing

still_some : (make : Object → ObjectData) (there : Option Object) → is_some (option_map make there) ≡ is_some there
still_some make None = refl
still_some make (Some object) = refl

some_is : (plate : Contents) (place : ℕ) → is_some (object_at (data_of plate) place) ≡ is_some (place_in plate.places place)
some_is plate place = ap is_some (object_is plate place) ∙ still_some (object_data plate.config) (place_in plate.places place)

pub places_are : (plate : Contents) → filled_places (data_of plate) ≡ places_of plate
places_are plate =
    ap (λ n. filter (λ place. is_some (object_at (data_of plate) place)) (range_with_len 0 n)) (length-map plate.places (option_map (object_data plate.config)))
    ∙ (λ i. filter (λ place. some_is plate place i) (range_with_len 0 (length plate.places)))

-- ---- heights

height_is : (plate : Contents) (i : ℕ) → height_of (data_of plate) i ≡ slice_index_or (tops_of plate) i (pos 0)
height_is plate i = ap (λ (h : Nm). h.0) (get_or-map (λ z. record { 0 = z }) (tops_of plate) i (pos 0))

layer_is : (plate : Contents) (place j : ℕ) → (print_from (data_of plate)).layer_at place j ≡ (print_of plate).layer_at place j
layer_is plate place j =
    ap (λ z. at_place (data_of plate) place None (λ object. layer_in object.layers z)) (height_is plate j)
    ∙ place_is plate place None (λ object. layer_in object.layers (slice_index_or (tops_of plate) j (pos 0)))

-- ---- all of it

pub print_is : (plate : Contents) → print_from (data_of plate) ≡ print_of plate
print_is plate i = record {
  settings = settings_of plate.config;
  heights = heights_of plate;
  tools = λ j. slice_index_or (tools_of plate) j [];
  block = λ j change. slice_index_or (blocks_of plate) change [];
  skirt = skirt_for plate;
  brim = brim_for plate;
  places = places_are plate i;
  tool = λ place. place_is plate place 0 (λ object. object.layers.tool) i;
  instances = λ place. place_is plate place [] (λ object. object.corners) i;
  layers = λ place. place_is plate place 0 (λ object. object.layers.count) i;
  layer_at = λ place j. layer_is plate place j i;
  layer_height = λ place k. place_is plate place (record { 0 = pos 0 }) (λ object. layer_height_of object.layers.heights k) i;
  loops = λ place k. place_is plate place [] (λ object. slice_index_or object.loops k []) i;
  infill = λ place k. place_is plate place [] (λ object. slice_index_or object.infill k []) i;
  ironing = λ place k. place_is plate place [] (λ object. slice_index_or object.ironing k []) i;
  support = λ place k. place_is plate place [] (λ object. slice_index_or object.support k []) i;
}

pub IsPrintData-data_of : (plate : Contents) → IsInRange plate → length (heights_of plate) < 2 ^ 32 → length plate.places ≤ 16 → IsPrintData (data_of plate)
IsPrintData-data_of plate ranges heights places = record {
  print = subst IsPrint (sym (print_is plate)) (IsPrint-print_of plate ranges);
  few_heights = heights;
  few_places = omega (arith, places, length-map plate.places (option_map (object_data plate.config)));
}
