-- The G-code of two plates between which the export is not touched is equal.
use Rattle.std.proofs.Common.{◌≡◌, ℕ, ◌<◌, ◌≤◌, true, false, List, [], map, None, refl, ap, ◌∙◌, arith}
use Rattle.std.specs.Prelude.{pos, slice_index_or, position, if◌then◌else◌}
use Rattle.std.specs.Ordering.{int_eq}
use Rattle.std.specs.List.{range_with_len}
use Rattle.std.specs.FinMap.{get}
use Rattle.pl_keys.specs.declared.key.Key.{Key}
use Rattle.pl_keys.specs.declared.key.Key.TheVariants as key
use Rattle.pl_keys.specs.Keys.{is_object_key}
use Rattle.pl_keys.specs.Table.{touches}
use Rattle.pl_keys.specs.Steps as steps
use Rattle.pl_options.specs.KeyMap.{KeyMap}
use Rattle.pl_grid.specs.Strokes.{strokes_of}
use Rattle.pl_layers.specs.Heights.{layer_height_of}
use Rattle.pl_rings.specs.Rings.{eroded_times}
use Rattle.pl_fill.specs.Surfaces.{layer_at, solid_of, sparse_of, top_of}
use Rattle.pl_fill.specs.Layers.{layer_axis, infill_of}
use Rattle.pl_gcode.specs.Gcode.{gcode_of}
use Rattle.pl_gcode.specs.SettingsOf.{whole_in, length_in, words_in, settings_of}
use Rattle.pl_model.specs.declared.object.Object.{Object}
use Rattle.pl_model.specs.Contents.{Contents}
use Rattle.pl_model.specs.Effective.{value_for}
use Rattle.pl_model.specs.Problem.{heights_for}
use Rattle.pl_cascade.specs.Slots.{print_slot}
use Rattle.pl_cascade.specs.Touched.{is_touched}
use Rattle.pl_cascade.proofs.Arrows.{reaches}
use Rattle.pl_values.specs.Options.{flag_in}
use Rattle.pl_values.specs.ObjectValues.{layers_for, loops_for, inner_for, infill_for, ironing_for, support_for, tool_for, corners_for}
use Rattle.pl_values.specs.PrintValues.{tops_of, layer_with_top}
use Rattle.pl_values.specs.Whole.{of_place, layer_at_height, print_of, plate_gcode}
use Rattle.pl_steps.specs.Layers.{loops_in}
use Rattle.pl_slots.specs.ObjectSteps.{sliced_for}
use Rattle.pl_slots.specs.Values.{sixteen}
use Rattle.pl_slots.proofs.PrintKept as print

module _ (a b : Contents) (calm : is_touched a b (print_slot steps.export) ≡ false) where
  high : 6 ≤ steps.export
  high = omega arith

  low : steps.export < 10
  low = omega arith

  abbrev IsPair : Object → Object → Type 0
  IsPair x y = print.IsPair a b steps.export high low calm x y

  -- ---- of an object

  option_kept : (from : ℕ) (key : Key) → reaches from steps.export ≡ true → is_object_key key ≡ true → touches key from ≡ true → (x y : Object) → IsPair x y → value_for a.config x key ≡ value_for b.config y key
  option_kept from key r own t x y pair = print.option_kept a b steps.export high low calm from key r own t x y pair

  sliced_kept : (x y : Object) → IsPair x y → sliced_for a.config x ≡ sliced_for b.config y
  sliced_kept x y pair = print.sliced_kept a b steps.export high low calm x y pair

  layers_kept : (x y : Object) → IsPair x y → layers_for a.config x ≡ layers_for b.config y
  layers_kept x y pair = print.layers_kept a b steps.export high low calm x y pair

  loops_kept : (k : ℕ) (x y : Object) → IsPair x y → loops_for a.config x k ≡ loops_for b.config y k
  loops_kept k x y pair =
      let count = option_kept steps.perimeters key.Perimeters refl refl refl x y pair in
      λ i. loops_in (whole_in (count i)) (layer_at (sliced_kept x y pair i).planes k)

  inner_kept : (k : ℕ) (x y : Object) → IsPair x y → inner_for a.config x k ≡ inner_for b.config y k
  inner_kept k x y pair =
      let count = option_kept steps.perimeters key.Perimeters refl refl refl x y pair in
      λ i. eroded_times (whole_in (count i)) (layer_at (sliced_kept x y pair i).planes k)

  infill_kept : (k : ℕ) (x y : Object) → IsPair x y → infill_for a.config x k ≡ infill_for b.config y k
  infill_kept k x y pair =
      let top = option_kept steps.prepare key.TopSolidLayers refl refl refl x y pair in
      let bottom = option_kept steps.prepare key.BottomSolidLayers refl refl refl x y pair in
      let density = option_kept steps.infill key.FillDensity refl refl refl x y pair in
      λ i.
      infill_of (solid_of (sliced_kept x y pair i).planes (inner_kept k x y pair i) k (whole_in (top i)) (whole_in (bottom i)))
      (sparse_of (sliced_kept x y pair i).planes (inner_kept k x y pair i) k (whole_in (top i)) (whole_in (bottom i))) k (whole_in (density i))

  ironing_kept : (k : ℕ) (x y : Object) → IsPair x y → ironing_for a.config x k ≡ ironing_for b.config y k
  ironing_kept k x y pair =
      let on = option_kept steps.ironing key.Ironing refl refl refl x y pair in
      λ i. if flag_in (on i) then strokes_of (layer_axis k) 1 (top_of (sliced_kept x y pair i).planes (inner_kept k x y pair i) k) else []

  support_kept : (k : ℕ) (x y : Object) → IsPair x y → support_for a.config x k ≡ support_for b.config y k
  support_kept k x y pair = λ i. strokes_of (layer_axis k) 2 (layer_at (print.supports_kept a b steps.export high low calm refl x y pair i) k)

  -- a list with something for each layer
  each_kept : {X : Type 0} (gives : KeyMap → Object → ℕ → List X) → ((k : ℕ) (x y : Object) → IsPair x y → gives a.config x k ≡ gives b.config y k) → (p k : ℕ)
      → of_place (sixteen a) p [] (λ object. slice_index_or (map (gives a.config object) (range_with_len 0 (layers_for a.config object))) k [])
      ≡ of_place (sixteen b) p [] (λ object. slice_index_or (map (gives b.config object) (range_with_len 0 (layers_for b.config object))) k [])
  each_kept gives same p k =
      print.of_place_kept a b steps.export high low calm (λ config object. slice_index_or (map (gives config object) (range_with_len 0 (layers_for config object))) k [])
      (λ x y pair i. slice_index_or (map (λ n. same n x y pair i) (range_with_len 0 (layers_kept x y pair i))) k []) p []

  -- the layer of a place at a height
  layer_kept : (p n : ℕ) → layer_at_height (sixteen a) p n ≡ layer_at_height (sixteen b) p n
  layer_kept p n =
      let top = slice_index_or (tops_of (sixteen a)) n (pos 0) in
      print.of_place_kept a b steps.export high low calm (λ config object. layer_with_top config object top)
      (λ x y pair i. position (λ z. int_eq z top) (print.object_tops_kept a b steps.export high low calm x y pair i)) p None
      ∙ ap (λ tops. of_place (sixteen b) p None (λ object. layer_with_top b.config object (slice_index_or tops n (pos 0)))) (print.tops_kept a b steps.export high low calm)

  -- ---- of the print

  setting_kept : (from : ℕ) (key : Key) → 6 ≤ from → reaches from steps.export ≡ true → is_object_key key ≡ false → touches key from ≡ true → get a.config key ≡ get b.config key
  setting_kept from key above r whole t = print.setting_kept a b steps.export high low calm from key above r whole t

  own_kept : (key : Key) → is_object_key key ≡ false → touches key steps.export ≡ true → get a.config key ≡ get b.config key
  own_kept key whole t = setting_kept steps.export key high refl whole t

  settings_kept : settings_of a.config ≡ settings_of b.config
  settings_kept = λ i. record {
    perimeter_speed = whole_in (own_kept key.PerimeterSpeed refl refl i);
    infill_speed = whole_in (own_kept key.InfillSpeed refl refl i);
    travel_speed = whole_in (own_kept key.TravelSpeed refl refl i);
    temperature = whole_in (own_kept key.Temperature refl refl i);
    first_layer_temperature = whole_in (own_kept key.FirstLayerTemperature refl refl i);
    bed_temperature = whole_in (own_kept key.BedTemperature refl refl i);
    first_layer_bed_temperature = whole_in (own_kept key.FirstLayerBedTemperature refl refl i);
    filament_diameter = length_in (own_kept key.FilamentDiameter refl refl i);
    extrusion_multiplier = whole_in (own_kept key.ExtrusionMultiplier refl refl i);
    skirt_height = whole_in (setting_kept steps.skirt key.SkirtHeight (omega arith) refl refl refl i);
    start_gcode = words_in (own_kept key.StartGcode refl refl i);
    end_gcode = words_in (own_kept key.EndGcode refl refl i);
  }

  print_kept : print_of (sixteen a) ≡ print_of (sixteen b)
  print_kept = λ i. record {
    settings = settings_kept i;
    heights = print.heights_kept a b steps.export high low calm i;
    tools = λ n. slice_index_or (print.tools_kept a b steps.export high low calm refl i) n [];
    block = λ n change. slice_index_or (print.blocks_kept a b steps.export high low calm refl i) change [];
    skirt = print.skirt_kept a b steps.export high low calm refl refl i;
    brim = print.brim_kept a b steps.export high low calm refl refl i;
    places = print.filled_kept a b steps.export high low calm i;
    tool = λ p. print.of_place_kept a b steps.export high low calm tool_for (print.tool_kept a b steps.export high low calm refl) p 0 i;
    instances = λ p. print.of_place_kept a b steps.export high low calm (λ config. corners_for) (print.corners_kept a b steps.export high low calm) p [] i;
    layers = λ p. print.of_place_kept a b steps.export high low calm layers_for layers_kept p 0 i;
    layer_at = λ p n. layer_kept p n i;
    layer_height = λ p k. print.of_place_kept a b steps.export high low calm (λ config object. layer_height_of (heights_for config object) k) (λ x y pair j. layer_height_of (sliced_kept x y pair j).heights k) p (record { 0 = pos 0 }) i;
    loops = λ p k. each_kept loops_for loops_kept p k i;
    infill = λ p k. each_kept infill_for infill_kept p k i;
    ironing = λ p k. each_kept ironing_for ironing_kept p k i;
    support = λ p k. each_kept support_for support_kept p k i;
  }

  pub gcode_kept : plate_gcode (sixteen a) ≡ plate_gcode (sixteen b)
  gcode_kept = ap gcode_of print_kept
