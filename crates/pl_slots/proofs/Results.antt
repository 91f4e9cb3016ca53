-- What the results of slots are, for a plate of sixteen places.
use Rattle.std.proofs.Common.{◌≡◌, ℕ, ◌<◌, ◌≤◌, cond, [], length, Some, refl, ap, ◌∙◌}
use Rattle.std.specs.Option.{option_map_or}
use Rattle.std.proofs.lemmas.List.{take_all}
use Rattle.pl_options.specs.KeyMap.{KeyMap}
use Rattle.pl_model.specs.declared.object.Object.{Object}
use Rattle.pl_model.specs.Contents.{Contents}
use Rattle.pl_model.specs.Places.{place_in}
use Rattle.pl_cascade.specs.Slots.{place_of, step_of, object_slot, print_slot}
use Rattle.pl_cascade.proofs.Arrows.{is_object, is_print, place_of-object, step_of-object, step_of-print}
use Rattle.pl_values.specs.ObjectValues.{layers_for, slices_for, loop_lists_for, infill_lists_for, ironing_lists_for, support_lists_for}
use Rattle.pl_steps.specs.Options.{options_for}
use Rattle.pl_steps.specs.Layers.{infill_in, ironing_in}
use Rattle.pl_steps.proofs.Whole.{of_prepared}
use Rattle.pl_steps.proofs.Computed.{loops_computed, infill_computed, ironing_computed, support_computed}
use Rattle.pl_batches.specs.Batches.{batches_of}
use Rattle.pl_slots.specs.declared.output.FffOutput.TheVariants.{Gcode}
use Rattle.pl_slots.specs.ObjectSteps.{perimeters_for, surface_sets_for, infill_strokes_for, ironing_strokes_for, support_set_for, object_value}
use Rattle.pl_slots.specs.Batches.{print_batches, batches}
use Rattle.pl_slots.specs.Values.{sixteen, print_value, slot_value}

-- ---- slots by places and steps

pub object_step : (plate : Contents) (place step : ℕ) (object : Object) → place < 16 → step < 6 → place_in plate.places place ≡ Some object → slot_value plate (object_slot place step) ≡ object_value plate.config object step
object_step plate place step object here low there =
    let at : place_in plate.places (place_of (object_slot place step)) ≡ Some object = ap (place_in plate.places) (place_of-object place step low) ∙ there in
    (λ i. cond (is_object place step here low i) (option_map_or (λ object. object_value plate.config object (step_of-object place step here low i)) (at i) (Gcode [])) (print_value (sixteen plate) (step_of-object place step here low i)))

-- a plate has no further places
pub sixteen_is : (plate : Contents) → length plate.places ≤ 16 → sixteen plate ≡ plate
sixteen_is plate few = λ i. record plate { places = take_all 16 plate.places few i }

pub print_step : (plate : Contents) (step : ℕ) → length plate.places ≤ 16 → 6 ≤ step → slot_value plate (print_slot step) ≡ print_value plate step
print_step plate step few high =
    (λ i. cond (is_print step high i) (option_map_or (λ object. object_value plate.config object (step_of-print step high i)) (place_in plate.places (place_of (print_slot step))) (Gcode [])) (print_value (sixteen_is plate few i) (step_of-print step high i)))

-- ---- batches

pub object_batches : (plate : Contents) (place step : ℕ) (object : Object) → place < 16 → step < 6 → place_in plate.places place ≡ Some object → batches plate (object_slot place step) ≡ batches_of (layers_for plate.config object)
object_batches plate place step object here low there =
    let at : place_in plate.places (place_of (object_slot place step)) ≡ Some object = ap (place_in plate.places) (place_of-object place step low) ∙ there in
    λ i. cond (is_object place step here low i) (option_map_or (λ object. batches_of (layers_for plate.config object)) (at i) 0) (print_batches (sixteen plate) (step_of (object_slot place step)))

pub step_batches : (plate : Contents) (step : ℕ) → length plate.places ≤ 16 → 6 ≤ step → batches plate (print_slot step) ≡ print_batches plate step
step_batches plate step few high =
    λ i. cond (is_print step high i) (option_map_or (λ object. batches_of (layers_for plate.config object)) (place_in plate.places (place_of (print_slot step))) 0) (print_batches (sixteen_is plate few i) (step_of-print step high i))

-- ---- the results of an object are what is printed of it

module _ (config : KeyMap) (object : Object) where
  pub loops_printed : (perimeters_for config object).loops ≡ loop_lists_for config object
  loops_printed = loops_computed config object (options_for config object) refl (slices_for config object) refl (perimeters_for config object).loops refl

  pub infill_printed : infill_strokes_for config object ≡ infill_lists_for config object
  infill_printed =
      let options = options_for config object in
      let of_slices = of_prepared options.perimeters options.top options.bottom (slices_for config object) (perimeters_for config object).inner (surface_sets_for config object) (infill_in options.density) (infill_strokes_for config object) refl refl refl in
      infill_computed config object options refl (slices_for config object) refl (infill_strokes_for config object) of_slices

  pub ironing_printed : ironing_strokes_for config object ≡ ironing_lists_for config object
  ironing_printed =
      let options = options_for config object in
      let of_slices = of_prepared options.perimeters options.top options.bottom (slices_for config object) (perimeters_for config object).inner (surface_sets_for config object) (λ set. ironing_in options.ironing set.top) (ironing_strokes_for config object) refl refl refl in
      ironing_computed config object options refl (slices_for config object) refl (ironing_strokes_for config object) of_slices

  pub support_printed : (support_set_for config object).strokes ≡ support_lists_for config object
  support_printed = support_computed config object (options_for config object) refl (slices_for config object) refl (support_set_for config object).cells (support_set_for config object).strokes refl refl
