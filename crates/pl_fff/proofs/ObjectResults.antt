-- What the results of the steps of an object hold.
use Rattle.std.proofs.Common.{◌≡◌, ℕ, length, map, ap, sym, ◌∙◌}
use Rattle.std.proofs.lemmas.List.{length-map}
use Rattle.std.proofs.lemmas.List.FromFn.{length-map-range_with_len}
use Rattle.pl_options.specs.KeyMap.{KeyMap}
use Rattle.pl_layers.specs.Slices.{slice_of}
use Rattle.pl_rings.specs.Rings.{eroded_times}
use Rattle.pl_fill.specs.Surfaces.{HaveEqualBoxes}
use Rattle.pl_model.specs.declared.object.Object.{Object}
use Rattle.pl_model.specs.Problem.{heights_for}
use Rattle.pl_values.specs.ObjectValues.{layers_for, slices_for}
use Rattle.pl_steps.specs.Options.{options_for}
use Rattle.pl_steps.specs.Layers.{inner_of, surfaces_at}
use Rattle.pl_steps.proofs.Boxes.{slices_boxes, inner_boxes}
use Rattle.pl_slots.specs.declared.output.FffOutput.{FffOutput}
use Rattle.pl_slots.specs.declared.output.FffOutput.TheVariants.{Slices, Perimeters, Surfaces}
use Rattle.pl_slots.specs.ObjectSteps.{sliced_for, perimeters_for, surface_sets_for}
use Rattle.pl_fff.specs.Held.{planes_in, inner_in, surfaces_in}

module _ (config : KeyMap) (object : Object) where
  slices_long : length (slices_for config object) ≡ layers_for config object
  slices_long = length-map-range_with_len (slice_of object.mesh object.quarter (heights_for config object)) 0 (layers_for config object)

  inner_long : length (perimeters_for config object).inner ≡ layers_for config object
  inner_long = length-map (slices_for config object) (eroded_times (options_for config object).perimeters) ∙ slices_long

  pub slices_held : (output : FffOutput) → output ≡ Slices (sliced_for config object) → length (planes_in output) ≡ layers_for config object
  slices_held output is = ap (λ o. length (planes_in o)) is ∙ slices_long

  pub boxes_held : (output : FffOutput) → output ≡ Slices (sliced_for config object) → HaveEqualBoxes (planes_in output) (planes_in output)
  boxes_held output is = slices_boxes object.mesh object.quarter (heights_for config object) (planes_in output) (ap planes_in is)

  pub inner_held : (output : FffOutput) → output ≡ Perimeters (perimeters_for config object) → length (inner_in output) ≡ layers_for config object
  inner_held output is = ap (λ o. length (inner_in o)) is ∙ inner_long

  pub surfaces_held : (output : FffOutput) → output ≡ Surfaces (surface_sets_for config object) → length (surfaces_in output) ≡ layers_for config object
  surfaces_held output is =
      let options = options_for config object in
      let inner = (perimeters_for config object).inner in
      ap (λ o. length (surfaces_in o)) is ∙ length-map-range_with_len (surfaces_at (slices_for config object) inner options.top options.bottom) 0 (length inner) ∙ inner_long

  -- what the perimeters leave has the boxes of the slices
  pub inner_boxed : (slices perimeters : FffOutput) → slices ≡ Slices (sliced_for config object) → perimeters ≡ Perimeters (perimeters_for config object) → HaveEqualBoxes (planes_in slices) (inner_in perimeters)
  inner_boxed slices perimeters is left =
      let count = (options_for config object).perimeters in
      inner_boxes count (planes_in slices) (inner_in perimeters) (ap inner_in left ∙ sym (ap (λ o. inner_of count (planes_in o)) is)) (boxes_held slices is)
