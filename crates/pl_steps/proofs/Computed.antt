-- What is computed of an object, by its configuration.
use Rattle.std.proofs.Common.{◌≡◌, List, [], length, map, ap, ◌∙◌}
use Rattle.std.specs.List.{range_with_len}
use Rattle.std.proofs.lemmas.List.FromFn.{length-map-range_with_len}
use Rattle.pl_stl.specs.declared.mesh.Facet.{Facet}
use Rattle.pl_grid.specs.Planes.{Cells}
use Rattle.pl_grid.specs.declared.stroke.Corner.{Corner}
use Rattle.pl_grid.specs.declared.stroke.Stroke.{Stroke}
use Rattle.pl_layers.specs.Slices.{slice_of}
use Rattle.pl_fill.specs.Surfaces.{layer_at}
use Rattle.pl_support.specs.Support.{support_at, support_of}
use Rattle.pl_options.specs.KeyMap.{KeyMap}
use Rattle.pl_model.specs.declared.object.Object.{Object}
use Rattle.pl_model.specs.Problem.{heights_for}
use Rattle.pl_values.specs.ObjectValues.{layers_for, slices_for, loops_for, infill_for, ironing_for, supports_for, support_for}
use Rattle.pl_steps.specs.declared.options.ObjectOptions.{ObjectOptions}
use Rattle.pl_steps.specs.Options.{options_for}
use Rattle.pl_steps.specs.Layers.{each, slices_of, loops_in, infill_in, ironing_in, surfaces_of, support_in}
use Rattle.pl_steps.proofs.Whole.{map_is_each}

slices_long : (config : KeyMap) (object : Object) → length (slices_for config object) ≡ layers_for config object
slices_long config object = length-map-range_with_len (slice_of object.mesh object.quarter (heights_for config object)) 0 (layers_for config object)

pub support_long : (options : ObjectOptions) (slices cells : List Cells) → cells ≡ support_of options.support options.plate_only slices → length cells ≡ length slices
support_long options slices cells is = ap length is ∙ length-map-range_with_len (support_at options.support options.plate_only slices) 0 (length slices)

module _ (config : KeyMap) (object : Object) (options : ObjectOptions) (options_are : options ≡ options_for config object) where
  pub slices_computed : (mesh : List Facet) (slices : List Cells) → mesh ≡ object.mesh → slices ≡ slices_of mesh object.quarter options.heights → slices ≡ slices_for config object
  slices_computed mesh slices same is = is ∙ (λ i. slices_of (same i) object.quarter (options_are i).heights)

  module _ (slices : List Cells) (slices_are : slices ≡ slices_for config object) where
    pub layers_computed : length slices ≡ layers_for config object
    layers_computed = ap length slices_are ∙ slices_long config object

    pub loops_computed : (loops : List (List (List Corner))) → loops ≡ map (loops_in options.perimeters) slices → loops ≡ map (loops_for config object) (range_with_len 0 (layers_for config object))
    loops_computed loops is =
        is
        ∙ (λ i. map (loops_in (options_are i).perimeters) (slices_are i))
        ∙ map_is_each (loops_in (options_for config object).perimeters) (slices_for config object) (layer_at [] 0)
        ∙ ap (λ n. each n (loops_for config object)) (slices_long config object)

    pub infill_computed : (lists : List (List Stroke)) → lists ≡ each (length slices) (λ k. infill_in options.density (surfaces_of options.perimeters options.top options.bottom slices k) k)
        → lists ≡ map (infill_for config object) (range_with_len 0 (layers_for config object))
    infill_computed lists is =
        is
        ∙ (λ i. each (length (slices_are i)) (λ k. infill_in (options_are i).density (surfaces_of (options_are i).perimeters (options_are i).top (options_are i).bottom (slices_are i) k) k))
        ∙ ap (λ n. each n (infill_for config object)) (slices_long config object)

    pub ironing_computed : (lists : List (List Stroke)) → lists ≡ each (length slices) (λ k. ironing_in options.ironing (surfaces_of options.perimeters options.top options.bottom slices k).top k)
        → lists ≡ map (ironing_for config object) (range_with_len 0 (layers_for config object))
    ironing_computed lists is =
        is
        ∙ (λ i. each (length (slices_are i)) (λ k. ironing_in (options_are i).ironing (surfaces_of (options_are i).perimeters (options_are i).top (options_are i).bottom (slices_are i) k).top k))
        ∙ ap (λ n. each n (ironing_for config object)) (slices_long config object)

    pub support_computed : (cells : List Cells) (lists : List (List Stroke)) → cells ≡ support_of options.support options.plate_only slices → lists ≡ each (length cells) (support_in cells)
        → lists ≡ map (support_for config object) (range_with_len 0 (layers_for config object))
    support_computed cells lists cells_are is =
        let computed : cells ≡ supports_for config object = cells_are ∙ (λ i. support_of (options_are i).support (options_are i).plate_only (slices_are i)) in
        is
        ∙ ap (λ planes. each (length planes) (support_in planes)) computed
        ∙ ap (λ n. each n (support_for config object)) (support_long (options_for config object) (slices_for config object) (supports_for config object) (λ i. supports_for config object) ∙ slices_long config object)
