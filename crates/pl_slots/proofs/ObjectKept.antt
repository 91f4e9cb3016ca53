-- The results of an untouched step of an object that stands in two plates are equal.
use Rattle.std.proofs.Common.{◌≡◌, ℕ, zero, suc, ◌<◌, true, false, length, map, Some, refl, ap, arith}
use Rattle.pl_keys.specs.declared.key.Key.{Key}
use Rattle.pl_keys.specs.declared.key.Key.TheVariants as key
use Rattle.pl_keys.specs.Keys.{is_object_key}
use Rattle.pl_keys.specs.Table.{touches}
use Rattle.pl_keys.specs.Steps as steps
use Rattle.pl_gcode.specs.SettingsOf.{whole_in}
use Rattle.pl_model.specs.declared.object.Object.{Object}
use Rattle.pl_model.specs.Contents.{Contents}
use Rattle.pl_model.specs.Effective.{value_for}
use Rattle.pl_model.specs.Places.{place_in}
use Rattle.pl_cascade.specs.Slots.{object_slot}
use Rattle.pl_cascade.specs.Touched.{is_touched}
use Rattle.pl_cascade.proofs.Arrows.{reaches}
use Rattle.pl_cascade.proofs.Untouched.{same_option, same_shape}
use Rattle.pl_values.specs.Options.{flag_in}
use Rattle.pl_steps.specs.Layers.{each, loops_in, inner_of, surfaces_at, infill_at, ironing_at}
use Rattle.pl_slots.specs.declared.output.FffOutput.TheVariants.{Slices, Perimeters, Surfaces, Strokes, Support}
use Rattle.pl_slots.proofs.SameObjects.{same_slices, same_supports}
use Rattle.pl_slots.specs.ObjectSteps.{support_set_on, sliced_for, perimeters_for, surface_sets_for, infill_strokes_for, ironing_strokes_for, support_set_for, object_value}

module _ (a b : Contents) (p : ℕ) (x y : Object) (here : p < 16) (old : place_in a.places p ≡ Some x) (new : place_in b.places p ≡ Some y) (step : ℕ) (low : step < 6) (calm : is_touched a b (object_slot p step) ≡ false) where
  -- the value of an option that touches a step from which this one is reached
  kept : (from : ℕ) (key : Key) → from < 6 → reaches from step ≡ true → is_object_key key ≡ true → touches key from ≡ true → value_for a.config x key ≡ value_for b.config y key
  kept from key less r own t = same_option a b p from step x y key here low old new calm own t less r

  sliced_kept : reaches steps.slice step ≡ true → sliced_for a.config x ≡ sliced_for b.config y
  sliced_kept r =
      same_slices a.config b.config x y (same_shape a b p step x y here low old new calm) (kept steps.slice key.FirstLayerHeight (omega arith) r refl refl) (kept steps.slice key.LayerHeight (omega arith) r refl refl)

  perimeters_kept : reaches steps.slice step ≡ true → reaches steps.perimeters step ≡ true → perimeters_for a.config x ≡ perimeters_for b.config y
  perimeters_kept r s =
      let sliced = sliced_kept r in
      let count = kept steps.perimeters key.Perimeters (omega arith) s refl refl in
      λ i. record { loops = map (loops_in (whole_in (count i))) (sliced i).planes; inner = inner_of (whole_in (count i)) (sliced i).planes }

  surface_sets_kept : reaches steps.slice step ≡ true → reaches steps.perimeters step ≡ true → reaches steps.prepare step ≡ true → surface_sets_for a.config x ≡ surface_sets_for b.config y
  surface_sets_kept r s t =
      let sliced = sliced_kept r in
      let perimeters = perimeters_kept r s in
      let top = kept steps.prepare key.TopSolidLayers (omega arith) t refl refl in
      let bottom = kept steps.prepare key.BottomSolidLayers (omega arith) t refl refl in
      λ i. each (length (perimeters i).inner) (surfaces_at (sliced i).planes (perimeters i).inner (whole_in (top i)) (whole_in (bottom i)))

  infill_kept : reaches steps.slice step ≡ true → reaches steps.perimeters step ≡ true → reaches steps.prepare step ≡ true → reaches steps.infill step ≡ true → infill_strokes_for a.config x ≡ infill_strokes_for b.config y
  infill_kept r s t u =
      let sets = surface_sets_kept r s t in
      let density = kept steps.infill key.FillDensity (omega arith) u refl refl in
      λ i. each (length (sets i)) (infill_at (sets i) (whole_in (density i)))

  ironing_kept : reaches steps.slice step ≡ true → reaches steps.perimeters step ≡ true → reaches steps.prepare step ≡ true → reaches steps.ironing step ≡ true → ironing_strokes_for a.config x ≡ ironing_strokes_for b.config y
  ironing_kept r s t u =
      let sets = surface_sets_kept r s t in
      let on = kept steps.ironing key.Ironing (omega arith) u refl refl in
      λ i. each (length (sets i)) (ironing_at (flag_in (on i)) (sets i))

  support_set_kept : reaches steps.slice step ≡ true → reaches steps.support step ≡ true → support_set_for a.config x ≡ support_set_for b.config y
  support_set_kept r s =
      let on = kept steps.support key.SupportMaterial (omega arith) s refl refl in
      let only = kept steps.support key.SupportMaterialBuildplateOnly (omega arith) s refl refl in
      ap support_set_on (same_supports a.config b.config x y (sliced_kept r) on only)

module _ (a b : Contents) (p : ℕ) (x y : Object) (here : p < 16) (old : place_in a.places p ≡ Some x) (new : place_in b.places p ≡ Some y) where
  pub object_kept : (step : ℕ) → step < 6 → is_touched a b (object_slot p step) ≡ false → object_value a.config x step ≡ object_value b.config y step
  object_kept zero low calm = ap Slices (sliced_kept a b p x y here old new 0 low calm refl)
  object_kept (suc zero) low calm = ap Perimeters (perimeters_kept a b p x y here old new 1 low calm refl refl)
  object_kept (suc (suc zero)) low calm = ap Surfaces (surface_sets_kept a b p x y here old new 2 low calm refl refl refl)
  object_kept (suc (suc (suc zero))) low calm = ap Strokes (infill_kept a b p x y here old new 3 low calm refl refl refl refl)
  object_kept (suc (suc (suc (suc zero)))) low calm = ap Strokes (ironing_kept a b p x y here old new 4 low calm refl refl refl refl)
  object_kept (suc (suc (suc (suc (suc zero))))) low calm = ap Support (support_set_kept a b p x y here old new 5 low calm refl refl)
  object_kept (suc (suc (suc (suc (suc (suc n)))))) low calm = absurd (omega arith)
