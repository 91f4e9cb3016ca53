-- The laws of that kind of print.
use Rattle.std.proofs.Common.{◌≡◌, ◌<◌, ℕ, Bool, true, false, cond, List, [], Option, Some, None, true≢false, refl, ap, sym, ◌∙◌, arith}
use Rattle.std.specs.Prelude.{◌==◌}
use Rattle.std.specs.Option.{option_map_or}
use Rattle.std.proofs.lemmas.Bool.Decides.{nat_tests}
use Rattle.pl_keys.specs.Steps as steps
use Rattle.pl_tech.specs.Technology.{IsLawful}
use Rattle.pl_options.specs.KeyMap.{KeyMap}
use Rattle.pl_model.specs.declared.object.Object.{Object}
use Rattle.pl_model.specs.Contents.{Contents}
use Rattle.pl_model.specs.Places.{place_in}
use Rattle.pl_model.specs.Problem.{problem_of}
use Rattle.pl_model.specs.Same.{same_plates}
use Rattle.pl_model.proofs.SamePlates.{same_plates-is}
use Rattle.pl_cascade.specs.Slots.{is_object_slot, place_of, step_of, is_present}
use Rattle.pl_cascade.specs.Touched.{is_touched}
use Rattle.pl_cascade.proofs.Lawful as cascade
use Rattle.pl_values.specs.PrintValues.{skirt_for, brim_for}
use Rattle.pl_values.specs.Whole.{plate_gcode}
use Rattle.pl_slots.specs.Outputs.{output_bytes}
use Rattle.pl_slots.specs.declared.output.FffOutput.{FffOutput}
use Rattle.pl_slots.specs.declared.output.FffOutput.TheVariants.{Slices, Perimeters, Surfaces, Strokes, Support, Tower, Loops, Gcode}
use Rattle.pl_slots.specs.ObjectSteps.{sliced_for, perimeters_for, surface_sets_for, infill_strokes_for, ironing_strokes_for, support_set_for, object_value}
use Rattle.pl_slots.specs.Values.{sixteen, tower_for, print_value, slot_value}
use Rattle.pl_slots.specs.Fff.{fff_meaning}
use Rattle.pl_slots.proofs.NameLaws.{names_short, names_solid, names_there, names_apart}
use Rattle.pl_slots.proofs.SlotsKept.{slot_kept}

-- plates are found equal where they are
same_is : (p q : Contents) → same_plates p q ≡ true → p ≡ q
same_is p q h = (same_plates-is p q).0 h

is_same : (p q : Contents) → p ≡ q → same_plates p q ≡ true
is_same p q e = (same_plates-is p q).1 e

-- ---- only the export has bytes

-- the first of two results, where a test passes, and else the other
bytes_if : (test : Bool) (x y : FffOutput) → output_bytes x ≡ [] → output_bytes y ≡ [] → output_bytes (cond test x y) ≡ []
bytes_if true x y h k = h
bytes_if false x y h k = k

object_bytes : (config : KeyMap) (object : Object) (step : ℕ) → output_bytes (object_value config object step) ≡ []
object_bytes config object step =
    let support = bytes_if (step == steps.support) (Support (support_set_for config object)) (Gcode []) refl refl in
    let ironing = bytes_if (step == steps.ironing) (Strokes (ironing_strokes_for config object)) _ refl support in
    let infill = bytes_if (step == steps.infill) (Strokes (infill_strokes_for config object)) _ refl ironing in
    let prepare = bytes_if (step == steps.prepare) (Surfaces (surface_sets_for config object)) _ refl infill in
    let perimeters = bytes_if (step == steps.perimeters) (Perimeters (perimeters_for config object)) _ refl prepare in
    bytes_if (step == steps.slice) (Slices (sliced_for config object)) _ refl perimeters

place_bytes : (config : KeyMap) (place : Option Object) (step : ℕ) → output_bytes (option_map_or (λ object. object_value config object step) place (Gcode [])) ≡ []
place_bytes config (Some object) step = object_bytes config object step
place_bytes config None step = refl

export_bytes : (text : List ℕ) (export : Bool) → export ≡ false → output_bytes (cond export (Gcode text) (Gcode [])) ≡ []
export_bytes text true other = absurd (true≢false other)
export_bytes text false other = refl

print_bytes : (a : Contents) (step : ℕ) → (step == steps.export) ≡ false → output_bytes (print_value a step) ≡ []
print_bytes a step other =
    let brim = bytes_if (step == steps.brim) (Loops (brim_for a)) (cond (step == steps.export) (Gcode (plate_gcode a)) (Gcode [])) refl (export_bytes (plate_gcode a) (step == steps.export) other) in
    let skirt = bytes_if (step == steps.skirt) (Loops (skirt_for a)) (cond (step == steps.brim) (Loops (brim_for a)) (cond (step == steps.export) (Gcode (plate_gcode a)) (Gcode []))) refl brim in
    bytes_if (step == steps.tower) (Tower (tower_for a)) (cond (step == steps.skirt) (Loops (skirt_for a)) (cond (step == steps.brim) (Loops (brim_for a)) (cond (step == steps.export) (Gcode (plate_gcode a)) (Gcode [])))) refl skirt

no_bytes : (a : Contents) (s : ℕ) → s < 99 → output_bytes (slot_value a s) ≡ []
no_bytes a s less =
    let other : (step_of s == steps.export) ≡ false = grind (arith, nat_tests) in
    bytes_if (is_object_slot s) (option_map_or (λ object. object_value a.config object (step_of s)) (place_in a.places (place_of s)) (Gcode [])) (print_value (sixteen a) (step_of s)) (place_bytes a.config (place_in a.places (place_of s)) (step_of s)) (print_bytes (sixteen a) (step_of s) other)

-- ---- the laws

pub fff_laws : IsLawful fff_meaning
fff_laws = record {
  same_itself = λ a. is_same a a refl;
  same_sym = λ a b h. is_same b a (sym (same_is a b h));
  same_trans = λ a b c h k. is_same a c (same_is a b h ∙ same_is b c k);
  same_present = λ a b h s. ap (λ p. is_present p s) (same_is a b h);
  same_problem = λ a b h. ap problem_of (same_is a b h);
  same_untouched = λ a b h s. ap (λ p. is_touched a p s) (sym (same_is a b h)) ∙ cascade.same_untouched a s;
  present_below = cascade.present_below;
  kept_value = slot_kept;
  kept_needs = λ a b s h k u n. cascade.kept_needs a b s h u n;
  touched_up = λ a b s n h k u t. cascade.touched_up a b s n u t;
  changed_touched = cascade.changed_touched;
  needs_present = cascade.needs_present;
  needs_below = λ a s n h k. cascade.needs_below a s n k;
  last_present = cascade.last_present;
  last_needs = cascade.last_needs;
  last_bytes = λ a s h k. no_bytes a s k;
  name_short = names_short;
  name_solid = names_solid;
  name_present = names_there;
  name_apart = names_apart;
}
