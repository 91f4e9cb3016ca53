-- A slot that is present in two plates and not touched between them has the same result in both.
use Rattle.std.proofs.Common.{◌≡◌, ℕ, zero, suc, ◌+◌, ◌-◌, ◌/◌, ◌%◌, ◌<◌, ◌≤◌, Bool, true, false, cond, [], Option, Some, None, is_some, true≢false, refl, sym, ap, ◌∙◌, arith}
use Rattle.std.specs.Option.{option_map_or}
use Rattle.std.proofs.lemmas.Bool.{ltb-true, ltb-false, cond-true, cond-false}
use Rattle.pl_model.specs.declared.object.Object.{Object}
use Rattle.pl_model.specs.Contents.{Contents}
use Rattle.pl_model.specs.Places.{place_in}
use Rattle.pl_cascade.specs.Slots.{is_object_slot, place_of, step_of, object_slot, print_slot, is_present}
use Rattle.pl_cascade.specs.Touched.{is_touched}
use Rattle.pl_cascade.proofs.Lawful.{present_below}
use Rattle.pl_slots.specs.declared.output.FffOutput.TheVariants.{Tower, Loops, Gcode}
use Rattle.pl_slots.specs.ObjectSteps.{object_value}
use Rattle.pl_slots.specs.Values.{sixteen, print_value, slot_value}
use Rattle.pl_slots.proofs.ObjectKept.{object_kept}
use Rattle.pl_slots.proofs.PrintKept.{tower_kept, skirt_kept, brim_kept}
use Rattle.pl_slots.proofs.ExportKept.{gcode_kept}

-- ---- a step of an object

-- the object of a present slot
object_there : (o : Option Object) → is_some o ≡ true → (x : Object) × (o ≡ Some x)
object_there (Some x) h = (x, refl)
object_there None h = absurd (true≢false (sym h))

there : (a : Contents) (s : ℕ) → is_object_slot s ≡ true → is_present a s ≡ true → is_some (place_in a.places (place_of s)) ≡ true
there a s object h = sym (cond-true _ _ _ object) ∙ h

object_slot_value : (a : Contents) (s : ℕ) (x : Object) → is_object_slot s ≡ true → place_in a.places (place_of s) ≡ Some x → slot_value a s ≡ object_value a.config x (s % 6)
object_slot_value a s x object here =
    let step : step_of s ≡ s % 6 = cond-true _ _ _ object in
    (λ i. cond (object i) (option_map_or (λ object. object_value a.config object (step_of s)) (here i) (Gcode [])) (print_value (sixteen a) (step_of s))) ∙ ap (object_value a.config x) step

object_slot_kept : (a b : Contents) (s : ℕ) → is_object_slot s ≡ true → is_present a s ≡ true → is_present b s ≡ true → is_touched a b s ≡ false → slot_value a s ≡ slot_value b s
object_slot_kept a b s object h k calm =
    let less : s < 96 = ltb-true _ _ object in
    let here : s / 6 < 16 = omega arith in
    let low : s % 6 < 6 = omega arith in
    let whole : object_slot (s / 6) (s % 6) ≡ s = omega arith in
    let x = object_there _ (there a s object h) in
    let y = object_there _ (there b s object k) in
    let same = object_kept a b (s / 6) x.0 y.0 here x.1 y.1 (s % 6) low (ap (is_touched a b) whole ∙ calm) in
    object_slot_value a s x.0 object x.1 ∙ same ∙ sym (object_slot_value b s y.0 object y.1)

-- ---- a step of the print

print_kept : (a b : Contents) (k : ℕ) → k < 4 → is_touched a b (print_slot (6 + k)) ≡ false → print_value (sixteen a) (6 + k) ≡ print_value (sixteen b) (6 + k)
print_kept a b zero low calm = ap Tower (tower_kept a b 6 (omega arith) (omega arith) calm refl)
print_kept a b (suc zero) low calm = ap Loops (skirt_kept a b 7 (omega arith) (omega arith) calm refl refl)
print_kept a b (suc (suc zero)) low calm = ap Loops (brim_kept a b 8 (omega arith) (omega arith) calm refl refl)
print_kept a b (suc (suc (suc zero))) low calm = ap Gcode (gcode_kept a b calm)
print_kept a b (suc (suc (suc (suc k)))) low calm = absurd (omega arith)

print_slot_value : (a : Contents) (s : ℕ) → is_object_slot s ≡ false → slot_value a s ≡ print_value (sixteen a) (6 + (s - 96))
print_slot_value a s print =
    let high : 96 ≤ s = ltb-false _ _ print in
    let step : step_of s ≡ s - 90 = cond-false _ _ _ print in
    let same : s - 90 ≡ 6 + (s - 96) = omega arith in
    (λ i. cond (print i) (option_map_or (λ object. object_value a.config object (step_of s)) (place_in a.places (place_of s)) (Gcode [])) (print_value (sixteen a) (step_of s))) ∙ ap (print_value (sixteen a)) (step ∙ same)

print_slot_kept : (a b : Contents) (s : ℕ) → s < 100 → is_object_slot s ≡ false → is_touched a b s ≡ false → slot_value a s ≡ slot_value b s
print_slot_kept a b s less print calm =
    let high : 96 ≤ s = ltb-false _ _ print in
    let whole : print_slot (6 + (s - 96)) ≡ s = omega arith in
    print_slot_value a s print ∙ print_kept a b (s - 96) (omega arith) (ap (is_touched a b) whole ∙ calm) ∙ sym (print_slot_value b s print)

-- ---- any slot

slot_kept_by : (a b : Contents) (s : ℕ) (object : Bool) → is_object_slot s ≡ object → is_present a s ≡ true → is_present b s ≡ true → is_touched a b s ≡ false → slot_value a s ≡ slot_value b s
slot_kept_by a b s true object h k calm = object_slot_kept a b s object h k calm
slot_kept_by a b s false print h k calm = print_slot_kept a b s (present_below a s h) print calm

pub slot_kept : (a b : Contents) (s : ℕ) → is_present a s ≡ true → is_present b s ≡ true → is_touched a b s ≡ false → slot_value a s ≡ slot_value b s
slot_kept a b s h k calm = slot_kept_by a b s (is_object_slot s) refl h k calm
