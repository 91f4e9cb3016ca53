-- Laws of the cascade.
use Rattle.std.proofs.Common.{◌≡◌, ◌≢◌, ℕ, ◌-◌, ◌/◌, ◌%◌, ◌<◌, ◌≤◌, Bool, true, false, nat_lt, Option, Some, None, refl, ap, sym, ◌∙◌, arith, inl, inr}
use Rattle.std.specs.Prelude.{◌==◌, ◌&&◌, ◌||◌, not, if◌then◌else◌, is_some}
use Rattle.std.specs.Coded.{coded_list, coded_option}
use Rattle.std.specs.FinMap.{get}
use Rattle.std.specs.List.{range_with_len}
use Rattle.std.proofs.lemmas.Bool.{and_parts, and_from, and_right, or_from, cases_Bool, cases_lt, both_ways, true≢false, lt-ltb, le-ltb, ltb-true, ltb-false, eq-eqb, eqb-true, not_from_true, cond-true, cond-false, false_from_ne_true}
use Rattle.std.proofs.lemmas.Bool.Decides.{nat_tests}
use Rattle.pl_stl.specs.contracts.mesh.Facet.{the_row as facet_row}
use Rattle.pl_keys.specs.contracts.value.Value.{the_row as value_row}
use Rattle.pl_keys.specs.declared.key.Key.{Key}
use Rattle.pl_keys.specs.declared.value.Value.{Value}
use Rattle.pl_keys.specs.Keys.{keys, is_object_key}
use Rattle.pl_keys.specs.Steps as steps
use Rattle.pl_options.specs.KeyMap.{KeyMap}
use Rattle.pl_model.specs.contracts.instances.Shift.{the_row as shift_row}
use Rattle.pl_model.specs.declared.object.Object.{Object}
use Rattle.pl_model.specs.Contents.{Contents}
use Rattle.pl_model.specs.Effective.{value_for}
use Rattle.pl_model.specs.Places.{place_in}
use Rattle.pl_cascade.specs.Slots.{is_object_slot, place_of, step_of, print_slot, is_one_of, is_present, needs_here, needs_of_ground, print_needs, needs_slot}
use Rattle.pl_cascade.specs.Cascade.{takes}
use Rattle.pl_cascade.specs.Direct.{option_touches, options_touch, settings_touch, object_touched, print_touched, print_is_direct, is_direct}
use Rattle.pl_cascade.specs.Touched.{is_touched}
use Rattle.pl_cascade.proofs.Codes.{none_differs}
use Rattle.pl_cascade.proofs.Searches.{none_passes}
use Rattle.pl_cascade.proofs.Arrows.{step_takes, at_pairs, implied, is_taken, taken_below, step_below, step_above}
use Rattle.pl_cascade.proofs.Closures.{closure_member, closure_taken, is_closure}
use Rattle.pl_cascade.proofs.Untouched.{same_places}

-- ---- what is touched takes

pub direct_touched : (a b : Contents) (slot : ℕ) → slot < 100 → is_direct a b slot ≡ true → is_touched a b slot ≡ true
direct_touched a b slot less h = and_from _ _ (lt-ltb slot 100 less) (closure_member (is_direct a b) slot h)

pub touched_taken : (a b : Contents) (slot taken : ℕ) → is_touched a b slot ≡ true → takes slot taken ≡ true → is_touched a b taken ≡ true
touched_taken a b slot taken h t =
    and_from _ _ (lt-ltb taken 100 (taken_below slot taken t)) (closure_taken (is_direct a b) slot taken (and_parts _ _ h).1 t)

-- ---- between equal plates nothing is touched

none_itself : (values : Key → Option Value) (step : ℕ) (key : Key) → option_touches values values step key ≡ false
none_itself values step key = and_right _ _ (none_differs (coded_option value_row.coded) (values key) (values key) refl)

no_options : (values : Key → Option Value) (step : ℕ) → options_touch values values step ≡ false
unfolding options_touch
no_options values step = none_passes (λ key. is_object_key key && option_touches values values step key) keys (λ key. and_right _ _ (none_itself values step key))

no_settings : (values : Key → Option Value) (step : ℕ) → settings_touch values values step ≡ false
unfolding settings_touch
no_settings values step = none_passes (λ key. not (is_object_key key) && option_touches values values step key) keys (λ key. and_right _ _ (none_itself values step key))

same_object : (config : KeyMap) (place : Option Object) (step : ℕ) → object_touched config place config place step ≡ false
same_object config None step = refl
same_object config (Some x) step =
    or_from _ _ (no_options (value_for config x) step)
    (and_right _ _ (or_from _ _ (none_differs (coded_list facet_row.coded) x.mesh x.mesh refl) (not_from_true _ (eq-eqb x.quarter x.quarter refl))))

same_print : (config : KeyMap) (place : Option Object) (step : ℕ) → print_touched config place config place step ≡ false
same_print config None step = refl
same_print config (Some x) step = or_from _ _ (no_options (value_for config x) step) (none_differs (coded_list shift_row.coded) x.instances x.instances refl)

print_itself : (a : Contents) (step : ℕ) → print_is_direct a a step ≡ false
unfolding print_is_direct
print_itself a step =
    or_from _ _ (no_settings (get a.config) step)
    (none_passes (λ place. print_touched a.config (place_in a.places place) a.config (place_in a.places place) step) (range_with_len 0 16) (λ place. same_print a.config (place_in a.places place) step))

direct_itself : (a : Contents) (slot : ℕ) → is_direct a a slot ≡ false
direct_itself a slot = elim (cases_Bool (is_object_slot slot)) [
  | inl object ↦ cond-true (is_object_slot slot) _ (print_is_direct a a (step_of slot)) object ∙ same_object a.config (place_in a.places (place_of slot)) (step_of slot)
  | inr print ↦ cond-false (is_object_slot slot) _ (print_is_direct a a (step_of slot)) print ∙ print_itself a (step_of slot)
]

pub same_untouched : (a : Contents) (slot : ℕ) → is_touched a a slot ≡ false
same_untouched a slot =
    and_right _ _ (false_from_ne_true _ (λ h.
    true≢false (sym ((is_closure (is_direct a a)).least (λ _. false) (λ s d. sym (direct_itself a s) ∙ d) (λ s t none _. none) slot h))))

-- ---- needs are taken

-- what a step of the print needs, by steps
step_needs : ℕ → ℕ → Bool
step_needs step need =
    if step == steps.tower then nat_lt need 6
    else if (step == steps.skirt) || (step == steps.brim) then nat_lt need 6 && is_one_of needs_of_ground need
    else if step == steps.export then nat_lt need 9
    else false

needed_here : ℕ → ℕ → Bool
needed_here step need = not (is_one_of (needs_here step) need) || (nat_lt need step && step_takes need step)

needed_print : ℕ → ℕ → Bool
needed_print step need = not (step_needs step need) || (nat_lt need step && step_takes need step)

needs_before : (step need : ℕ) → step < 10 → need < 10 → is_one_of (needs_here step) need ≡ true → (nat_lt need step ≡ true) × (step_takes need step ≡ true)
unfolding needed_here
needs_before step need less low h = and_parts _ _ (implied _ _ (at_pairs needed_here refl step need less low) h)

print_before : (step need : ℕ) → step < 10 → need < 10 → step_needs step need ≡ true → (nat_lt need step ≡ true) × (step_takes need step ≡ true)
unfolding needed_print step_needs
print_before step need less low h = and_parts _ _ (implied _ _ (at_pairs needed_print refl step need less low) h)

far_needs : (step need : ℕ) → 10 ≤ step → step_needs step need ≡ false
unfolding step_needs
far_needs step need far = grind (arith, nat_tests)

among : (step need : ℕ) → step_needs step need ≡ true → step < 10
among step need h = elim (cases_lt step 10) [
  | inl less ↦ less
  | inr far ↦ absurd (both_ways _ (far_needs step need far) h)
]

below_object : (n : ℕ) → is_object_slot n ≡ nat_lt (step_of n) 6
below_object n = elim (cases_Bool (is_object_slot n)) [
  | inl object ↦ object ∙ sym (lt-ltb _ _ (step_below n object))
  | inr print ↦ print ∙ sym (le-ltb _ _ (step_above n print).0)
]

below_last : (n : ℕ) → nat_lt n 99 ≡ nat_lt (step_of n) 9
below_last n = elim (cases_Bool (is_object_slot n)) [
  | inl object ↦ let low : n < 96 = ltb-true _ _ object in let step : step_of n < 6 = step_below n object in lt-ltb n 99 (omega arith) ∙ sym (lt-ltb _ _ (omega arith))
  | inr print ↦ let far : 96 ≤ n = ltb-false _ _ print in let step : step_of n ≡ n - 90 = (step_above n print).1 in grind (arith, nat_tests)
]

print_by_steps : (step n : ℕ) → print_needs step n ≡ step_needs step (step_of n)
unfolding step_needs
print_by_steps step n i =
    if step == steps.tower then below_object n i
    else if (step == steps.skirt) || (step == steps.brim) then below_object n i && is_one_of needs_of_ground (step_of n)
    else if step == steps.export then below_last n i
    else false

object_need : (plate : Contents) (s n : ℕ) → is_object_slot s ≡ true → needs_slot plate s n ≡ true → (is_object_slot n ≡ true) × (place_of n ≡ place_of s) × (is_one_of (needs_here (step_of s)) (step_of n) ≡ true)
object_need plate s n object h =
    let parts = and_parts _ _ (sym (cond-true (is_object_slot s) (is_object_slot n && ((place_of n == place_of s) && is_one_of (needs_here (step_of s)) (step_of n))) (is_present plate n && print_needs (step_of s) n) object) ∙ h) in
    let more = and_parts _ _ parts.1 in
    (parts.0, eqb-true _ _ more.0, more.1)

print_need : (plate : Contents) (s n : ℕ) → is_object_slot s ≡ false → needs_slot plate s n ≡ true → (is_present plate n ≡ true) × (print_needs (step_of s) n ≡ true)
print_need plate s n print h =
    and_parts _ _ (sym (cond-false (is_object_slot s) (is_object_slot n && ((place_of n == place_of s) && is_one_of (needs_here (step_of s)) (step_of n))) (is_present plate n && print_needs (step_of s) n) print) ∙ h)

pub present_below : (plate : Contents) (slot : ℕ) → is_present plate slot ≡ true → slot < 100
present_below plate slot h = elim (cases_Bool (is_object_slot slot)) [
  | inl object ↦ let low : slot < 96 = ltb-true _ _ object in omega arith
  | inr print ↦ ltb-true _ _ (sym (cond-false (is_object_slot slot) (is_some (place_in plate.places (place_of slot))) (nat_lt slot 100) print) ∙ h)
]

step_among : (slot : ℕ) → slot < 100 → step_of slot < 10
step_among slot less = elim (cases_Bool (is_object_slot slot)) [
  | inl object ↦ let step : step_of slot < 6 = step_below slot object in omega arith
  | inr print ↦ let step : step_of slot ≡ slot - 90 = (step_above slot print).1 in omega arith
]

-- a need has an earlier step that takes the slot
before_it : (plate : Contents) (s n : ℕ) → needs_slot plate s n ≡ true → (step_of n < step_of s) × (step_takes (step_of n) (step_of s) ≡ true)
before_it plate s n h = elim (cases_Bool (is_object_slot s)) [
  | inl object ↦
      let needed = object_need plate s n object h in
      let step : step_of s < 6 = step_below s object in
      let low : step_of n < 6 = step_below n needed.0 in
      let is = needs_before (step_of s) (step_of n) (omega arith) (omega arith) needed.2 in
      (ltb-true _ _ is.0, is.1)
  | inr print ↦
      let needed = print_need plate s n print h in
      let steps_need : step_needs (step_of s) (step_of n) ≡ true = sym (print_by_steps (step_of s) n) ∙ needed.1 in
      let is = print_before (step_of s) (step_of n) (among (step_of s) (step_of n) steps_need) (step_among n (present_below plate n needed.0)) steps_need in
      (ltb-true _ _ is.0, is.1)
]

needs_taken : (plate : Contents) (s n : ℕ) → needs_slot plate s n ≡ true → takes n s ≡ true
needs_taken plate s n h =
    is_taken n s (record {
      steps = (before_it plate s n h).1;
      same = λ object. let needed = object_need plate s n object h in (needed.0, needed.1);
    })

-- ---- the laws of needs and of what is touched

pub needs_below : (plate : Contents) (s n : ℕ) → needs_slot plate s n ≡ true → n < s
needs_below plate s n h = elim (cases_Bool (is_object_slot s)) [
  | inl object ↦
      let needed = object_need plate s n object h in
      let first : step_of n < step_of s = (before_it plate s n h).0 in
      let one : step_of s ≡ s % 6 = cond-true _ _ _ object in
      let other : step_of n ≡ n % 6 = cond-true _ _ _ needed.0 in
      let place : n / 6 ≡ s / 6 = needed.1 in
      omega arith
  | inr print ↦ elim (cases_Bool (is_object_slot n)) [
    | inl object ↦ let low : n < 96 = ltb-true _ _ object in let far : 96 ≤ s = ltb-false _ _ print in omega arith
    | inr later ↦
        let first : step_of n < step_of s = (before_it plate s n h).0 in
        let one : step_of s ≡ s - 90 = (step_above s print).1 in
        let other : step_of n ≡ n - 90 = (step_above n later).1 in
        omega arith
  ]
]

pub needs_present : (plate : Contents) (s n : ℕ) → is_present plate s ≡ true → needs_slot plate s n ≡ true → is_present plate n ≡ true
needs_present plate s n there h = elim (cases_Bool (is_object_slot s)) [
  | inl object ↦
      let needed = object_need plate s n object h in
      cond-true (is_object_slot n) (is_some (place_in plate.places (place_of n))) (nat_lt n 100) needed.0 ∙ ap (λ p. is_some (place_in plate.places p)) needed.1
      ∙ sym (cond-true (is_object_slot s) (is_some (place_in plate.places (place_of s))) (nat_lt s 100) object) ∙ there
  | inr print ↦ (print_need plate s n print h).0
]

pub last_present : (plate : Contents) → is_present plate 99 ≡ true
last_present plate = refl

pub last_needs : (plate : Contents) (slot : ℕ) → is_present plate slot ≡ true → slot < 99 → needs_slot plate 99 slot ≡ true
last_needs plate slot there less = and_from _ _ there (lt-ltb slot 99 less)

pub touched_up : (a b : Contents) (s n : ℕ) → needs_slot b s n ≡ true → is_touched a b n ≡ true → is_touched a b s ≡ true
touched_up a b s n h t = touched_taken a b n s t (needs_taken b s n h)

one_alone : (config later : KeyMap) (old new : Option Object) (step : ℕ) → is_some old ≢ is_some new → object_touched config old later new step ≡ true
one_alone config later (Some x) (Some y) step other = absurd (other refl)
one_alone config later None None step other = absurd (other refl)
one_alone config later (Some x) None step other = refl
one_alone config later None (Some y) step other = refl

pub changed_touched : (a b : Contents) (slot : ℕ) → is_present a slot ≢ is_present b slot → is_touched a b slot ≡ true
changed_touched a b slot other = elim (cases_Bool (is_object_slot slot)) [
  | inl object ↦
      let low : slot < 96 = ltb-true _ _ object in
      let places : is_some (place_in a.places (place_of slot)) ≢ is_some (place_in b.places (place_of slot))
      = λ e. other (λ i. if is_object_slot slot then e i else nat_lt slot 100) in
      direct_touched a b slot (omega arith) (cond-true (is_object_slot slot) _ (print_is_direct a b (step_of slot)) object ∙ one_alone a.config b.config (place_in a.places (place_of slot)) (place_in b.places (place_of slot)) (step_of slot) places)
  | inr print ↦
      absurd (other (cond-false (is_object_slot slot) (is_some (place_in a.places (place_of slot))) (nat_lt slot 100) print ∙ sym (cond-false (is_object_slot slot) (is_some (place_in b.places (place_of slot))) (nat_lt slot 100) print)))
]

-- the same slots are there where a slot of the print is not touched
same_present : (a b : Contents) (slot : ℕ) → slot < 100 → is_object_slot slot ≡ false → is_touched a b slot ≡ false → (n : ℕ) → is_present a n ≡ is_present b n
same_present a b slot less print calm n = elim (cases_Bool (is_object_slot n)) [
  | inl object ↦
      let low : n < 96 = ltb-true _ _ object in
      let far : 96 ≤ slot = ltb-false _ _ print in
      let its : print_slot (slot - 90) ≡ slot = omega arith in
      let same : is_some (place_in a.places (place_of n)) ≡ is_some (place_in b.places (place_of n))
      = same_places a b (slot - 90) (omega arith) (omega arith) (ap (is_touched a b) its ∙ calm) (place_of n) (omega arith) in
      λ i. if is_object_slot n then same i else nat_lt n 100
  | inr other ↦
      cond-false (is_object_slot n) (is_some (place_in a.places (place_of n))) (nat_lt n 100) other ∙ sym (cond-false (is_object_slot n) (is_some (place_in b.places (place_of n))) (nat_lt n 100) other)
]

pub kept_needs : (a b : Contents) (slot : ℕ) → is_present a slot ≡ true → is_touched a b slot ≡ false → (n : ℕ) → needs_slot a slot n ≡ needs_slot b slot n
kept_needs a b slot there calm n = elim (cases_Bool (is_object_slot slot)) [
  | inl object ↦ cond-true (is_object_slot slot) _ (is_present a n && print_needs (step_of slot) n) object ∙ sym (cond-true (is_object_slot slot) _ (is_present b n && print_needs (step_of slot) n) object)
  | inr print ↦
      let same : is_present a n ≡ is_present b n = same_present a b slot (present_below a slot there) print calm n in
      λ i. if is_object_slot slot then is_object_slot n && ((place_of n == place_of slot) && is_one_of (needs_here (step_of slot)) (step_of n)) else same i && print_needs (step_of slot) n
]
