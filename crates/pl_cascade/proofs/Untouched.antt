-- What is equal in two plates where a slot is not touched.
use Rattle.std.proofs.Common.{◌≡◌, ℕ, ◌<◌, ◌≤◌, inl, inr, Bool, true, false, Option, Some, None, refl, ap, sym, ◌∙◌, arith}
use Rattle.std.specs.Prelude.{◌==◌, ◌&&◌, ◌||◌, not, is_some}
use Rattle.std.specs.FinMap.{get}
use Rattle.std.specs.Coded.{coded_list, coded_option}
use Rattle.std.proofs.lemmas.Bool.{and_parts, or_parts, or_cases, and_from, both_ways, true≢false, false_from_ne_true, lt-ltb, agree_below_at, eqb-true, cases_lt, not-false, cond-true, cond-false}
use Rattle.pl_stl.specs.contracts.mesh.Facet.{the_row as facet_row}
use Rattle.pl_keys.specs.contracts.value.Value.{the_row as value_row}
use Rattle.pl_keys.specs.declared.key.Key.{Key}
use Rattle.pl_keys.specs.Keys.{is_object_key}
use Rattle.pl_keys.specs.Table.{touches}
use Rattle.pl_keys.specs.Steps as steps
use Rattle.pl_options.specs.KeyMap.{KeyMap}
use Rattle.pl_model.specs.contracts.instances.Shift.{the_row as shift_row}
use Rattle.pl_model.specs.declared.object.Object.{Object}
use Rattle.pl_model.specs.Contents.{Contents}
use Rattle.pl_model.specs.Effective.{value_for}
use Rattle.pl_model.specs.Places.{place_in}
use Rattle.pl_cascade.specs.Slots.{place_of, step_of, object_slot, print_slot}
use Rattle.pl_cascade.specs.Cascade.{takes, closure_of}
use Rattle.pl_cascade.specs.Direct.{option_touches, options_touch, shape_differs, instances_differ, settings_touch, object_touched, print_touched, print_is_direct, is_direct}
use Rattle.pl_cascade.specs.Touched.{is_touched}
use Rattle.pl_cascade.proofs.Codes.{same_unless_differ}
use Rattle.pl_cascade.proofs.Searches.{none_below, none_of_keys}
use Rattle.pl_cascade.proofs.Arrows.{reaches, step_takes, taken_below, takes-here, takes-object, takes-print, is_object, is_print, place_of-object, step_of-object, step_of-print}
use Rattle.pl_cascade.proofs.Closures.{closure_member, closure_once, closure_twice}

-- ---- no slot from which an untouched one is reached is directly touched

in_closure : (a b : Contents) (slot : ℕ) → slot < 100 → is_touched a b slot ≡ false → closure_of (is_direct a b) slot ≡ false
in_closure a b slot less calm = false_from_ne_true _ (λ h. both_ways _ calm (and_from _ _ (lt-ltb slot 100 less) h))

pub untouched_itself : (a b : Contents) (slot : ℕ) → slot < 100 → is_touched a b slot ≡ false → is_direct a b slot ≡ false
untouched_itself a b slot less calm = false_from_ne_true _ (λ h. both_ways _ (in_closure a b slot less calm) (closure_member (is_direct a b) slot h))

pub untouched_taken : (a b : Contents) (from slot : ℕ) → takes from slot ≡ true → is_touched a b slot ≡ false → is_direct a b from ≡ false
untouched_taken a b from slot t calm =
    false_from_ne_true _ (λ h. both_ways _ (in_closure a b slot (taken_below from slot t) calm) (closure_once (is_direct a b) from slot h t))

pub untouched_twice : (a b : Contents) (from between slot : ℕ) → takes from between ≡ true → takes between slot ≡ true → is_touched a b slot ≡ false → is_direct a b from ≡ false
untouched_twice a b from between slot t u calm =
    false_from_ne_true _ (λ h. both_ways _ (in_closure a b slot (taken_below between slot u) calm) (closure_twice (is_direct a b) from between slot h t u))

-- ---- the same, by steps of one object and of the print

-- how a step is reached: it is the same, or it is taken, or it is skirt or brim, and taken by what prepare takes
data Way (from step : ℕ) : Type 0 where
  itself : from ≡ step → Way from step
  once : step_takes from step ≡ true → Way from step
  twice : from ≡ steps.prepare → step_takes steps.infill step ≡ true → 6 ≤ step → Way from step

over_infill : (step : ℕ) → ((step == steps.skirt) || (step == steps.brim)) ≡ true → (step_takes steps.infill step ≡ true) × (6 ≤ step)
over_infill step h = elim (or_cases _ _ h) [
  | inl skirt ↦ let e : step ≡ 7 = eqb-true step 7 skirt in (rw e refl, omega arith)
  | inr brim ↦ let e : step ≡ 8 = eqb-true step 8 brim in (rw e refl, omega arith)
]

way : (from step : ℕ) → reaches from step ≡ true → Way from step
way from step r = elim (or_cases _ _ r) [
  | inl same ↦ itself (eqb-true from step same)
  | inr further ↦ elim (or_cases _ _ further) [
    | inl taken ↦ once taken
    | inr far ↦ let parts = and_parts _ _ far in let over = over_infill step parts.1 in twice (eqb-true from 2 parts.0) over.0 over.1
  ]
]

pub untouched_here : (a b : Contents) (p from step : ℕ) → p < 16 → from < 6 → step < 6 → reaches from step ≡ true → is_touched a b (object_slot p step) ≡ false → is_direct a b (object_slot p from) ≡ false
untouched_here a b p from step here less below r calm = elim (way from step r) [
  | itself same ↦ untouched_itself a b (object_slot p from) (omega arith) (ap (λ s. is_touched a b (object_slot p s)) same ∙ calm)
  | once t ↦ untouched_taken a b (object_slot p from) (object_slot p step) (takes-here p from step here less below t) calm
  | twice prepare t high ↦ absurd (omega arith)
]

pub untouched_object : (a b : Contents) (p from step : ℕ) → p < 16 → from < 6 → 6 ≤ step → step < 10 → reaches from step ≡ true → is_touched a b (print_slot step) ≡ false → is_direct a b (object_slot p from) ≡ false
untouched_object a b p from step here less above below r calm = elim (way from step r) [
  | itself same ↦ absurd (omega arith)
  | once t ↦ untouched_taken a b (object_slot p from) (print_slot step) (takes-object p from step here less above t) calm
  | twice prepare t high ↦
      let infill : step_takes from steps.infill ≡ true = rw prepare refl in
      untouched_twice a b (object_slot p from) (object_slot p steps.infill) (print_slot step) (takes-here p from steps.infill here less (omega arith) infill) (takes-object p steps.infill step here (omega arith) above t) calm
]

pub untouched_print : (a b : Contents) (from step : ℕ) → 6 ≤ from → 6 ≤ step → step < 10 → reaches from step ≡ true → is_touched a b (print_slot step) ≡ false → is_direct a b (print_slot from) ≡ false
untouched_print a b from step high above below r calm = elim (way from step r) [
  | itself same ↦ untouched_itself a b (print_slot from) (omega arith) (ap (λ s. is_touched a b (print_slot s)) same ∙ calm)
  | once t ↦ untouched_taken a b (print_slot from) (print_slot step) (takes-print from step high above t) calm
  | twice prepare t far ↦ absurd (omega arith)
]

-- ---- what holds where nothing is directly touched

rest_false : (b c : Bool) → b ≡ true → (b && c) ≡ false → c ≡ false
rest_false true c e h = h
rest_false false c e h = absurd (true≢false (sym e))

-- the step of an object
calm_object : (a b : Contents) (p step : ℕ) (x y : Object) → p < 16 → step < 6 → place_in a.places p ≡ Some x → place_in b.places p ≡ Some y → is_direct a b (object_slot p step) ≡ false
    → (options_touch (value_for a.config x) (value_for b.config y) step ≡ false) × (((step == steps.slice) && shape_differs x y) ≡ false)
calm_object a b p step x y here less at_a at_b calm =
    let place : place_of (object_slot p step) ≡ p = place_of-object p step less in
    let old : place_in a.places (place_of (object_slot p step)) ≡ Some x = ap (place_in a.places) place ∙ at_a in
    let new : place_in b.places (place_of (object_slot p step)) ≡ Some y = ap (place_in b.places) place ∙ at_b in
    let same : step_of (object_slot p step) ≡ step = step_of-object p step here less in
    or_parts _ _ (sym (λ i. object_touched a.config (old i) b.config (new i) (same i)) ∙ sym (cond-true _ _ _ (is_object p step here less)) ∙ calm)

print_parts : (a b : Contents) (step : ℕ) → print_is_direct a b step ≡ false
    → (settings_touch (get a.config) (get b.config) step ≡ false) × ((p : ℕ) → p < 16 → print_touched a.config (place_in a.places p) b.config (place_in b.places p) step ≡ false)
unfolding print_is_direct
print_parts a b step calm =
    let parts = or_parts _ _ calm in
    (parts.0, λ p here. none_below (λ place. print_touched a.config (place_in a.places place) b.config (place_in b.places place) step) 16 p parts.1 here)

-- the step of the print
calm_print : (a b : Contents) (step : ℕ) → 6 ≤ step → is_direct a b (print_slot step) ≡ false
    → (settings_touch (get a.config) (get b.config) step ≡ false) × ((p : ℕ) → p < 16 → print_touched a.config (place_in a.places p) b.config (place_in b.places p) step ≡ false)
calm_print a b step high calm =
    print_parts a b step (ap (print_is_direct a b) (sym (step_of-print step high)) ∙ sym (cond-false _ _ _ (is_print step high)) ∙ calm)

calm_place : (a b : Contents) (p step : ℕ) (x y : Object) → p < 16 → 6 ≤ step → place_in a.places p ≡ Some x → place_in b.places p ≡ Some y → is_direct a b (print_slot step) ≡ false
    → (options_touch (value_for a.config x) (value_for b.config y) step ≡ false) × (instances_differ x y ≡ false)
calm_place a b p step x y here high at_a at_b calm =
    or_parts _ _ (sym (λ i. print_touched a.config (at_a i) b.config (at_b i) step) ∙ (calm_print a b step high calm).1 p here)

calm_option : (config later : KeyMap) (x y : Object) (step : ℕ) (key : Key) → options_touch (value_for config x) (value_for later y) step ≡ false → is_object_key key ≡ true → touches key step ≡ true → value_for config x key ≡ value_for later y key
unfolding options_touch
calm_option config later x y step key calm own t =
    let none = none_of_keys (λ k. is_object_key k && option_touches (value_for config x) (value_for later y) step k) key calm in
    same_unless_differ (coded_option value_row.coded) (value_for config x key) (value_for later y key) (rest_false _ _ t (rest_false _ _ own none))

calm_setting : (config later : KeyMap) (step : ℕ) (key : Key) → settings_touch (get config) (get later) step ≡ false → is_object_key key ≡ false → touches key step ≡ true → get config key ≡ get later key
unfolding settings_touch
calm_setting config later step key calm whole t =
    let none = none_of_keys (λ k. not (is_object_key k) && option_touches (get config) (get later) step k) key calm in
    same_unless_differ (coded_option value_row.coded) (get config key) (get later key) (rest_false _ _ t (rest_false _ _ (ap not whole) none))

calm_shape : (x y : Object) → shape_differs x y ≡ false → (x.mesh ≡ y.mesh) × (x.quarter ≡ y.quarter)
calm_shape x y calm =
    let parts = or_parts _ _ calm in
    (same_unless_differ (coded_list facet_row.coded) x.mesh y.mesh parts.0, eqb-true _ _ (not-false _ parts.1))

calm_places : (config : KeyMap) (old : Option Object) (later : KeyMap) (new : Option Object) (step : ℕ) → print_touched config old later new step ≡ false → is_some old ≡ is_some new
calm_places config (Some x) later (Some y) step calm = refl
calm_places config None later None step calm = refl
calm_places config (Some x) later None step calm = absurd (true≢false calm)
calm_places config None later (Some y) step calm = absurd (true≢false calm)

-- slice reaches every step
from_slice : (step : ℕ) → step < 10 → reaches steps.slice step ≡ true
from_slice step less = agree_below_at (reaches steps.slice) (λ _. true) 10 step refl less

-- ---- an untouched slot of an object that stands in both plates

-- the options of the object
pub same_option : (a b : Contents) (p from step : ℕ) (x y : Object) (key : Key) → p < 16 → step < 6 → place_in a.places p ≡ Some x → place_in b.places p ≡ Some y → is_touched a b (object_slot p step) ≡ false
    → is_object_key key ≡ true → touches key from ≡ true → from < 6 → reaches from step ≡ true → value_for a.config x key ≡ value_for b.config y key
same_option a b p from step x y key here less at_a at_b calm own t low r =
    calm_option a.config b.config x y from key (calm_object a b p from x y here low at_a at_b (untouched_here a b p from step here low less r calm)).0 own t

-- the mesh and its turn
pub same_shape : (a b : Contents) (p step : ℕ) (x y : Object) → p < 16 → step < 6 → place_in a.places p ≡ Some x → place_in b.places p ≡ Some y → is_touched a b (object_slot p step) ≡ false
    → (x.mesh ≡ y.mesh) × (x.quarter ≡ y.quarter)
same_shape a b p step x y here less at_a at_b calm =
    calm_shape x y (calm_object a b p steps.slice x y here (omega arith) at_a at_b (untouched_here a b p steps.slice step here (omega arith) less (from_slice step (omega arith)) calm)).1

-- ---- an untouched slot of the print

-- which places are filled
pub same_places : (a b : Contents) (step : ℕ) → 6 ≤ step → step < 10 → is_touched a b (print_slot step) ≡ false → (p : ℕ) → p < 16 → is_some (place_in a.places p) ≡ is_some (place_in b.places p)
same_places a b step above below calm p here =
    calm_places a.config _ b.config _ step ((calm_print a b step above (untouched_itself a b (print_slot step) (omega arith) calm)).1 p here)

-- the instances of each object
pub same_instances : (a b : Contents) (step : ℕ) → 6 ≤ step → step < 10 → is_touched a b (print_slot step) ≡ false → (p : ℕ) (x y : Object) → p < 16 → place_in a.places p ≡ Some x → place_in b.places p ≡ Some y
    → x.instances ≡ y.instances
same_instances a b step above below calm p x y here at_a at_b =
    same_unless_differ (coded_list shift_row.coded) x.instances y.instances (calm_place a b p step x y here above at_a at_b (untouched_itself a b (print_slot step) (omega arith) calm)).1

-- the meshes and turns of each object
pub same_shapes : (a b : Contents) (step : ℕ) → 6 ≤ step → step < 10 → is_touched a b (print_slot step) ≡ false → (p : ℕ) (x y : Object) → p < 16 → place_in a.places p ≡ Some x → place_in b.places p ≡ Some y
    → (x.mesh ≡ y.mesh) × (x.quarter ≡ y.quarter)
same_shapes a b step above below calm p x y here at_a at_b =
    calm_shape x y (calm_object a b p steps.slice x y here (omega arith) at_a at_b (untouched_object a b p steps.slice step here (omega arith) above below (from_slice step below) calm)).1

-- the options of each object
pub same_options : (a b : Contents) (from step : ℕ) (key : Key) → 6 ≤ step → step < 10 → is_touched a b (print_slot step) ≡ false → is_object_key key ≡ true → touches key from ≡ true → reaches from step ≡ true
    → (p : ℕ) (x y : Object) → p < 16 → place_in a.places p ≡ Some x → place_in b.places p ≡ Some y → value_for a.config x key ≡ value_for b.config y key
same_options a b from step key above below calm own t r p x y here at_a at_b = elim (cases_lt from 6) [
  | inl low ↦ calm_option a.config b.config x y from key (calm_object a b p from x y here low at_a at_b (untouched_object a b p from step here low above below r calm)).0 own t
  | inr high ↦ calm_option a.config b.config x y from key (calm_place a b p from x y here high at_a at_b (untouched_print a b from step high above below r calm)).0 own t
]

-- the options of the print
pub same_setting : (a b : Contents) (from step : ℕ) (key : Key) → 6 ≤ step → step < 10 → is_touched a b (print_slot step) ≡ false → is_object_key key ≡ false → touches key from ≡ true → 6 ≤ from → reaches from step ≡ true
    → get a.config key ≡ get b.config key
same_setting a b from step key above below calm whole t high r =
    calm_setting a.config b.config from key (calm_print a b from high (untouched_print a b from step high above below r calm)).0 whole t
