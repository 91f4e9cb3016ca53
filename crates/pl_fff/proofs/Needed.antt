-- The results that a slot needs are kept.
use Rattle.std.proofs.Common.{◌≡◌, ℕ, ◌+◌, ◌*◌, ◌/◌, ◌%◌, ◌<◌, ◌≤◌, Bool, true, false, cond, List, [], ◌∷◌, length, get_or, Option, Some, None, Result, IfOk, refl, sym, ap, ◌∙◌, arith, subst}
use Rattle.std.specs.Prelude.{◌==◌, ◌&&◌, nat_lt, is_some}
use Rattle.std.specs.Option.{IfSome}
use Rattle.std.proofs.lemmas.Bool.{cond-true, cond-false, lt-ltb, ltb-true, eq-eqb, true≢false}
use Rattle.std.proofs.lemmas.Bool.Decides.{nat_tests}
use Rattle.std.proofs.lemmas.List.{get_or_default}
use Rattle.std.proofs.lemmas.Option.{slice_get-get_or}
use Rattle.pl_keys.specs.Steps as steps
use Rattle.pl_options.specs.KeyMap.{KeyMap}
use Rattle.pl_tech.specs.Kept.{kept_at}
use Rattle.pl_model.specs.declared.object.Object.{Object}
use Rattle.pl_model.specs.Contents.{Contents}
use Rattle.pl_model.specs.Places.{place_in, ArePlaces}
use Rattle.pl_model.specs.Editing.{IsAt}
use Rattle.pl_model.specs.Printable.{AreInBed, CanBePrinted}
use Rattle.pl_cascade.specs.Slots.{is_object_slot, place_of, step_of, object_slot, print_slot, is_one_of, is_present, needs_here, needs_of_ground, print_needs, needs_slot}
use Rattle.pl_cascade.proofs.Arrows.{is_object, place_of-object, step_of-object}
use Rattle.pl_slots.specs.declared.output.FffOutput.{FffOutput}
use Rattle.pl_slots.specs.ObjectSteps.{object_value}
use Rattle.pl_slots.specs.Values.{slot_value, print_value}
use Rattle.pl_slots.specs.Batches.{print_batches, batches}
use Rattle.pl_slots.proofs.Results.{object_step, print_step, step_batches}
use Rattle.pl_units.specs.declared.NoMemory.{NoMemory}
use Rattle.pl_fff.specs.declared.job.FffJob.{FffJob}
use Rattle.pl_fff.specs.Kept.{IsKept, AreKept}
use Rattle.pl_fff.specs.Jobs.{job_value, job_polls}

-- ---- what is known of a place that is read

module _ (plate : Contents) (items : List (Option Object)) (i : ℕ) (same : items ≡ plate.places) (less : i < length items) where
  pub kept_here : (kept : List (Option FffOutput)) (config : KeyMap) (step : ℕ) (place : Option Object) → AreKept kept plate step → config ≡ plate.config → i < 16 → place ≡ get_or items i place → IfSome place (λ object. IsKept kept config object i step)
  kept_here kept config step None all of_config low read = tt
  kept_here kept config step (Some object) all of_config low read =
      subst (λ (config : KeyMap). IsKept kept config object i step) (sym of_config) (all i object low (ap (λ places. place_in places i) (sym same) ∙ get_or_default items i None (Some object) less ∙ sym read))

  pub inside_here : (place : Option Object) → CanBePrinted plate → place ≡ get_or items i place → IfSome place (λ object. AreInBed object (length object.instances))
  inside_here None can read = tt
  inside_here (Some object) can read =
      let there : IsAt plate.places i object = subst (λ (places : List (Option Object)). IsAt places i object) same (slice_get-get_or items i (Some object) less ∙ ap Some (sym read)) in
      (can.printable i object (rw (← same) less) there).inside

-- ---- the steps of an object

need_below : (a b c d e : Bool) (need : ℕ) → is_one_of (cond a (0 ∷ []) (cond b (0 ∷ 1 ∷ []) (cond c (2 ∷ []) (cond d (0 ∷ 2 ∷ []) (cond e (0 ∷ []) []))))) need ≡ true → need < 6
need_below true b c d e need h = grind (arith, nat_tests)
need_below false true c d e need h = grind (arith, nat_tests)
need_below false false true d e need h = grind (arith, nat_tests)
need_below false false false true e need h = grind (arith, nat_tests)
need_below false false false false true need h = grind (arith, nat_tests)
need_below false false false false false need h = absurd (true≢false (sym h))

module _ (plate : Contents) (kept : List (Option FffOutput)) (slot : ℕ) (needed : (n : ℕ) → needs_slot plate slot n ≡ true → kept_at kept n ≡ Some (slot_value plate n)) where
  pub kept_of_object : (object : Object) (need : ℕ) → is_object_slot slot ≡ true → place_of slot < 16 → place_in plate.places (place_of slot) ≡ Some object → is_one_of (needs_here (step_of slot)) need ≡ true → IsKept kept plate.config object (place_of slot) need
  kept_of_object object need here low there is =
      let place = place_of slot in
      let below : need < 6 = need_below _ _ _ _ _ need is in
      let needs : needs_slot plate slot (object_slot place need) ≡ true =
      cond-true _ _ _ here
      ∙ (λ i. is_object place need low below i && ((place_of-object place need below i == place) && is_one_of (needs_here (step_of slot)) (step_of-object place need low below i)))
      ∙ (λ i. eq-eqb place place refl i && is i) in
      needed (object_slot place need) needs ∙ ap Some (object_step plate place need object low below there)

  pub kept_at_number : (config : KeyMap) (object : Object) (whole rest : ℕ) → config ≡ plate.config → whole ≡ slot → rest ≡ slot → is_object_slot slot ≡ true → Some object ≡ place_in plate.places (whole / 6)
      → (need : ℕ) → is_one_of (needs_here (rest % 6)) need ≡ true → IsKept kept config object (whole / 6) need
  kept_at_number config object whole rest of_config same again here there need is =
      let at_step : step_of slot ≡ rest % 6 = cond-true _ _ _ here ∙ ap (λ n. n % 6) (sym again) in
      let low : place_of slot < 16 = let less : slot < 96 = ltb-true _ _ here in omega arith in
      ap (λ n. kept_at kept (object_slot (n / 6) need)) same
      ∙ kept_of_object object need here low (ap (λ n. place_in plate.places (n / 6)) (sym same) ∙ sym there) (ap (λ step. is_one_of (needs_here step) need) at_step ∙ is)
      ∙ ap (λ c. Some (object_value c object need)) (sym of_config)

  -- ---- the steps of all objects

  pub kept_of_print : (step : ℕ) → is_object_slot slot ≡ false → step < 6 → ((place : ℕ) → place < 16 → print_needs (step_of slot) (object_slot place step) ≡ true) → AreKept kept plate step
  kept_of_print step print low all place object here there =
      let present : is_present plate (object_slot place step) ≡ true =
      cond-true _ _ _ (is_object place step here low) ∙ ap (λ p. is_some (place_in plate.places p)) (place_of-object place step low) ∙ ap is_some there in
      let needs : needs_slot plate slot (object_slot place step) ≡ true = cond-false _ _ _ print ∙ (λ i. present i && all place here i) in
      needed (object_slot place step) needs ∙ ap Some (object_step plate place step object here low there)

-- skirt and brim need slices and supports
pub ground_needs : (need : ℕ) → need < 6 → is_one_of needs_of_ground need ≡ true → (place : ℕ) → place < 16 → (is_object_slot (object_slot place need) && is_one_of needs_of_ground (step_of (object_slot place need))) ≡ true
ground_needs need below is place low = (λ i. is_object place need low below i && is_one_of needs_of_ground (step_of-object place need low below i)) ∙ is

-- the export needs all slots but itself
pub export_needs : (step : ℕ) → step < 6 → (place : ℕ) → place < 16 → print_needs steps.export (object_slot place step) ≡ true
export_needs step below place low = lt-ltb _ _ (omega arith)

-- ---- the slots of the print

module _ (plate : Contents) (kept : List (Option FffOutput)) (slot : ℕ) (needed : (n : ℕ) → needs_slot plate slot n ≡ true → kept_at kept n ≡ Some (slot_value plate n)) where
  pub kept_for_skirt : slot ≡ 97 → (step : ℕ) → step < 6 → is_one_of needs_of_ground step ≡ true → AreKept kept plate step
  kept_for_skirt at step low is =
      kept_of_print plate kept slot needed step (ap is_object_slot at) low (λ place here. ap (λ s. print_needs (step_of s) (object_slot place step)) at ∙ ground_needs step low is place here)

  pub kept_for_brim : slot ≡ 98 → (step : ℕ) → step < 6 → is_one_of needs_of_ground step ≡ true → AreKept kept plate step
  kept_for_brim at step low is =
      kept_of_print plate kept slot needed step (ap is_object_slot at) low (λ place here. ap (λ s. print_needs (step_of s) (object_slot place step)) at ∙ ground_needs step low is place here)

  pub kept_for_export : slot ≡ 99 → (step : ℕ) → step < 6 → AreKept kept plate step
  kept_for_export at step low =
      kept_of_print plate kept slot needed step (ap is_object_slot at) low (λ place here. ap (λ s. print_needs (step_of s) (object_slot place step)) at ∙ export_needs step low place here)

  pub tower_kept : slot ≡ 99 → length plate.places ≤ 16 → kept_at kept (print_slot steps.tower) ≡ Some (print_value plate steps.tower)
  tower_kept at few = needed 96 (ap (λ s. needs_slot plate s 96) at) ∙ ap Some (print_step plate 6 few (omega arith))

  pub skirt_kept : slot ≡ 99 → length plate.places ≤ 16 → kept_at kept (print_slot steps.skirt) ≡ Some (print_value plate steps.skirt)
  skirt_kept at few = needed 97 (ap (λ s. needs_slot plate s 97) at) ∙ ap Some (print_step plate 7 few (omega arith))

  pub brim_kept : slot ≡ 99 → length plate.places ≤ 16 → kept_at kept (print_slot steps.brim) ≡ Some (print_value plate steps.brim)
  brim_kept at few = needed 98 (ap (λ s. needs_slot plate s 98) at) ∙ ap Some (print_step plate 8 few (omega arith))

-- the value and the batches of a slot of the print
module _ (plate : Contents) (items : List (Option Object)) (same : items ≡ plate.places) (places : ArePlaces items) (slot step : ℕ) (at : slot ≡ print_slot step) (high : 6 ≤ step) where
  pub few_places : length plate.places ≤ 16
  few_places = subst (λ (ps : List (Option Object)). length ps ≤ 16) same (omega (arith, places.sixteen))

  pub value_of_print : (result : Result FffJob NoMemory) → IfOk result (λ j. job_value j ≡ print_value plate step) → IfOk result (λ j. job_value j ≡ slot_value plate slot)
  value_of_print result is = subst (λ (o : FffOutput). IfOk result (λ j. job_value j ≡ o)) (sym (ap (slot_value plate) at ∙ print_step plate step few_places high)) is

  pub batches_of_print : (result : Result FffJob NoMemory) → IfOk result (λ j. job_polls j ≡ print_batches plate step) → IfOk result (λ j. job_polls j ≡ batches plate slot)
  batches_of_print result is =
      subst (λ (n : ℕ). IfOk result (λ j. job_polls j ≡ n)) (sym (ap (batches plate) at ∙ step_batches plate step few_places high)) is
