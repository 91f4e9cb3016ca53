-- What one slot takes and needs, said by steps.
use Rattle.std.proofs.Common.{◌≡◌, ◌⊎◌, ℕ, ◌-◌, ◌%◌, ◌<◌, ◌≤◌, Bool, true, false, cond, List, [], ◌∷◌, refl, ap, sym, ◌∙◌, arith, inl, inr}
use Rattle.std.specs.Prelude.{◌==◌, ◌&&◌, ◌||◌, not, nat_lt, if◌then◌else◌}
use Rattle.std.proofs.lemmas.Bool.{agree_below, agree_below_at, and_parts, and_from, lt-ltb, le-ltb, ltb-true, ltb-false, eq-eqb, eqb-true, cases_lt, cases_Bool, true≢false, both_ways, cond-true, cond-false}
use Rattle.std.proofs.lemmas.Bool.Decides.{nat_tests}
use Rattle.pl_keys.specs.Steps as steps
use Rattle.pl_cascade.specs.Slots.{is_object_slot, place_of, step_of, object_slot, print_slot, is_one_of}
use Rattle.pl_cascade.specs.Cascade.{takes, takes_here, takes_in_print}

-- ---- slots by places and steps

pub is_object : (p step : ℕ) → p < 16 → step < 6 → is_object_slot (object_slot p step) ≡ true
is_object p step here less = lt-ltb _ _ (omega arith)

pub is_print : (step : ℕ) → 6 ≤ step → is_object_slot (print_slot step) ≡ false
is_print step high = le-ltb _ _ (omega arith)

pub place_of-object : (p step : ℕ) → step < 6 → place_of (object_slot p step) ≡ p
place_of-object p step less = omega arith

pub step_of-object : (p step : ℕ) → p < 16 → step < 6 → step_of (object_slot p step) ≡ step
step_of-object p step here less = cond-true _ _ _ (is_object p step here less) ∙ omega arith

pub step_of-print : (step : ℕ) → 6 ≤ step → step_of (print_slot step) ≡ step
step_of-print step high = cond-false _ _ _ (is_print step high) ∙ omega arith

-- the step of an object's slot is below 6, and of one of the print from 6 on
pub step_below : (slot : ℕ) → is_object_slot slot ≡ true → step_of slot < 6
step_below slot object = let e : step_of slot ≡ slot % 6 = cond-true _ _ _ object in omega arith

pub step_above : (slot : ℕ) → is_object_slot slot ≡ false → (6 ≤ step_of slot) × (step_of slot ≡ slot - 90)
step_above slot print = let e : step_of slot ≡ slot - 90 = cond-false _ _ _ print in let high : 96 ≤ slot = ltb-false _ _ print in (omega arith, e)

-- ---- what a step takes

abbrev pub step_takes : ℕ → ℕ → Bool
step_takes step taken = if nat_lt taken 6 then is_one_of (takes_here step) taken else is_one_of (takes_in_print step) taken

-- a step is another, or takes it by one or two steps
abbrev pub reaches : ℕ → ℕ → Bool
reaches step reached = (step == reached) || (step_takes step reached || ((step == steps.prepare) && ((reached == steps.skirt) || (reached == steps.brim))))

-- ---- the arrows between steps go no further

here_below : (a b c d : Bool) (n : ℕ) → is_one_of (cond a (1 ∷ 2 ∷ 3 ∷ 4 ∷ 5 ∷ []) (cond b (2 ∷ 3 ∷ 4 ∷ []) (cond c (3 ∷ 4 ∷ []) (cond d (4 ∷ []) [])))) n ≡ true → n < 10
here_below true b c d n h = grind (arith, nat_tests)
here_below false true c d n h = grind (arith, nat_tests)
here_below false false true d n h = grind (arith, nat_tests)
here_below false false false true n h = grind (arith, nat_tests)
here_below false false false false n h = absurd (true≢false (sym h))

print_below : (a b c d : Bool) (n : ℕ) → is_one_of (cond a (6 ∷ 7 ∷ 8 ∷ 9 ∷ []) (cond b (6 ∷ 9 ∷ []) (cond c (9 ∷ []) (cond d (8 ∷ 9 ∷ []) [])))) n ≡ true → n < 10
print_below true b c d n h = grind (arith, nat_tests)
print_below false true c d n h = grind (arith, nat_tests)
print_below false false true d n h = grind (arith, nat_tests)
print_below false false false true n h = grind (arith, nat_tests)
print_below false false false false n h = absurd (true≢false (sym h))

either_below : (b : Bool) (step taken : ℕ) → cond b (is_one_of (takes_here step) taken) (is_one_of (takes_in_print step) taken) ≡ true → taken < 10
either_below true step taken h = here_below _ _ _ _ taken h
either_below false step taken h = print_below _ _ _ _ taken h

none_here : (step : ℕ) → 10 ≤ step → takes_here step ≡ []
none_here step far = grind (arith, nat_tests)

none_in_print : (step : ℕ) → 10 ≤ step → takes_in_print step ≡ []
none_in_print step far = grind (arith, nat_tests)

neither : (b : Bool) (xs ys : List ℕ) (taken : ℕ) → xs ≡ [] → ys ≡ [] → cond b (is_one_of xs taken) (is_one_of ys taken) ≡ false
neither true xs ys taken e f = rw e refl
neither false xs ys taken e f = rw f refl

pub takes_among : (step taken : ℕ) → step_takes step taken ≡ true → (step < 10) × (taken < 10)
takes_among step taken h = (
  elim (cases_lt step 10) [
    | inl less ↦ less
    | inr far ↦ absurd (both_ways _ (neither (nat_lt taken 6) _ _ taken (none_here step far) (none_in_print step far)) h)
  ],
  either_below (nat_lt taken 6) step taken h,
)

-- tests of two and of three steps
pub at_pairs : (test : ℕ → ℕ → Bool) → agree_below (λ a. agree_below (test a) (λ _. true) 10) (λ _. true) 10 ≡ true → (a b : ℕ) → a < 10 → b < 10 → test a b ≡ true
at_pairs test all a b la lb = agree_below_at (test a) (λ _. true) 10 b (agree_below_at (λ a. agree_below (test a) (λ _. true) 10) (λ _. true) 10 a all la) lb

at_steps : (test : ℕ → ℕ → ℕ → Bool) → agree_below (λ a. agree_below (λ b. agree_below (test a b) (λ _. true) 10) (λ _. true) 10) (λ _. true) 10 ≡ true → (a b c : ℕ) → a < 10 → b < 10 → c < 10 → test a b c ≡ true
at_steps test all a b c la lb lc =
    at_pairs (test a) (agree_below_at (λ a. agree_below (λ b. agree_below (test a b) (λ _. true) 10) (λ _. true) 10) (λ _. true) 10 a all la) b c lb lc

pub implied : (x y : Bool) → (not x || y) ≡ true → x ≡ true → y ≡ true
implied true y h t = h
implied false y h t = absurd (true≢false (sym t))

among_here : ℕ → ℕ → ℕ → Bool
among_here a b c = not (step_takes a b && (step_takes b c && nat_lt c 6)) || step_takes a c

from_print : ℕ → ℕ → ℕ → Bool
from_print b c d = not (step_takes b c && (step_takes c d && not (nat_lt c 6))) || step_takes b d

-- among the steps of an object they are transitive
takes_here_twice : (a b c : ℕ) → step_takes a b ≡ true → step_takes b c ≡ true → c < 6 → step_takes a c ≡ true
unfolding among_here
takes_here_twice a b c t u less =
    implied _ _ (at_steps among_here refl a b c (takes_among a b t).0 (takes_among a b t).1 (takes_among b c u).1) (and_from _ _ t (and_from _ _ u (lt-ltb c 6 less)))

-- and so they are where they pass over a step of the print
takes_by_print : (a b c : ℕ) → step_takes a b ≡ true → step_takes b c ≡ true → 6 ≤ b → step_takes a c ≡ true
unfolding from_print
takes_by_print a b c t u far =
    implied _ _ (at_steps from_print refl a b c (takes_among a b t).0 (takes_among a b t).1 (takes_among b c u).1) (and_from _ _ t (and_from _ _ u (ap not (le-ltb b 6 far))))

-- ---- what a slot takes

-- a slot that another takes: of the same object, or of the print
pub record IsTaken (slot taken : ℕ) : Type 0 where
  pub steps : step_takes (step_of slot) (step_of taken) ≡ true
  pub same : is_object_slot taken ≡ true → (is_object_slot slot ≡ true) × (place_of slot ≡ place_of taken)

low_step : (slot : ℕ) → is_object_slot slot ≡ true → nat_lt (step_of slot) 6 ≡ true
low_step slot object = lt-ltb _ _ (step_below slot object)

high_step : (slot : ℕ) → is_object_slot slot ≡ false → nat_lt (step_of slot) 6 ≡ false
high_step slot print = le-ltb _ _ (step_above slot print).0

pub taken_is : (slot taken : ℕ) → takes slot taken ≡ true → IsTaken slot taken
taken_is slot taken h = elim (cases_Bool (is_object_slot taken)) [
  | inl object ↦
      let parts = and_parts _ _ (sym (cond-true _ _ _ object) ∙ h) in
      let more = and_parts _ _ parts.1 in
      record { steps = cond-true _ _ _ (low_step taken object) ∙ more.1; same = λ _. (parts.0, eqb-true _ _ more.0) }
  | inr print ↦
      record { steps = cond-false _ _ _ (high_step taken print) ∙ sym (cond-false _ _ _ print) ∙ h; same = λ object. absurd (both_ways _ print object) }
]

pub is_taken : (slot taken : ℕ) → IsTaken slot taken → takes slot taken ≡ true
is_taken slot taken w = elim (cases_Bool (is_object_slot taken)) [
  | inl object ↦
      cond-true _ _ _ object ∙ and_from _ _ (w.same object).0 (and_from _ _ (eq-eqb _ _ (w.same object).1) (sym (cond-true _ _ _ (low_step taken object)) ∙ w.steps))
  | inr print ↦ cond-false _ _ _ print ∙ sym (cond-false _ _ _ (high_step taken print)) ∙ w.steps
]

pub taker_below : (slot taken : ℕ) → takes slot taken ≡ true → slot < 100
taker_below slot taken h = elim (cases_Bool (is_object_slot slot)) [
  | inl object ↦ let less : slot < 96 = ltb-true _ _ object in omega arith
  | inr print ↦ let less : step_of slot < 10 = (takes_among (step_of slot) (step_of taken) (taken_is slot taken h).steps).0 in let e : step_of slot ≡ slot - 90 = (step_above slot print).1 in omega arith
]

pub taken_below : (slot taken : ℕ) → takes slot taken ≡ true → taken < 100
taken_below slot taken h = elim (cases_Bool (is_object_slot taken)) [
  | inl object ↦ let less : taken < 96 = ltb-true _ _ object in omega arith
  | inr print ↦ let less : step_of taken < 10 = (takes_among (step_of slot) (step_of taken) (taken_is slot taken h).steps).1 in let e : step_of taken ≡ taken - 90 = (step_above taken print).1 in omega arith
]

-- three arrows in a row are two: either the first two are one, or the last two
pub takes_thrice : (a b c d : ℕ) → takes a b ≡ true → takes b c ≡ true → takes c d ≡ true → (takes a c ≡ true) ⊎ (takes b d ≡ true)
takes_thrice a b c d t u v =
    let first = taken_is a b t in
    let second = taken_is b c u in
    let third = taken_is c d v in
    elim (cases_Bool (is_object_slot c)) [
      | inl object ↦
          let of_b = second.same object in
          let of_a = first.same of_b.0 in
          inl (is_taken a c (record { steps = takes_here_twice (step_of a) (step_of b) (step_of c) first.steps second.steps (step_below c object); same = λ _. (of_a.0, of_a.1 ∙ of_b.1) }))
      | inr print ↦
          inr (is_taken b d (record { steps = takes_by_print (step_of b) (step_of c) (step_of d) second.steps third.steps (step_above c print).0; same = λ object. absurd (both_ways _ print (third.same object).0) }))
    ]

-- ---- arrows of places and steps

pub takes-here : (p step taken : ℕ) → p < 16 → step < 6 → taken < 6 → step_takes step taken ≡ true → takes (object_slot p step) (object_slot p taken) ≡ true
takes-here p step taken here less low t =
    is_taken (object_slot p step) (object_slot p taken) (record {
      steps = ap (λ s. step_takes s (step_of (object_slot p taken))) (step_of-object p step here less) ∙ ap (step_takes step) (step_of-object p taken here low) ∙ t;
      same = λ _. (is_object p step here less, place_of-object p step less ∙ sym (place_of-object p taken low));
    })

pub takes-object : (p step taken : ℕ) → p < 16 → step < 6 → 6 ≤ taken → step_takes step taken ≡ true → takes (object_slot p step) (print_slot taken) ≡ true
takes-object p step taken here less high t =
    is_taken (object_slot p step) (print_slot taken) (record {
      steps = ap (λ s. step_takes s (step_of (print_slot taken))) (step_of-object p step here less) ∙ ap (step_takes step) (step_of-print taken high) ∙ t;
      same = λ object. absurd (both_ways _ (is_print taken high) object);
    })

pub takes-print : (step taken : ℕ) → 6 ≤ step → 6 ≤ taken → step_takes step taken ≡ true → takes (print_slot step) (print_slot taken) ≡ true
takes-print step taken far high t =
    is_taken (print_slot step) (print_slot taken) (record {
      steps = ap (λ s. step_takes s (step_of (print_slot taken))) (step_of-print step far) ∙ ap (step_takes step) (step_of-print taken high) ∙ t;
      same = λ object. absurd (both_ways _ (is_print taken high) object);
    })
