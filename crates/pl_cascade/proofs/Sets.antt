-- Loops over places and steps that build sets of slots.
use Rattle.std.proofs.Common.{◌≡◌, ℕ, ◌+◌, ◌-◌, ◌/◌, ◌%◌, ◌<◌, ◌≤◌, Bool, true, false, nat_lt, refl, ap, sym, ◌∙◌, arith, inl, inr}
use Rattle.std.specs.Prelude.{◌==◌, ◌&&◌, ◌||◌, not, if◌then◌else◌, is_some, Option, Some, None}
use Rattle.std.proofs.lemmas.Bool.{and_parts, and_from, and_left, and_right, cases_Bool, eq-eqb, eqb-true, lt-ltb, le-ltb, ltb-false, not-true, not_from_false, cond-true, cond-false}
use Rattle.std.proofs.lemmas.Bool.Decides.{nat_tests}
use Rattle.std.specs.Option.{option_copied}
use denote.Bor.{Bor}
use Rattle.pl_model.specs.Contents.{Contents}
use Rattle.pl_model.specs.Places.{place_in}
use Rattle.pl_cascade.specs.Slots.{is_object_slot, place_of, step_of, object_slot, print_slot, is_one_of}
use Rattle.pl_cascade.specs.Cascade.{takes, takes_here, takes_in_print}
use Rattle.pl_cascade.proofs.Searches.{equal_truths, next_number, below_all, or-false}
use Rattle.pl_cascade.proofs.Arrows.{is_object, is_print, place_of-object, step_of-object, step_of-print, step_below, step_above}

-- ---- the slot of a place and a step

its_slot : (p s k : ℕ) → p < 16 → s < 6 → (k == object_slot p s) ≡ (is_object_slot k && ((p == place_of k) && (s == step_of k)))
its_slot p s k here less =
    equal_truths _ _
    (λ h. let same : k ≡ object_slot p s = eqb-true _ _ h in
    rw same (and_from _ _ (is_object p s here less) (and_from _ _ (eq-eqb _ _ (sym (place_of-object p s less))) (eq-eqb _ _ (sym (step_of-object p s here less))))))
    (λ h. let parts = and_parts _ _ h in
    let more = and_parts _ _ parts.1 in
    let place : p ≡ k / 6 = eqb-true _ _ more.0 in
    let step : s ≡ k % 6 = eqb-true _ _ more.1 ∙ cond-true _ _ _ parts.0 in
    eq-eqb _ _ (omega arith))

its_print_slot : (s k : ℕ) → 6 ≤ s → (k == print_slot s) ≡ (not (is_object_slot k) && (s == step_of k))
its_print_slot s k high =
    equal_truths _ _
    (λ h. let same : k ≡ print_slot s = eqb-true _ _ h in
    rw same (and_from _ _ (not_from_false _ (is_print s high)) (eq-eqb _ _ (sym (step_of-print s high)))))
    (λ h. let parts = and_parts _ _ h in
    let print : is_object_slot k ≡ false = not-true _ parts.0 in
    let step : s ≡ k - 90 = eqb-true _ _ parts.1 ∙ cond-false _ _ _ print in
    let far : 96 ≤ k = ltb-false _ _ print in
    eq-eqb _ _ (omega arith))

-- ---- the steps of an object

apart : (a b x l : Bool) → ((a && (b && x)) || (a && (b && l))) ≡ (a && (b && ((x && true) || l)))
apart false b x l = refl
apart true false x l = refl
apart true true false l = refl
apart true true true l = refl

none_here : (a b x l : Bool) → (a && (b && l)) ≡ (a && (b && ((x && false) || l)))
none_here false b x l = refl
none_here true false x l = refl
none_here true true false l = refl
none_here true true true l = refl

pub object-more : (m : ℕ → Bool) (p s k : ℕ) (old new : Bool) → p < 16 → s < 6 → m s ≡ true → old ≡ (is_object_slot k && ((p == place_of k) && (nat_lt (step_of k) s && m (step_of k)))) → new ≡ ((k == object_slot p s) || old)
    → new ≡ (is_object_slot k && ((p == place_of k) && (nat_lt (step_of k) (s + 1) && m (step_of k))))
object-more m p s k old new here less h before e =
    e ∙ ap (λ b. (k == object_slot p s) || b) before
    ∙ ap (λ b. b || (is_object_slot k && ((p == place_of k) && (nat_lt (step_of k) s && m (step_of k))))) (its_slot p s k here less)
    ∙ apart (is_object_slot k) (p == place_of k) (s == step_of k) (nat_lt (step_of k) s && m (step_of k))
    ∙ ap (λ b. is_object_slot k && ((p == place_of k) && b)) (sym (next_number m s (step_of k) true h))

pub object-still : (m : ℕ → Bool) (p s k : ℕ) (old : Bool) → m s ≡ false → old ≡ (is_object_slot k && ((p == place_of k) && (nat_lt (step_of k) s && m (step_of k))))
    → old ≡ (is_object_slot k && ((p == place_of k) && (nat_lt (step_of k) (s + 1) && m (step_of k))))
object-still m p s k old h before =
    before ∙ none_here (is_object_slot k) (p == place_of k) (s == step_of k) (nat_lt (step_of k) s && m (step_of k))
    ∙ ap (λ b. is_object_slot k && ((p == place_of k) && b)) (sym (next_number m s (step_of k) false h))

-- ---- the steps of the print

pub print-more : (m : ℕ → Bool) (s k : ℕ) (old new : Bool) → 6 ≤ s → m s ≡ true → old ≡ (not (is_object_slot k) && (nat_lt (step_of k) s && m (step_of k))) → new ≡ ((k == print_slot s) || old)
    → new ≡ (not (is_object_slot k) && (nat_lt (step_of k) (s + 1) && m (step_of k)))
print-more m s k old new high h before e =
    e ∙ ap (λ b. (k == print_slot s) || b) before
    ∙ ap (λ b. b || (not (is_object_slot k) && (nat_lt (step_of k) s && m (step_of k)))) (its_print_slot s k high)
    ∙ apart true (not (is_object_slot k)) (s == step_of k) (nat_lt (step_of k) s && m (step_of k))
    ∙ ap (λ b. not (is_object_slot k) && b) (sym (next_number m s (step_of k) true h))

pub print-still : (m : ℕ → Bool) (s k : ℕ) (old : Bool) → m s ≡ false → old ≡ (not (is_object_slot k) && (nat_lt (step_of k) s && m (step_of k)))
    → old ≡ (not (is_object_slot k) && (nat_lt (step_of k) (s + 1) && m (step_of k)))
print-still m s k old h before =
    before ∙ none_here true (not (is_object_slot k)) (s == step_of k) (nat_lt (step_of k) s && m (step_of k))
    ∙ ap (λ b. not (is_object_slot k) && b) (sym (next_number m s (step_of k) false h))

pub print-all : (m : ℕ → Bool) (s k : ℕ) (b : Bool) → ((n : ℕ) → s ≤ n → m n ≡ false) → b ≡ (not (is_object_slot k) && (nat_lt (step_of k) s && m (step_of k))) → b ≡ (not (is_object_slot k) && m (step_of k))
print-all m s k b far e = e ∙ ap (λ c. not (is_object_slot k) && c) (below_all m s (step_of k) (far (step_of k)))

pub print-below : (m : ℕ → Bool) (s k : ℕ) (b : Bool) → s ≤ 10 → 100 ≤ k → b ≡ (not (is_object_slot k) && (nat_lt (step_of k) s && m (step_of k))) → b ≡ false
print-below m s k b few far e =
    let print : is_object_slot k ≡ false = le-ltb k 96 (omega arith) in
    let step : step_of k ≡ k - 90 = (step_above k print).1 in
    e ∙ and_right (not (is_object_slot k)) (nat_lt (step_of k) s && m (step_of k)) (and_left (nat_lt (step_of k) s) (m (step_of k)) (le-ltb _ _ (omega arith)))

-- ---- what an object's slot takes

one_side : (b q h i : Bool) → ((b && (q && h)) || (not b && i)) ≡ (if b then q && h else i)
one_side true true true i = refl
one_side true true false i = refl
one_side true false h i = refl
one_side false q h i = refl

pub taken_told : (slot k : ℕ) (u o p : Bool) (h i : ℕ → Bool) → slot < 96 → u ≡ (o || p) → o ≡ (is_object_slot k && ((slot / 6 == place_of k) && h (step_of k))) → p ≡ (not (is_object_slot k) && i (step_of k))
    → ((t : ℕ) → h t ≡ is_one_of (takes_here (slot % 6)) t) → ((t : ℕ) → i t ≡ is_one_of (takes_in_print (slot % 6)) t) → u ≡ takes slot k
taken_told slot k u o p h i less union here there takes_it prints_it =
    let object : is_object_slot slot ≡ true = lt-ltb _ _ less in
    let step : step_of slot ≡ slot % 6 = cond-true _ _ _ object in
    let first : h (step_of k) ≡ is_one_of (takes_here (step_of slot)) (step_of k) = takes_it (step_of k) ∙ ap (λ s. is_one_of (takes_here s) (step_of k)) (sym step) in
    let second : i (step_of k) ≡ is_one_of (takes_in_print (step_of slot)) (step_of k) = prints_it (step_of k) ∙ ap (λ s. is_one_of (takes_in_print s) (step_of k)) (sym step) in
    union ∙ (λ j. here j || there j) ∙ one_side (is_object_slot k) (slot / 6 == place_of k) (h (step_of k)) (i (step_of k))
    ∙ (λ j. if is_object_slot k then sym object j && ((slot / 6 == place_of k) && first j) else second j)

-- ---- the slots that a plate has

there_one : (q m : Bool) → (m || (q && true)) ≡ ((q && true) || m)
there_one true true = refl
there_one true false = refl
there_one false true = refl
there_one false false = refl

pub copied_there : {X : Type 0} (found : Option (Bor X)) → is_some (option_copied found) ≡ is_some found
copied_there None = refl
copied_there (Some x) = refl

-- the slots of the places below n, and those of the print
abbrev pub present_so_far : Contents → ℕ → ℕ → Bool
present_so_far plate n k = if is_object_slot k then nat_lt (place_of k) n && is_some (place_in plate.places (place_of k)) else nat_lt k 100

pub present-more : (plate : Contents) (n k : ℕ) (old v new : Bool) (all : ℕ → Bool) → is_some (place_in plate.places n) ≡ true → old ≡ present_so_far plate n k → v ≡ (is_object_slot k && ((n == place_of k) && all (step_of k))) → ((t : ℕ) → all t ≡ nat_lt t 10) → new ≡ (old || v)
    → new ≡ present_so_far plate (n + 1) k
present-more plate n k old v new all filled before here steps e = elim (cases_Bool (is_object_slot k)) [
  | inl object ↦
      let among : all (step_of k) ≡ true = steps (step_of k) ∙ lt-ltb _ _ (omega (arith, step_below k object)) in
      let mine : v ≡ ((n == place_of k) && true) = here ∙ (λ i. object i && ((n == place_of k) && among i)) in
      let past : old ≡ (nat_lt (place_of k) n && is_some (place_in plate.places (place_of k))) = before ∙ cond-true _ _ _ object in
      e ∙ (λ i. past i || mine i) ∙ there_one (n == place_of k) _ ∙ sym (next_number (λ p. is_some (place_in plate.places p)) n (place_of k) true filled) ∙ sym (cond-true _ _ _ object)
  | inr print ↦
      let mine : v ≡ false = here ∙ (λ i. print i && ((n == place_of k) && all (step_of k))) in
      let past : old ≡ nat_lt k 100 = before ∙ cond-false _ _ _ print in
      e ∙ (λ i. past i || mine i) ∙ or-false (nat_lt k 100) ∙ sym (cond-false _ _ _ print)
]

none_more : (q m : Bool) → m ≡ ((q && false) || m)
none_more true m = refl
none_more false m = refl

pub present-still : (plate : Contents) (n k : ℕ) (old : Bool) → is_some (place_in plate.places n) ≡ false → old ≡ present_so_far plate n k → old ≡ present_so_far plate (n + 1) k
present-still plate n k old empty before =
    before ∙ ap (λ b. if is_object_slot k then b else nat_lt k 100)
    (none_more (n == place_of k) _ ∙ sym (next_number (λ p. is_some (place_in plate.places p)) n (place_of k) false empty))

-- ---- the slots below n that pass a test

alone : (q m : Bool) → (q || m) ≡ ((q && true) || m)
alone true m = refl
alone false m = refl

eqb_sym : (k n : ℕ) → (k == n) ≡ (n == k)
eqb_sym k n = grind (arith, nat_tests)

pub member-more : (m : ℕ → Bool) (n k : ℕ) (old new : Bool) → m n ≡ true → old ≡ (nat_lt k n && m k) → new ≡ ((k == n) || old) → new ≡ (nat_lt k (n + 1) && m k)
member-more m n k old new h before e = e ∙ (λ i. eqb_sym k n i || before i) ∙ alone (n == k) _ ∙ sym (next_number m n k true h)

pub member-still : (m : ℕ → Bool) (n k : ℕ) (old : Bool) → m n ≡ false → old ≡ (nat_lt k n && m k) → old ≡ (nat_lt k (n + 1) && m k)
member-still m n k old h before = before ∙ none_more (n == k) _ ∙ sym (next_number m n k false h)
