-- What differs between two plates, place by place.
use Rattle.std.proofs.Common.{◌≡◌, ℕ, ◌+◌, ◌-◌, ◌<◌, ◌≤◌, Bool, true, false, nat_lt, Option, Some, refl, ap, sym, ◌∙◌, arith, inl, inr, option_and_then}
use Rattle.std.specs.Prelude.{◌==◌, ◌&&◌, ◌||◌, not, if◌then◌else◌}
use Rattle.std.specs.Coded.{coded_option}
use Rattle.std.specs.FinMap.{get}
use Rattle.std.specs.List.{list_any, range_with_len}
use Rattle.std.proofs.lemmas.Bool.{and_parts, cases_Bool, cases_lt, lt-ltb, le-ltb, ltb-true, cond-true, cond-false, false_from_ne_true, true_from_ne_false, and_left, and_right}
use Rattle.pl_keys.specs.contracts.value.Value.{the_row as value_row}
use Rattle.pl_keys.specs.declared.key.Key.{Key}
use Rattle.pl_keys.specs.declared.value.Value.{Value}
use Rattle.pl_keys.specs.Steps as steps
use Rattle.pl_keys.specs.Table.{touches}
use Rattle.pl_model.specs.declared.object.Object.{Object}
use Rattle.pl_model.specs.Contents.{Contents}
use Rattle.pl_model.specs.Effective.{effective, value_for}
use Rattle.pl_model.specs.Places.{place_in}
use Rattle.pl_cascade.specs.Slots.{is_object_slot, place_of, step_of}
use Rattle.pl_cascade.specs.Cascade.{closure_of}
use Rattle.pl_cascade.specs.Direct.{option_touches, options_touch, settings_touch, shape_differs, instances_differ, object_touched, print_touched, print_is_direct, is_direct}
use Rattle.pl_cascade.specs.Touched.{is_touched}
use Rattle.pl_cascade.proofs.Codes.{same_unless_differ, none_differs}
use Rattle.pl_cascade.proofs.Searches.{any_next, next_number, or-false}
use Rattle.pl_cascade.proofs.Arrows.{step_above}
use Rattle.pl_cascade.proofs.Closures.{same_closures, closure_below}

-- ---- one option

pub same_touches : (old new : Key → Option Value) (step : ℕ) (key : Key) (x y : Value) (b : Bool) → old key ≡ Some x → new key ≡ Some y → x ≡ y → b ≡ false → b ≡ option_touches old new step key
same_touches old new step key x y b at_old at_new same e =
    e ∙ sym (and_right (touches key step) _ (none_differs (coded_option value_row.coded) (old key) (new key) (at_old ∙ ap Some same ∙ sym at_new)))

and-true : (b c : Bool) → c ≡ true → b ≡ (b && c)
and-true true c e = sym e
and-true false c e = refl

pub other_touches : (old new : Key → Option Value) (step : ℕ) (key : Key) (x y : Value) (b : Bool) → old key ≡ Some x → new key ≡ Some y → (x ≡ y → ⊥) → b ≡ touches key step → b ≡ option_touches old new step key
other_touches old new step key x y b at_old at_new other e =
    e ∙ and-true (touches key step) _ (true_from_ne_false _ (λ h.
    let same : old key ≡ new key = same_unless_differ (coded_option value_row.coded) (old key) (new key) h in
    let equal : x ≡ y = cc in
    other equal))

-- ---- one place

the_values : (plate : Contents) (p : ℕ) (x : Object) → place_in plate.places p ≡ Some x → effective plate p ≡ value_for plate.config x
the_values plate p x at i key = option_and_then (λ (o : Object). value_for plate.config o key) (at i)

pub object_told : (a b : Contents) (p k : ℕ) (x y : Object) (v h q : Bool) (options chosen prints : ℕ → Bool) → Some x ≡ place_in a.places p → Some y ≡ place_in b.places p → v ≡ (h || q)
    → h ≡ (is_object_slot k && ((p == place_of k) && chosen (step_of k))) → q ≡ (not (is_object_slot k) && prints (step_of k)) → chosen (step_of k) ≡ (options (step_of k) || ((step_of k == steps.slice) && shape_differs x y))
    → options (step_of k) ≡ options_touch (effective a p) (effective b p) (step_of k) → is_object_slot k ≡ true
    → v ≡ ((p == place_of k) && object_touched a.config (place_in a.places p) b.config (place_in b.places p) (step_of k))
object_told a b p k x y v h q options chosen prints at_a at_b union here there is_chosen are object =
    let mine : h ≡ ((p == place_of k) && chosen (step_of k)) = here ∙ (λ i. object i && ((p == place_of k) && chosen (step_of k))) in
    let other : q ≡ false = there ∙ (λ i. not (object i) && prints (step_of k)) in
    let values : options_touch (effective a p) (effective b p) (step_of k) ≡ options_touch (value_for a.config x) (value_for b.config y) (step_of k)
    = λ i. options_touch (the_values a p x (sym at_a) i) (the_values b p y (sym at_b) i) (step_of k) in
    union ∙ (λ i. mine i || other i) ∙ or-false _ ∙ ap (λ c. (p == place_of k) && c) is_chosen
    ∙ ap (λ c. (p == place_of k) && (c || ((step_of k == steps.slice) && shape_differs x y))) (are ∙ values)
    ∙ (λ i. (p == place_of k) && object_touched a.config (at_a i) b.config (at_b i) (step_of k))

pub print_told : (a b : Contents) (p k : ℕ) (x y : Object) (v h q : Bool) (options chosen prints : ℕ → Bool) → Some x ≡ place_in a.places p → Some y ≡ place_in b.places p → v ≡ (h || q)
    → h ≡ (is_object_slot k && ((p == place_of k) && chosen (step_of k))) → q ≡ (not (is_object_slot k) && prints (step_of k)) → (100 ≤ k → q ≡ false) → (step_of k < 10 → prints (step_of k) ≡ (options (step_of k) || instances_differ x y))
    → options (step_of k) ≡ options_touch (effective a p) (effective b p) (step_of k) → is_object_slot k ≡ false
    → v ≡ (nat_lt k 100 && print_touched a.config (place_in a.places p) b.config (place_in b.places p) (step_of k))
print_told a b p k x y v h q options chosen prints at_a at_b union here there far is_chosen are print =
    let mine : h ≡ false = here ∙ (λ i. print i && ((p == place_of k) && chosen (step_of k))) in
    let other : q ≡ prints (step_of k) = there ∙ (λ i. not (print i) && prints (step_of k)) in
    let values : options_touch (effective a p) (effective b p) (step_of k) ≡ options_touch (value_for a.config x) (value_for b.config y) (step_of k)
    = λ i. options_touch (the_values a p x (sym at_a) i) (the_values b p y (sym at_b) i) (step_of k) in
    let only : v ≡ q = union ∙ ap (λ c. c || q) mine in
    elim (cases_lt k 100) [
      | inl less ↦
          let step : step_of k ≡ k - 90 = (step_above k print).1 in
          only ∙ other ∙ is_chosen (omega arith) ∙ ap (λ c. c || instances_differ x y) (are ∙ values)
          ∙ (λ i. print_touched a.config (at_a i) b.config (at_b i) (step_of k)) ∙ (λ i. sym (lt-ltb k 100 less) i && print_touched a.config (place_in a.places p) b.config (place_in b.places p) (step_of k))
      | inr high ↦ only ∙ far high ∙ (λ i. sym (le-ltb k 100 high) i && print_touched a.config (place_in a.places p) b.config (place_in b.places p) (step_of k))
    ]

-- ---- all places

abbrev object_so_far : Contents → Contents → ℕ → ℕ → Bool
object_so_far a b n k = nat_lt (place_of k) n && object_touched a.config (place_in a.places (place_of k)) b.config (place_in b.places (place_of k)) (step_of k)

abbrev settings_at : Contents → Contents → ℕ → Bool
settings_at a b k = settings_touch (get a.config) (get b.config) (step_of k)

abbrev print_at : Contents → Contents → ℕ → ℕ → Bool
print_at a b k place = print_touched a.config (place_in a.places place) b.config (place_in b.places place) (step_of k)

abbrev print_so_far : Contents → Contents → ℕ → ℕ → Bool
print_so_far a b n k = nat_lt k 100 && (settings_at a b k || list_any (print_at a b k) (range_with_len 0 n))

pub direct_so_far : Contents → Contents → ℕ → ℕ → Bool
direct_so_far a b n k = if is_object_slot k then object_so_far a b n k else print_so_far a b n k

in_object : (a b : Contents) (n k : ℕ) → is_object_slot k ≡ true → direct_so_far a b n k ≡ object_so_far a b n k
unfolding direct_so_far
in_object a b n k object = cond-true (is_object_slot k) (object_so_far a b n k) (print_so_far a b n k) object

in_print : (a b : Contents) (n k : ℕ) → is_object_slot k ≡ false → direct_so_far a b n k ≡ print_so_far a b n k
unfolding direct_so_far
in_print a b n k print = cond-false (is_object_slot k) (object_so_far a b n k) (print_so_far a b n k) print

pub direct-none : (a b : Contents) (k : ℕ) (v : Bool) (settings : ℕ → Bool) → v ≡ (not (is_object_slot k) && settings (step_of k)) → (100 ≤ k → v ≡ false) → settings (step_of k) ≡ settings_touch (get a.config) (get b.config) (step_of k) → v ≡ direct_so_far a b 0 k
direct-none a b k v settings here far are = elim (cases_Bool (is_object_slot k)) [
  | inl object ↦
      here ∙ (λ i. not (object i) && settings (step_of k)) ∙ sym (in_object a b 0 k object ∙ and_left (nat_lt (place_of k) 0) (object_touched a.config (place_in a.places (place_of k)) b.config (place_in b.places (place_of k)) (step_of k)) (le-ltb (place_of k) 0 (omega arith)))
  | inr print ↦ elim (cases_lt k 100) [
    | inl less ↦
        let low : print_so_far a b 0 k ≡ (settings_at a b k || false) = ap (λ c. c && (settings_at a b k || false)) (lt-ltb k 100 less) in
        here ∙ (λ i. not (print i) && settings (step_of k)) ∙ are ∙ sym (in_print a b 0 k print ∙ low ∙ or-false (settings_at a b k))
    | inr high ↦ far high ∙ sym (in_print a b 0 k print ∙ and_left (nat_lt k 100) (settings_at a b k || false) (le-ltb k 100 high))
  ]
]

turned : (c d : Bool) → (c || d) ≡ (d || c)
turned true true = refl
turned true false = refl
turned false true = refl
turned false false = refl

spread : (l s m x : Bool) → ((l && (s || m)) || (l && x)) ≡ (l && (s || (m || x)))
spread false s m x = refl
spread true true m x = refl
spread true false m x = refl

pub direct-more : (a b : Contents) (n k : ℕ) (old v new : Bool) → old ≡ direct_so_far a b n k
    → (is_object_slot k ≡ true → v ≡ ((n == place_of k) && object_touched a.config (place_in a.places n) b.config (place_in b.places n) (step_of k)))
    → (is_object_slot k ≡ false → v ≡ (nat_lt k 100 && print_touched a.config (place_in a.places n) b.config (place_in b.places n) (step_of k))) → new ≡ (old || v) → new ≡ direct_so_far a b (n + 1) k
direct-more a b n k old v new before at_object at_print e =
    let mine : ℕ → Bool = λ p. object_touched a.config (place_in a.places p) b.config (place_in b.places p) (step_of k) in
    elim (cases_Bool (is_object_slot k)) [
      | inl object ↦
          let past : old ≡ object_so_far a b n k = before ∙ in_object a b n k object in
          e ∙ (λ i. past i || at_object object i) ∙ turned (object_so_far a b n k) ((n == place_of k) && mine n) ∙ sym (next_number mine n (place_of k) (mine n) refl) ∙ sym (in_object a b (n + 1) k object)
      | inr print ↦
          let past : old ≡ print_so_far a b n k = before ∙ in_print a b n k print in
          e ∙ (λ i. past i || at_print print i) ∙ spread (nat_lt k 100) (settings_at a b k) (list_any (print_at a b k) (range_with_len 0 n)) (print_at a b k n)
          ∙ ap (λ c. nat_lt k 100 && (settings_at a b k || c)) (sym (any_next (print_at a b k) n)) ∙ sym (in_print a b (n + 1) k print)
    ]

all_print : (a b : Contents) (k : ℕ) → is_object_slot k ≡ false → print_so_far a b 16 k ≡ (nat_lt k 100 && is_direct a b k)
unfolding print_is_direct
all_print a b k print = ap (λ c. nat_lt k 100 && c) (sym (cond-false (is_object_slot k) _ _ print))

pub direct-all : (a b : Contents) (n k : ℕ) (v : Bool) → n ≡ 16 → v ≡ direct_so_far a b n k → v ≡ (nat_lt k 100 && is_direct a b k)
direct-all a b n k v all e = elim (cases_Bool (is_object_slot k)) [
  | inl object ↦
      let low : k < 96 = ltb-true _ _ object in
      let mine : Bool = object_touched a.config (place_in a.places (place_of k)) b.config (place_in b.places (place_of k)) (step_of k) in
      let inside : nat_lt (place_of k) n ≡ true = lt-ltb _ _ (omega arith) in
      let is : is_direct a b k ≡ mine = cond-true (is_object_slot k) mine (print_is_direct a b (step_of k)) object in
      e ∙ in_object a b n k object ∙ ap (λ c. c && mine) inside ∙ sym is ∙ ap (λ c. c && is_direct a b k) (sym (lt-ltb k 100 (omega arith)))
  | inr print ↦ e ∙ ap (λ m. direct_so_far a b m k) all ∙ in_print a b 16 k print ∙ all_print a b k print
]

-- ---- what is touched

pub touched_told : (a b : Contents) (direct : ℕ → Bool) (k : ℕ) (v : Bool) → ((j : ℕ) → direct j ≡ (nat_lt j 100 && is_direct a b j)) → v ≡ closure_of direct k → v ≡ is_touched a b k
touched_told a b direct k v are e = elim (cases_lt k 100) [
  | inl less ↦
      e ∙ same_closures direct (is_direct a b) (λ j low. are j ∙ ap (λ c. c && is_direct a b j) (lt-ltb j 100 low)) k less
      ∙ ap (λ c. c && closure_of (is_direct a b) k) (sym (lt-ltb k 100 less))
  | inr high ↦
      let none : closure_of direct k ≡ false = false_from_ne_true _ (λ h. let low : k < 100 = closure_below direct (λ j m. ltb-true _ _ (and_parts _ _ (sym (are j) ∙ m)).0) k h in absurd (omega arith)) in
      e ∙ none ∙ ap (λ c. c && closure_of (is_direct a b) k) (sym (le-ltb k 100 high))
]
