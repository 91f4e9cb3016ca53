-- The problem that is computed, and the one that is told.
use Rattle.std.proofs.Common.{◌≡◌, ◌⊎◌, inl, inr, Bool, true, false, cond, not, true≢false, ℕ, zero, suc, ◌+◌, ◌^◌, ◌<◌, nat_le, arith, Option, Some, None, List, [], ◌∷◌, length, MatchOption, refl, sym, ap, subst, ◌∙◌, le-leb, leb-true}
use Rattle.std.specs.Option.{is_none, option_or}
use Rattle.std.specs.List.{list_all}
use Rattle.std.proofs.lemmas.Bool.{leb-false, lt-leb}
use Rattle.std.proofs.lemmas.Option.{slice_get_within}
use Rattle.pl_options.specs.KeyMap.{KeyMap}
use Rattle.pl_tech.specs.declared.problem.Problem.{Problem}
use Rattle.pl_tech.specs.declared.problem.Problem.TheVariants.{Empty, OutOfBed, TooManyCells}
use Rattle.pl_model.specs.declared.instances.Shift.{Shift}
use Rattle.pl_model.specs.declared.object.Object.{Object}
use Rattle.pl_model.specs.Contents.{Contents}
use Rattle.pl_model.specs.Problem.{is_in_bed, outside, object_problem, place_problem, first_problem, problem_of}
use Rattle.pl_model.specs.Editing.{IsAt}
use Rattle.pl_model.specs.Printable.{box_for, cells_for, AreInBed, IsFirstOut, IsPrintable, ArePrintable, HasProblem, CanBePrinted}
use Rattle.pl_model.specs.Printable as told
use Rattle.pl_model.proofs.Positions.{first_found, none_found, first_is, none_is}

-- ---- one object

not_false : (b : Bool) → not b ≡ false → b ≡ true
not_false true e = refl
not_false false e = sym e

not_true : (b : Bool) → not b ≡ true → b ≡ false
not_true true e = sym e
not_true false e = refl

module _ (object : Object) where
  leaves : Shift → Bool
  leaves shift = not (is_in_bed (box_for object) shift)

  none_outside : AreInBed object (length object.instances) → outside (box_for object) object.instances ≡ None
  none_outside h = none_is (λ shift. not (is_in_bed (box_for object) shift)) object.instances (λ k shift there. ap not (h k shift (slice_get_within object.instances k shift there) there))

  all_inside : outside (box_for object) object.instances ≡ None → AreInBed object (length object.instances)
  all_inside e k shift below there = not_false (is_in_bed (box_for object) shift) (none_found (λ shift. not (is_in_bed (box_for object) shift)) object.instances e k shift there)

  first_outside : (instance : ℕ) → IsFirstOut object instance → outside (box_for object) object.instances ≡ Some instance
  first_outside instance h =
      first_is (λ shift. not (is_in_bed (box_for object) shift)) object.instances instance h.shift
      (record { there = h.there; passes = ap not h.out; before = λ k shift below there. ap not (h.before k shift below there) })

  outside_first : (instance : ℕ) → outside (box_for object) object.instances ≡ Some instance → IsFirstOut object instance
  outside_first instance e =
      let f = first_found (λ shift. not (is_in_bed (box_for object) shift)) object.instances instance e in
      record {
        shift = f.0;
        there = f.1.there;
        out = not_true (is_in_bed (box_for object) f.0) f.1.passes;
        before = λ k shift below there. not_false (is_in_bed (box_for object) shift) (f.1.before k shift below there);
      }

-- an object that is not printable: by its instance, or by its cells
data IsUnprintable (config : KeyMap) (place : ℕ) (object : Object) : Problem → Type 0 where
  out : (instance : ℕ) → IsFirstOut object instance → IsUnprintable config place object (OutOfBed place instance)
  many : AreInBed object (length object.instances) → 2 ^ 24 < cells_for config object → IsUnprintable config place object (TooManyCells place)

printable_none : (config : KeyMap) (place : ℕ) (object : Object) → IsPrintable config object → object_problem config place object ≡ None
printable_none config place object h = rw (none_outside object h.inside, le-leb (cells_for config object) (2 ^ 24) h.few) refl

unprintable_some : (config : KeyMap) (place : ℕ) (object : Object) (problem : Problem) → IsUnprintable config place object problem → object_problem config place object ≡ Some problem
unprintable_some config place object problem (out instance h) = rw (first_outside object instance h) refl
unprintable_some config place object problem (many inside h) = rw (none_outside object inside, lt-leb (cells_for config object) (2 ^ 24) h) refl

object_cases : (config : KeyMap) (place : ℕ) (object : Object) → IsPrintable config object ⊎ ((problem : Problem) × IsUnprintable config place object problem)
object_cases config place object =
    elim (outside (box_for object) object.instances) as (λ o. outside (box_for object) object.instances ≡ o → IsPrintable config object ⊎ ((problem : Problem) × IsUnprintable config place object problem)) [
      | Some instance ↦ λ e. inr (OutOfBed place instance, out instance (outside_first object instance e))
      | None ↦ λ e.
          let inside = all_inside object e in
          elim (nat_le (cells_for config object) (2 ^ 24)) as (λ b. nat_le (cells_for config object) (2 ^ 24) ≡ b → IsPrintable config object ⊎ ((problem : Problem) × IsUnprintable config place object problem)) [
            | true ↦ λ few. inl (record { inside = inside; few = leb-true (cells_for config object) (2 ^ 24) few })
            | false ↦ λ more. inr (TooManyCells place, many inside (leb-false (cells_for config object) (2 ^ 24) more))
          ] refl
    ] refl

-- ---- the places

some_is : (o : Option Object) (object : Object) → Some o ≡ Some (Some object) → o ≡ Some object
some_is o object e = cc

module _ (config : KeyMap) where
  place_none : (n : ℕ) (o : Option Object) → ((object : Object) → Some o ≡ Some (Some object) → IsPrintable config object) → place_problem config n o ≡ None
  place_none n None h = refl
  place_none n (Some object) h = printable_none config n object (h object refl)

  all_printable : (places : List (Option Object)) (n : ℕ) → ((k : ℕ) (object : Object) → IsAt places k object → IsPrintable config object) → first_problem config n places ≡ None
  all_printable [] n h = refl
  all_printable (o ∷ places) n h = rw (place_none n o (λ object is. h zero object is)) (all_printable places (n + 1) (λ k object at. h (suc k) object at))

  one_unprintable : (places : List (Option Object)) (n i place : ℕ) (object : Object) (problem : Problem) → place ≡ n + i → IsAt places i object
      → ((k : ℕ) (earlier : Object) → k < i → IsAt places k earlier → IsPrintable config earlier) → object_problem config place object ≡ Some problem → first_problem config n places ≡ Some problem
  one_unprintable [] n i place object problem p at before e = cc
  one_unprintable (o ∷ places) n zero place object problem p at before e =
      let here : place ≡ n = omega (arith, p) in
      let is : place_problem config n o ≡ Some problem = ap (place_problem config n) (some_is o object at) ∙ ap (λ m. object_problem config m object) (sym here) ∙ e in
      ap (λ found. option_or found (first_problem config (n + 1) places)) is
  one_unprintable (o ∷ places) n (suc i) place object problem p at before e =
      let none : place_problem config n o ≡ None = place_none n o (λ earlier is. before zero earlier (omega arith) is) in
      ap (λ found. option_or found (first_problem config (n + 1) places)) none
      ∙ one_unprintable places (n + 1) i place object problem (omega (arith, p)) at (λ k earlier below there. before (suc k) earlier (omega (arith, below)) there) e

  -- the first object that is not printable, where the first of the places has this number
  record FirstBad (places : List (Option Object)) (n : ℕ) : Type 0 where
    number : ℕ
    object : Object
    problem : Problem
    at : IsAt places number object
    before : (k : ℕ) (earlier : Object) → k < number → IsAt places k earlier → IsPrintable config earlier
    bad : IsUnprintable config (n + number) object problem

  later_bad : (o : Option Object) (places : List (Option Object)) (n : ℕ) → ((object : Object) → Some o ≡ Some (Some object) → IsPrintable config object) → FirstBad places (n + 1) → FirstBad (o ∷ places) n
  later_bad o places n first bad =
      let same : n + 1 + bad.number ≡ n + suc bad.number = omega arith in
      record {
        number = suc bad.number;
        object = bad.object;
        problem = bad.problem;
        at = bad.at;
        before = before;
        bad = subst (λ m. IsUnprintable config m bad.object bad.problem) same bad.bad;
      }
    where
      before : (k : ℕ) (earlier : Object) → k < suc bad.number → IsAt (o ∷ places) k earlier → IsPrintable config earlier
      before zero earlier below there = first earlier there
      before (suc k) earlier below there = bad.before k earlier (omega (arith, below)) there

  all_more : (o : Option Object) (places : List (Option Object)) → ((object : Object) → Some o ≡ Some (Some object) → IsPrintable config object)
      → ((k : ℕ) (object : Object) → IsAt places k object → IsPrintable config object) → (k : ℕ) (object : Object) → IsAt (o ∷ places) k object → IsPrintable config object
  all_more o places first rest zero object at = first object at
  all_more o places first rest (suc k) object at = rest k object at

  no_first : (n : ℕ) (object : Object) (problem : Problem) (places : List (Option Object)) → IsUnprintable config n object problem → FirstBad (Some object ∷ places) n
  no_first n object problem places bad =
      let same : n ≡ n + 0 = omega arith in
      record {
        number = 0;
        object = object;
        problem = problem;
        at = refl;
        before = λ k earlier below there. absurd (omega (arith, below));
        bad = subst (λ m. IsUnprintable config m object problem) same bad;
      }

  first_cases : (o : Option Object) (n : ℕ) (places : List (Option Object)) → ((object : Object) → Some o ≡ Some (Some object) → IsPrintable config object) ⊎ FirstBad (o ∷ places) n
  first_cases None n places = inl (λ object is. absurd (cc is))
  first_cases (Some object) n places = elim (object_cases config n object) [
    | inl printable ↦ inl (λ other is. let same : object ≡ other = cc is in subst (λ o. IsPrintable config o) same printable)
    | inr bad ↦ inr (no_first n object bad.0 places bad.1)
  ]

  places_cases : (places : List (Option Object)) (n : ℕ) → ((k : ℕ) (object : Object) → IsAt places k object → IsPrintable config object) ⊎ FirstBad places n
  places_cases [] n = inl (λ k object at. absurd (cc at))
  places_cases (o ∷ places) n = elim (first_cases o n places) [
    | inr bad ↦ inr bad
    | inl first ↦ elim (places_cases places (n + 1)) [
      | inr bad ↦ inr (later_bad o places n first bad)
      | inl rest ↦ inl (all_more o places first rest)
    ]
  ]

-- ---- whether a place is filled

none_filled : (places : List (Option Object)) → list_all is_none places ≡ true → (place : ℕ) (object : Object) → IsAt places place object → ⊥
none_filled [] e place object at = cc
none_filled (None ∷ places) e zero object at = cc
none_filled (None ∷ places) e (suc place) object at = none_filled places e place object at
none_filled (Some other ∷ places) e place object at = true≢false (sym e)

filled_one : (places : List (Option Object)) → list_all is_none places ≡ false → (place : ℕ) × (object : Object) × IsAt places place object
filled_one [] e = absurd (true≢false e)
filled_one (Some object ∷ places) e = (0, object, refl)
filled_one (None ∷ places) e = let more = filled_one places e in (suc more.0, more.1, more.2)

-- ---- the plate

module _ (plate : Contents) where
  abbrev pub Told : Option Problem → Type 0
  Told None = CanBePrinted plate
  Told (Some problem) = HasProblem plate problem

  some_filled : (place : ℕ) (object : Object) → IsAt plate.places place object → list_all is_none plate.places ≡ false
  some_filled place object at = elim (list_all is_none plate.places) as (λ b. list_all is_none plate.places ≡ b → list_all is_none plate.places ≡ false) [
    | true ↦ λ e. absurd (none_filled plate.places e place object at)
    | false ↦ λ e. e
  ] refl

  all_empty : ((place : ℕ) (object : Object) → IsAt plate.places place object → ⊥) → list_all is_none plate.places ≡ true
  all_empty h = elim (list_all is_none plate.places) as (λ b. list_all is_none plate.places ≡ b → list_all is_none plate.places ≡ true) [
    | true ↦ λ e. e
    | false ↦ λ e. let there = filled_one plate.places e in absurd (h there.0 there.1 there.2)
  ] refl

  where_filled : (place : ℕ) (object : Object) (found : Option Problem) → IsAt plate.places place object → first_problem plate.config 0 plate.places ≡ found → problem_of plate ≡ found
  where_filled place object found at e = ap (λ b. cond b (Some Empty) (first_problem plate.config 0 plate.places)) (some_filled place object at) ∙ e

  pub told_computed : (found : Option Problem) → Told found → problem_of plate ≡ found
  told_computed None h =
      where_filled h.place h.object None h.there
      (all_printable plate.config plate.places 0 (λ k object at. h.printable k object (slice_get_within plate.places k (Some object) at) at))
  told_computed (Some Empty) (told.empty h) = ap (λ b. cond b (Some Empty) (first_problem plate.config 0 plate.places)) (all_empty h)
  told_computed (Some problem) (told.out_of_bed place instance object before at h) =
      where_filled place object (Some (OutOfBed place instance)) at
      (one_unprintable plate.config plate.places 0 place place object (OutOfBed place instance) (omega arith) at before (unprintable_some plate.config place object (OutOfBed place instance) (out instance h)))
  told_computed (Some problem) (told.too_many_cells place object before at inside h) =
      where_filled place object (Some (TooManyCells place)) at
      (one_unprintable plate.config plate.places 0 place place object (TooManyCells place) (omega arith) at before (unprintable_some plate.config place object (TooManyCells place) (many inside h)))

  told_of : (place : ℕ) (object : Object) (problem : Problem) → ArePrintable plate place → IsAt plate.places place object → IsUnprintable plate.config place object problem → HasProblem plate problem
  told_of place object problem before at (out instance h) = told.out_of_bed place instance object before at h
  told_of place object problem before at (many inside h) = told.too_many_cells place object before at inside h

  something : (found : Option Problem) × Told found
  something = elim (list_all is_none plate.places) as (λ b. list_all is_none plate.places ≡ b → (found : Option Problem) × Told found) [
    | true ↦ λ e. (Some Empty, told.empty (none_filled plate.places e))
    | false ↦ λ e.
        let there = filled_one plate.places e in
        elim (places_cases plate.config plate.places 0) [
          | inl all ↦ (None, record { place = there.0; object = there.1; there = there.2; printable = λ k object below at. all k object at })
          | inr bad ↦
              let same : 0 + bad.number ≡ bad.number = omega arith in
              (Some bad.problem, told_of bad.number bad.object bad.problem bad.before bad.at (subst (λ m. IsUnprintable plate.config m bad.object bad.problem) same bad.bad))
        ]
  ] refl

  pub computed_told : (found : Option Problem) → problem_of plate ≡ found → Told found
  computed_told found e =
      let it = something in
      let same : it.0 ≡ found = sym (told_computed it.0 it.1) ∙ e in
      subst Told same it.1

  pub told_result : (result : Option Problem) → result ≡ problem_of plate → MatchOption result (CanBePrinted plate) (HasProblem plate)
  told_result None e = computed_told None (sym e)
  told_result (Some problem) e = computed_told (Some problem) (sym e)
