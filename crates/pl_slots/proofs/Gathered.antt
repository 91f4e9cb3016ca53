-- What the objects of two lists of places give together, where each place gives the same in both.
use Rattle.std.proofs.Common.{◌≡◌, ℕ, zero, suc, ◌+◌, ◌<◌, ◌≤◌, Bool, cond, List, [], ◌∷◌, ◌++◌, length, map, filter, is_some, take, append-nil, Option, Some, None, refl, sym, ◌∙◌, ap, arith}
use Rattle.std.specs.Prelude.{◌||◌}
use Rattle.std.specs.List.{range_with_len, flat_map, filter_map, list_any}
use Rattle.std.specs.Option.{option_map}
use Rattle.std.proofs.lemmas.List.{map-id, get_or-take, get_or_past, length-take}
use Rattle.std.proofs.lemmas.List.Folds.{flat_map-map}
use Rattle.std.proofs.lemmas.List.FromFn.{filter_of_map_range_with_len_more}
use Rattle.pl_model.specs.declared.object.Object.{Object}
use Rattle.pl_model.specs.Places.{place_in}

-- ---- the objects

module _ {X : Type 0} (f g : Object → X) where
  pub maps_alike : (xs ys : List (Option Object)) → ((p : ℕ) → option_map f (place_in xs p) ≡ option_map g (place_in ys p)) → map f (filter_map (λ place. place) xs) ≡ map g (filter_map (λ place. place) ys)
  maps_alike [] [] h = refl
  maps_alike [] (None ∷ ys) h = maps_alike [] ys (λ p. h (suc p))
  maps_alike [] (Some y ∷ ys) h = absurd (cc (h 0))
  maps_alike (None ∷ xs) [] h = maps_alike xs [] (λ p. h (suc p))
  maps_alike (Some x ∷ xs) [] h = absurd (cc (h 0))
  maps_alike (None ∷ xs) (None ∷ ys) h = maps_alike xs ys (λ p. h (suc p))
  maps_alike (None ∷ xs) (Some y ∷ ys) h = absurd (cc (h 0))
  maps_alike (Some x ∷ xs) (None ∷ ys) h = absurd (cc (h 0))
  maps_alike (Some x ∷ xs) (Some y ∷ ys) h =
      let head : f x ≡ g y = cc (h 0) in
      let tail = maps_alike xs ys (λ p. h (suc p)) in
      λ i. head i ∷ tail i

pub flat_alike : {X : Type 0} (f g : Object → List X) (xs ys : List (Option Object)) → ((p : ℕ) → option_map f (place_in xs p) ≡ option_map g (place_in ys p)) → flat_map f (filter_map (λ place. place) xs) ≡ flat_map g (filter_map (λ place. place) ys)
flat_alike f g xs ys h =
    sym (flat_map-map (λ gives. gives) f (filter_map (λ place. place) xs))
    ∙ ap (flat_map (λ gives. gives)) (maps_alike f g xs ys h)
    ∙ flat_map-map (λ gives. gives) g (filter_map (λ place. place) ys)

any_of_map : (test : Object → Bool) (objects : List Object) → list_any (λ b. b) (map test objects) ≡ list_any test objects
any_of_map test [] = refl
any_of_map test (object ∷ objects) = ap (λ b. test object || b) (any_of_map test objects)

pub any_alike : (f g : Object → Bool) (xs ys : List (Option Object)) → ((p : ℕ) → option_map f (place_in xs p) ≡ option_map g (place_in ys p)) → list_any f (filter_map (λ place. place) xs) ≡ list_any g (filter_map (λ place. place) ys)
any_alike f g xs ys h =
    sym (any_of_map f (filter_map (λ place. place) xs)) ∙ ap (list_any (λ b. b)) (maps_alike f g xs ys h) ∙ any_of_map g (filter_map (λ place. place) ys)

-- ---- the places

-- what a place gives, in both plates
pub option_alike : {X : Type 0} (f g : Object → X) (o q : Option Object) → is_some o ≡ is_some q → ((x y : Object) → o ≡ Some x → q ≡ Some y → f x ≡ g y) → option_map f o ≡ option_map g q
option_alike f g None None there same = refl
option_alike f g (Some x) (Some y) there same = ap Some (same x y refl refl)
option_alike f g None (Some y) there same = absurd (cc there)
option_alike f g (Some x) None there same = absurd (cc there)

filled_more : (test : ℕ → Bool) (n : ℕ) → filter test (range_with_len 0 (n + 1)) ≡ filter test (range_with_len 0 n) ++ cond (test n) (n ∷ []) []
filled_more test n =
    sym (ap (filter test) (map-id (range_with_len 0 (n + 1))))
    ∙ filter_of_map_range_with_len_more test (λ x. x) 0 n n (omega arith)
    ∙ ap (λ xs. filter test xs ++ cond (test n) (n ∷ []) []) (map-id (range_with_len 0 n))

abbrev is_filled : List (Option Object) → ℕ → Bool
is_filled places place = is_some (place_in places place)

-- no place is filled past the end
none_past : (places : List (Option Object)) (k : ℕ) → filter (is_filled places) (range_with_len 0 (length places + k)) ≡ filter (is_filled places) (range_with_len 0 (length places))
none_past places zero = let e : length places + 0 ≡ length places = omega arith in ap (λ n. filter (is_filled places) (range_with_len 0 n)) e
none_past places (suc k) =
    let e : length places + suc k ≡ (length places + k) + 1 = omega arith in
    let past : place_in places (length places + k) ≡ None = get_or_past places (length places + k) None (omega arith) in
    ap (λ n. filter (is_filled places) (range_with_len 0 n)) e
    ∙ filled_more (is_filled places) (length places + k)
    ∙ ap (λ (place : Option Object). filter (is_filled places) (range_with_len 0 (length places + k)) ++ cond (is_some place) ((length places + k) ∷ []) []) past
    ∙ append-nil _
    ∙ none_past places k

pub filled_alike : (xs ys : List (Option Object)) → ((p : ℕ) → is_some (place_in xs p) ≡ is_some (place_in ys p)) → filter (λ place. is_some (place_in xs place)) (range_with_len 0 (length xs)) ≡ filter (λ place. is_some (place_in ys place)) (range_with_len 0 (length ys))
filled_alike xs ys h =
    let e : length xs + length ys ≡ length ys + length xs = omega arith in
    sym (none_past xs (length ys))
    ∙ (λ i. filter (λ place. h place i) (range_with_len 0 (e i)))
    ∙ none_past ys (length xs)

-- ---- the first sixteen places

pub first_places : (places : List (Option Object)) (p : ℕ) → p < 16 → place_in (take 16 places) p ≡ place_in places p
first_places places p here = get_or-take 16 places p None here

pub no_more_places : (places : List (Option Object)) (p : ℕ) → 16 ≤ p → place_in (take 16 places) p ≡ None
no_more_places places p past = get_or_past (take 16 places) p None (omega (arith, length-take 16 places))
