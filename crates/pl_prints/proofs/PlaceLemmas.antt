-- What the places of a plate give, one after another.
use Rattle.std.proofs.Common.{◌≡◌, ℕ, ◌+◌, ◌<◌, ◌≤◌, Bool, cond, List, [], ◌∷◌, ◌++◌, length, map, filter, is_some, get_or, take, append-nil, Option, Some, None, refl, sym, ◌∙◌, ap, arith}
use Rattle.std.specs.List.{range_with_len, flat_map, filter_map}
use Rattle.std.proofs.lemmas.Grind.{flat_map-append}
use Rattle.std.proofs.lemmas.List.{map-id, take_more, take_all}
use Rattle.std.proofs.lemmas.List.Concat.{flat_map_single}
use Rattle.std.proofs.lemmas.List.Elements.{filter_map-append}
use Rattle.std.proofs.lemmas.List.FromFn.{filter_of_map_range_with_len_more}
use Rattle.pl_model.specs.declared.object.Object.{Object}
use Rattle.pl_model.specs.Places.{place_in}
use Rattle.pl_prints.specs.Heights.{if_filled, of_object}

-- ---- the filled places

filled_more : (places : List (Option Object)) (n : ℕ) → filter (λ place. is_some (place_in places place)) (range_with_len 0 (n + 1)) ≡ filter (λ place. is_some (place_in places place)) (range_with_len 0 n) ++ if_filled places n
filled_more places n =
    let p : ℕ → Bool = λ place. is_some (place_in places place) in
    sym (ap (filter p) (map-id (range_with_len 0 (n + 1))))
    ∙ filter_of_map_range_with_len_more p (λ x. x) 0 n n (omega arith)
    ∙ ap (λ xs. filter p xs ++ cond (p n) (n ∷ []) []) (map-id (range_with_len 0 n))

pub places_more : (places : List (Option Object)) (n : ℕ) (old new : List ℕ) → old ≡ filter (λ place. is_some (place_in places place)) (range_with_len 0 n) → new ≡ old ++ if_filled places n → new ≡ filter (λ place. is_some (place_in places place)) (range_with_len 0 (n + 1))
places_more places n old new before more = more ∙ ap (λ xs. xs ++ if_filled places n) before ∙ sym (filled_more places n)

pub places_all : (places filled : List (Option Object)) (n : ℕ) (old : List ℕ) → filled ≡ places → length filled ≡ n → old ≡ filter (λ place. is_some (place_in filled place)) (range_with_len 0 n) → old ≡ filter (λ place. is_some (place_in places place)) (range_with_len 0 (length places))
places_all places filled n old same count is =
    is
    ∙ ap (λ m. filter (λ place. is_some (place_in filled place)) (range_with_len 0 m)) (sym count)
    ∙ ap (λ ps. filter (λ place. is_some (place_in ps place)) (range_with_len 0 (length ps))) same

-- ---- the objects

one_gives : {X : Type 0} (gives : Object → List X) (place : Option Object) → flat_map gives (filter_map (λ p. p) (place ∷ [])) ≡ of_object gives place
one_gives gives None = refl
one_gives gives (Some object) = append-nil (gives object)

gives_more : {X : Type 0} (gives : Object → List X) (places : List (Option Object)) (i : ℕ) (place d : Option Object) → i < length places → place ≡ get_or places i d → flat_map gives (filter_map (λ p. p) (take (i + 1) places)) ≡ flat_map gives (filter_map (λ p. p) (take i places)) ++ of_object gives place
gives_more gives places i place d less here =
    ap (λ ps. flat_map gives (filter_map (λ p. p) ps)) (take_more places i d less)
    ∙ ap (flat_map gives) (filter_map-append (λ p. p) (take i places) (get_or places i d ∷ []))
    ∙ flat_map-append gives (filter_map (λ p. p) (take i places)) (filter_map (λ p. p) (get_or places i d ∷ []))
    ∙ ap (λ xs. flat_map gives (filter_map (λ p. p) (take i places)) ++ xs) (one_gives gives (get_or places i d) ∙ ap (of_object gives) (sym here))

pub gives_step : {X : Type 0} (gives : Object → List X) (items places : List (Option Object)) (i : ℕ) (place d : Option Object) (old new : List X) → items ≡ places → i < length items → place ≡ get_or items i d → old ≡ flat_map gives (filter_map (λ p. p) (take i places)) → new ≡ old ++ of_object gives place → new ≡ flat_map gives (filter_map (λ p. p) (take (i + 1) places))
gives_step gives items places i place d old new same less here before more =
    more ∙ ap (λ xs. xs ++ of_object gives place) before
    ∙ sym (gives_more gives places i place d (rw (← same) less) (here ∙ ap (λ ps. get_or ps i d) same))

pub gives_all : {X : Type 0} (gives : Object → X) (items places : List (Option Object)) (i : ℕ) (old : List X) → items ≡ places → length items ≤ i → old ≡ flat_map (λ object. gives object ∷ []) (filter_map (λ p. p) (take i places)) → old ≡ map gives (filter_map (λ p. p) places)
gives_all gives items places i old same all is =
    is
    ∙ ap (λ ps. flat_map (λ object. gives object ∷ []) (filter_map (λ p. p) ps)) (take_all i places (rw (← same) all))
    ∙ flat_map_single gives (filter_map (λ p. p) places)
