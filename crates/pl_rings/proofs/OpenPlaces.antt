-- Starts by their places, of which each has a mark.
use Rattle.std.proofs.Common.{◌≡◌, inl, inr, ℕ, ◌<◌, ◌≤◌, ◌+◌, ◌-◌, ◌*◌, ◌/◌, Bool, true, false, not, ◌&&◌, Some, None, List, [], ◌∷◌, ◌++◌, length, length-set, set, refl, sym, ◌∙◌, ap, subst, arith, replicate}
use Rattle.std.specs.declared.option.Option.{Option}
use Rattle.std.proofs.lemmas.Bool.{both_ways, cases_Bool, and_parts, and_from, and_left, and_right}
use Rattle.std.proofs.lemmas.Nat.{div-mul-add}
use Rattle.pl_rings.specs.Cycles.{Permutes, steps, GoesRound, is_marked}
use Rattle.pl_rings.specs.Search.{Closes, free_start, passed}
use Rattle.pl_rings.proofs.Finding.{no_mark}
use Rattle.pl_rings.proofs.Tracing.{set_marks, marked_set, marked_after}
use Rattle.pl_rings.proofs.OpenStarts.{AreStarts, FoundOpen, open_all, search_past, search_more}

-- no two starts have one place
pub record ArePlaced (starts : ℕ → Bool) : Type 0 where
  pub alone : (j k : ℕ) → starts j ≡ true → starts k ≡ true → j / 4 ≡ k / 4 → j ≡ k

-- what a search of a place finds
abbrev pub IsStartAt : (ℕ → Bool) → ℕ → Option ℕ → Type 0
IsStartAt starts p None = (r : ℕ) → r < 4 → starts (p * 4 + r) ≡ false
IsStartAt starts p (Some k) = (r : ℕ) × (r < 4) × (k ≡ p * 4 + r) × (starts k ≡ true)

pub not_true : (b : Bool) → not b ≡ true → b ≡ false
not_true false h = refl
not_true true h = absurd (both_ways false refl h)

not_false : (b : Bool) → not b ≡ false → b ≡ true
not_false true h = refl
not_false false h = absurd (both_ways true h refl)

and_true : (b : Bool) → (b && true) ≡ b
and_true false = refl
and_true true = refl

-- ---- one mark

-- a start that is passed takes the mark of its place
closes_one : (starts : ℕ → Bool) (next : ℕ → ℕ) (marks : List Bool) (k : ℕ) → ArePlaced starts → starts k ≡ true → k / 4 < length marks → Closes next k 1 (free_start starts marks) (free_start starts (set marks (k / 4) true))
closes_one starts next marks k placed s small =
    let new : List Bool = set marks (k / 4) true in
    record {
      kept = λ j h.
          let parts = and_parts (starts j) (not (is_marked new (j / 4))) h in
          and_from (starts j) (not (is_marked marks (j / 4))) parts.0
          (elim (cases_Bool (is_marked marks (j / 4))) [
            | inl was ↦ absurd (both_ways _ (not_true _ parts.1) (marked_set marks (k / 4) (j / 4) small was))
            | inr bare ↦ ap not bare
          ]);
      off = λ i less.
          let first : i ≡ 0 = omega (arith, less) in
          ap (λ t. free_start starts new (steps next t k)) first
          ∙ and_right (starts k) (not (is_marked new (k / 4))) (ap not (set_marks marks (k / 4) small));
      only = λ j was h.
          let parts = and_parts (starts j) (not (is_marked marks (j / 4))) was in
          let now : is_marked new (j / 4) ≡ true = not_false _ (sym (ap (λ b. b && not (is_marked new (j / 4))) parts.0) ∙ h) in
          elim (marked_after marks (k / 4) (j / 4) now) [
            | inl before ↦ absurd (both_ways _ (not_true _ parts.1) before)
            | inr same ↦ (0, omega arith, placed.alone j k parts.0 s same)
          ];
    }

-- a number that is no start takes none
closes_none : (starts : ℕ → Bool) (next : ℕ → ℕ) (marks : List Bool) (k : ℕ) → starts k ≡ false → Closes next k 1 (free_start starts marks) (free_start starts marks)
closes_none starts next marks k s = record {
  kept = λ j h. h;
  off = λ i less.
      let first : i ≡ 0 = omega (arith, less) in
      ap (λ t. free_start starts marks (steps next t k)) first ∙ and_left (starts k) (not (is_marked marks (k / 4))) s;
  only = λ j was h. absurd (both_ways _ h was);
}

-- what passing a number does to the marks
pub closes_passed : (starts : ℕ → Bool) (next : ℕ → ℕ) (marks : List Bool) (k : ℕ) (is_start : Bool) → ArePlaced starts → is_start ≡ starts k → k < length marks * 4 → Closes next k 1 (free_start starts marks) (free_start starts (passed k is_start marks))
closes_passed starts next marks k true placed e small = closes_one starts next marks k placed (sym e) (omega (arith, small))
closes_passed starts next marks k false placed e small = closes_none starts next marks k (sym e)

pub length-passed : (marks : List Bool) (k : ℕ) (is_start : Bool) → length (passed k is_start marks) ≡ length marks
length-passed marks k true = length-set marks (k / 4) true
length-passed marks k false = refl

-- ---- the search, a place at a time

place_of_number : (p j : ℕ) → p * 4 ≤ j → j < p * 4 + 4 → j / 4 ≡ p
place_of_number p j low high =
    let e : j ≡ p * 4 + (j - p * 4) = omega (arith, low) in
    ap (λ i. i / 4) e ∙ div-mul-add p 4 (j - p * 4) (omega (arith, low, high))

-- what holds before a place
pub record AtPlace (counts starts : ℕ → Bool) (next : ℕ → ℕ) (places p : ℕ) (found : List (List ℕ)) (marks : List Bool) : Type 0 where
  pub size : length marks ≡ places
  pub search : FoundOpen counts starts next (places * 4) (p * 4) found (free_start starts marks)

pub place_first : (counts starts : ℕ → Bool) (next : ℕ → ℕ) (places : ℕ) (marks : List Bool) → length marks ≡ places → marks ≡ replicate places false → AtPlace counts starts next places 0 [] marks
place_first counts starts next places marks size e = record {
  size = size;
  search = record {
    cycles = refl;
    marks = open_all counts starts next (places * 4) (free_start starts marks)
        (λ j. ap (λ ms. free_start starts ms j) e ∙ ap (λ b. starts j && not b) (no_mark places (j / 4)) ∙ and_true (starts j));
  };
}

next_place : (counts starts : ℕ → Bool) (next : ℕ → ℕ) (n p m : ℕ) (found : List (List ℕ)) (free : ℕ → Bool) → m ≡ p * 4 + 4 → FoundOpen counts starts next n m found free → FoundOpen counts starts next n ((p + 1) * 4) found free
next_place counts starts next n p m found free e f =
    let P : ℕ → Type 0 = λ i. FoundOpen counts starts next n i found free in
    let same : m ≡ (p + 1) * 4 = omega (arith, e) in
    subst P same f

-- a place without a start
pub place_none : (counts starts : ℕ → Bool) (next : ℕ → ℕ) (places p : ℕ) (found : List (List ℕ)) (marks : List Bool) → Permutes counts next (places * 4) → AreStarts counts starts next (places * 4) → AtPlace counts starts next places p found marks → IsStartAt starts p None → AtPlace counts starts next places (p + 1) found marks
place_none counts starts next places p found marks perm are a none = record {
  size = a.size;
  search = next_place counts starts next (places * 4) p (p * 4 + 4) found (free_start starts marks) refl
      (search_past counts starts next (places * 4) (p * 4) found (free_start starts marks) perm are a.search 4
      (λ j low high.
      let e : p * 4 + (j - p * 4) ≡ j = omega (arith, low) in
      and_left (starts j) (not (is_marked marks (j / 4))) (ap starts (sym e) ∙ none (j - p * 4) (omega (arith, low, high)))));
}

-- a place that is marked
pub place_marked : (counts starts : ℕ → Bool) (next : ℕ → ℕ) (places p : ℕ) (found : List (List ℕ)) (marks : List Bool) → Permutes counts next (places * 4) → AreStarts counts starts next (places * 4) → AtPlace counts starts next places p found marks → is_marked marks p ≡ true → AtPlace counts starts next places (p + 1) found marks
place_marked counts starts next places p found marks perm are a met = record {
  size = a.size;
  search = next_place counts starts next (places * 4) p (p * 4 + 4) found (free_start starts marks) refl
      (search_past counts starts next (places * 4) (p * 4) found (free_start starts marks) perm are a.search 4
      (λ j low high. and_right (starts j) (not (is_marked marks (j / 4))) (ap (λ i. not (is_marked marks i)) (place_of_number p j low high) ∙ ap not met)));
}

-- no other start at the place of one
others : (starts : ℕ → Bool) (p k j : ℕ) (marks : List Bool) → ArePlaced starts → starts k ≡ true → p * 4 ≤ k → k < p * 4 + 4 → p * 4 ≤ j → j < p * 4 + 4 → (j ≡ k → ⊥) → free_start starts marks j ≡ false
others starts p k j marks placed s low high low' high' other =
    elim (cases_Bool (starts j)) [
      | inl one ↦ absurd (other (placed.alone j k one s (place_of_number p j low' high' ∙ sym (place_of_number p k low high))))
      | inr none ↦ and_left (starts j) (not (is_marked marks (j / 4))) none
    ]

-- a place with a start that is free: its cycle is traced
pub place_more : (counts starts : ℕ → Bool) (next : ℕ → ℕ) (places p k : ℕ) (found : List (List ℕ)) (old new : List Bool) (round : List ℕ) → Permutes counts next (places * 4) → AreStarts counts starts next (places * 4) → ArePlaced starts → AtPlace counts starts next places p found old → IsStartAt starts p (Some k) → is_marked old p ≡ false → length new ≡ length old → GoesRound next k (places * 4) round → Closes next k (length round) (free_start starts old) (free_start starts new) → AtPlace counts starts next places (p + 1) (found ++ round ∷ []) new
place_more counts starts next places p k found old new round perm are placed a at fresh size g c =
    let n : ℕ = places * 4 in
    let r : ℕ = at.0 in
    let s : starts k ≡ true = at.3 in
    let low : p * 4 ≤ k = omega (arith, at.2) in
    let high : k < p * 4 + 4 = omega (arith, at.1, at.2) in
    let free : free_start starts old k ≡ true = and_from (starts k) (not (is_marked old (k / 4))) s (ap (λ i. not (is_marked old i)) (place_of_number p k low high) ∙ ap not fresh) in
    let before : FoundOpen counts starts next n (p * 4 + r) found (free_start starts old) =
    search_past counts starts next n (p * 4) found (free_start starts old) perm are a.search r
    (λ j low' high'. others starts p k j old placed s low high low' (omega (arith, high', at.1)) (λ e. omega (arith, e, high', at.2))) in
    let P : ℕ → Type 0 = λ i. FoundOpen counts starts next n i found (free_start starts old) in
    let here : FoundOpen counts starts next n k found (free_start starts old) = subst P (sym at.2) before in
    let more : FoundOpen counts starts next n (k + 1) (found ++ round ∷ []) (free_start starts new) =
    search_more counts starts next n k found (free_start starts old) (free_start starts new) round perm are here free g c in
    let sum : k + 1 + (3 - r) ≡ p * 4 + 4 = omega (arith, at.1, at.2) in
    record {
      size = size ∙ a.size;
      search = next_place counts starts next n p (k + 1 + (3 - r)) (found ++ round ∷ []) (free_start starts new) sum
          (search_past counts starts next n (k + 1) (found ++ round ∷ []) (free_start starts new) perm are more (3 - r)
          (λ j low' high'. others starts p k j new placed s low high (omega (arith, low', low)) (omega (arith, high', sum)) (λ e. omega (arith, e, low'))));
    }
