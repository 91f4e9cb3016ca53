-- A trace that follows steps from a number and marks each, until it meets a mark.
use Rattle.std.proofs.Common.{◌≡◌, ◌≢◌, ◌⊎◌, inl, inr, ℕ, zero, suc, ◌<◌, ◌≤◌, ◌+◌, ◌-◌, Bool, true, false, not, cond, List, [], ◌∷◌, ◌++◌, map, length, get_or, set, refl, sym, ◌∙◌, ap, subst, arith, length-append, length-set, get_or-set_same, get_or-set_other}
use Rattle.std.specs.List.{range_with_len, count_by}
use Rattle.std.proofs.lemmas.Bool.{cases_eq, cases_lt, both_ways}
use Rattle.std.proofs.lemmas.List.{get_or_default}
use Rattle.std.proofs.lemmas.List.Sums.{sum_by-set, count_by-le-length}
use Rattle.std.proofs.lemmas.List.FromFn.{map-range_with_len_more}
use Rattle.pl_rings.specs.Cycles.{Permutes, steps, GoesRound, is_marked}
use Rattle.pl_rings.proofs.Iterates.{steps_count, steps_back, steps-add}

-- what leads to a marked number is marked
pub record IsClosed (counts : ℕ → Bool) (next : ℕ → ℕ) (marks : List Bool) : Type 0 where
  pub back : (k : ℕ) → counts k ≡ true → is_marked marks (next k) ≡ true → is_marked marks k ≡ true

-- the marks that were there stay, and the i-th step from k is marked for each i below n, and nothing else is
pub record MarksSteps (next : ℕ → ℕ) (k n : ℕ) (old new : List Bool) : Type 0 where
  pub size : length new ≡ length old
  pub kept : (j : ℕ) → is_marked old j ≡ true → is_marked new j ≡ true
  pub each : (i : ℕ) → i < n → is_marked new (steps next i k) ≡ true
  pub only : (j : ℕ) → is_marked new j ≡ true → (is_marked old j ≡ true) ⊎ ((i : ℕ) × (i < n) × (j ≡ steps next i k))

-- what holds after n steps: where it is, the way so far, and which marks it made
pub record OnTheWay (next : ℕ → ℕ) (start : ℕ) (old new : List Bool) (way : List ℕ) (at : ℕ) : Type 0 where
  pub here : at ≡ steps next (length way) start
  pub numbers : way ≡ map (λ i. steps next i start) (range_with_len 0 (length way))
  pub marks : MarksSteps next start (length way) old new
  pub away : (i : ℕ) → 0 < i → i < length way → steps next i start ≢ start
  pub room : length way + count_by not new ≤ length old

-- no step before the first
pub way_none : (next : ℕ → ℕ) (start : ℕ) (old : List Bool) → OnTheWay next start old old [] start
way_none next start old = record {
  here = refl;
  numbers = refl;
  marks = record { size = refl; kept = λ j h. h; each = λ i h. absurd (omega arith); only = λ j h. inl h };
  away = λ i p q. absurd (omega arith);
  room = omega (arith, count_by-le-length not old);
}

-- what a read of the mark at `at` says
pub mark_read : (marks : List Bool) (at : ℕ) (r : Bool) → at < length marks → r ≡ get_or marks at r → is_marked marks at ≡ r
mark_read marks at r p e = get_or_default marks at false r p ∙ sym e

pub set_marks : (marks : List Bool) (k : ℕ) → k < length marks → is_marked (set marks k true) k ≡ true
set_marks marks k p = get_or-set_same marks k true false p

pub marked_set : (marks : List Bool) (k j : ℕ) → k < length marks → is_marked marks j ≡ true → is_marked (set marks k true) j ≡ true
marked_set marks k j p h =
    elim (cases_eq j k) [
      | inl e ↦ ap (is_marked (set marks k true)) e ∙ set_marks marks k p
      | inr ne ↦ get_or-set_other marks k j true false ne ∙ h
    ]

pub marked_after : (marks : List Bool) (k j : ℕ) → is_marked (set marks k true) j ≡ true → (is_marked marks j ≡ true) ⊎ (j ≡ k)
marked_after marks k j h =
    elim (cases_eq j k) [ inl e ↦ inr e | inr ne ↦ inl (sym (get_or-set_other marks k j true false ne) ∙ h) ]

-- one mark more
more_marks : (next : ℕ → ℕ) (start n at : ℕ) (old new : List Bool) → MarksSteps next start n old new → at ≡ steps next n start → at < length new → MarksSteps next start (n + 1) old (set new at true)
more_marks next start n at old new m e p = record {
  size = length-set new at true ∙ m.size;
  kept = λ j h. marked_set new at j p (m.kept j h);
  each = λ i h.
      elim (cases_lt i n) [
        | inl less ↦ marked_set new at (steps next i start) p (m.each i less)
        | inr past ↦ let same : i ≡ n = omega arith in ap (λ j. is_marked (set new at true) (steps next j start)) same ∙ ap (is_marked (set new at true)) (sym e) ∙ set_marks new at p
      ];
  only = λ j h.
      elim (marked_after new at j h) [
        | inl before ↦ elim (m.only j before) [ inl a ↦ inl a | inr w ↦ inr (w.0, omega arith, w.2) ]
        | inr same ↦ inr (n, omega arith, same ∙ e)
      ];
}

-- 1 for a place without a mark
abbrev bare : Bool → ℕ
bare b = cond (not b) 1 0

-- one step more
pub way_more : (next : ℕ → ℕ) (start at : ℕ) (old new : List Bool) (way : List ℕ) → OnTheWay next start old new way at → at < length new → is_marked new at ≡ false → OnTheWay next start old (set new at true) (way ++ at ∷ []) (next at)
way_more next start at old new way w p fresh =
    let len : length (way ++ at ∷ []) ≡ length way + 1 = length-append way (at ∷ []) in
    let len' : suc (length way) ≡ length (way ++ at ∷ []) = omega arith in
    let walk : ℕ → List ℕ = λ n. map (λ i. steps next i start) (range_with_len 0 n) in
    let more = map-range_with_len_more (λ i. steps next i start) 0 (length way) (length way) (omega arith) in
    let fewer = sum_by-set bare new at true false p in
    let one : bare (get_or new at false) ≡ 1 = ap bare fresh in
    record {
      here = ap next w.here ∙ ap (λ n. steps next n start) len';
      numbers = ap (λ xs. xs ++ at ∷ []) w.numbers ∙ ap (λ a. walk (length way) ++ a ∷ []) w.here ∙ sym more ∙ ap walk (sym len);
      marks = let P : ℕ → Type 0 = λ n. MarksSteps next start n old (set new at true) in subst P (sym len) (more_marks next start (length way) at old new w.marks w.here p);
      away = λ i pos less e.
          elim (cases_lt i (length way)) [
            | inl before ↦ w.away i pos before e
            | inr past ↦
                let same : i ≡ length way = omega arith in
                let begun : 0 < length way = omega arith in
                let back : at ≡ start = w.here ∙ ap (λ n. steps next n start) (sym same) ∙ e in
                both_ways _ fresh (ap (is_marked new) back ∙ w.marks.each 0 begun)
          ];
      room = omega (arith, w.room, fewer, one, len);
    }

-- a mark on a step leads back to the first
pub back_to_first : (counts : ℕ → Bool) (next : ℕ → ℕ) (n start : ℕ) (old : List Bool) → Permutes counts next n → counts start ≡ true → IsClosed counts next old → (i : ℕ) → is_marked old (steps next i start) ≡ true → is_marked old start ≡ true
back_to_first counts next n start old perm c closed zero h = h
back_to_first counts next n start old perm c closed (suc i) h = back_to_first counts next n start old perm c closed i (closed.back _ (steps_count counts next n perm start c i) h)

-- two steps that meet are a whole turn apart
pub apart_by_turn : (counts : ℕ → Bool) (next : ℕ → ℕ) (n start : ℕ) → Permutes counts next n → counts start ≡ true → (i j : ℕ) → i ≤ j → steps next j start ≡ steps next i start → steps next (j - i) start ≡ start
apart_by_turn counts next n start perm c i j le e =
    let sum : i + (j - i) ≡ j = omega arith in
    let split : steps next i (steps next (j - i) start) ≡ steps next i start = sym (steps-add next (j - i) i start) ∙ ap (λ k. steps next k start) sum ∙ e in
    steps_back counts next n perm (steps next (j - i) start) start (steps_count counts next n perm start c (j - i)) c i split

-- at a mark the way has gone round
pub way_all : (counts : ℕ → Bool) (next : ℕ → ℕ) (start at : ℕ) (old new : List Bool) (way : List ℕ) → Permutes counts next (length old) → counts start ≡ true → is_marked old start ≡ false → IsClosed counts next old → OnTheWay next start old new way at → is_marked new at ≡ true → GoesRound next start (length old) way
way_all counts next start at old new way perm c fresh closed w met =
    let few : length way ≤ length old = omega (arith, w.room) in
    elim (w.marks.only at met) [
      | inl was ↦ absurd (both_ways _ fresh (back_to_first counts next (length old) start old perm c closed (length way) (ap (is_marked old) (sym w.here) ∙ was)))
      | inr i ↦
          let turn : steps next (length way - i.0) start ≡ start = apart_by_turn counts next (length old) start perm c i.0 (length way) (omega arith) (sym w.here ∙ i.2) in
          elim (cases_eq i.0 0) [
            | inl first ↦
                let whole : length way - i.0 ≡ length way = omega arith in
                record { period = record { some = omega arith; back = ap (λ n. steps next n start) (sym whole) ∙ turn; first = w.away }; few = few; numbers = w.numbers }
            | inr later ↦ absurd (w.away (length way - i.0) (omega arith) (omega arith) turn)
          ]
    ]
