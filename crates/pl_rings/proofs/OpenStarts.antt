-- The cycles found from starts, without a mark for each number: a start is free until the cycle that it lies on is traced.
use Rattle.std.proofs.Common.{◌≡◌, inl, inr, ℕ, zero, suc, ◌<◌, ◌≤◌, ◌+◌, ◌-◌, Bool, true, false, List, [], ◌∷◌, ◌++◌, length, refl, sym, ◌∙◌, ap, subst, arith}
use Rattle.std.proofs.lemmas.Bool.{cases_lt, cases_eq, both_ways, cases_Bool, and_parts}
use Rattle.pl_rings.specs.Cycles.{Permutes, steps, cycle_of, is_least, IsPeriod, GoesRound}
use Rattle.pl_rings.specs.Search.{AreOpen, Closes, IsTraced, cycles_below}
use Rattle.pl_rings.proofs.Iterates.{steps_count, steps-next, steps-add}
use Rattle.pl_rings.proofs.Finding.{cycles_more, cycles_skip, cycle_is}
use Rattle.pl_rings.proofs.Partition.{Returns, returns_to, least_on, LeastOn, least_below}

-- the starts count, and the least number of each cycle is one
pub record AreStarts (counts starts : ℕ → Bool) (next : ℕ → ℕ) (n : ℕ) : Type 0 where
  pub some : (k : ℕ) → starts k ≡ true → counts k ≡ true
  pub least : (k : ℕ) → is_least counts next n k ≡ true → starts k ≡ true

-- a number of steps that is less than once round
steps_within : (next : ℕ → ℕ) (k m : ℕ) → IsPeriod next k m → (t : ℕ) → (s : ℕ) × (s < m) × (steps next t k ≡ steps next s k)
steps_within next k m p zero = (0, p.some, refl)
steps_within next k m p (suc t) =
    let w : (s : ℕ) × (s < m) × (steps next t k ≡ steps next s k) = steps_within next k m p t in
    elim (cases_eq (suc w.0) m) [
      | inl e ↦ (0, p.some, ap next w.2 ∙ ap (λ i. steps next i k) e ∙ p.back)
      | inr ne ↦ (suc w.0, omega (arith, w.1, ne), ap next w.2)
    ]

-- some steps lead back
back_again : (counts : ℕ → Bool) (next : ℕ → ℕ) (n i : ℕ) → Permutes counts next n → counts i ≡ true → (t : ℕ) → (s : ℕ) × (steps next s (steps next t i) ≡ i)
back_again counts next n i perm c zero = (0, refl)
back_again counts next n i perm c (suc t) =
    let r : Returns next n (steps next t i) = returns_to counts next n (steps next t i) perm (steps_count counts next n perm i c t) in
    let at : ℕ = steps next t i in
    let whole : suc (r.0 - 1) ≡ r.0 = omega (arith, r.2.some) in
    let one : steps next (r.0 - 1) (next at) ≡ at = steps-next next (r.0 - 1) at ∙ ap (λ j. steps next j at) whole ∙ r.2.back in
    let w : (s : ℕ) × (steps next s at ≡ i) = back_again counts next n i perm c t in
    (w.0 + (r.0 - 1), steps-add next (r.0 - 1) w.0 (next at) ∙ ap (steps next w.0) one ∙ w.1)

-- a number that counts and is not traced is the least of its cycle
fresh_least : (counts : ℕ → Bool) (next : ℕ → ℕ) (n k : ℕ) → Permutes counts next n → counts k ≡ true → (IsTraced counts next n k k → ⊥) → is_least counts next n k ≡ true
fresh_least counts next n k perm c fresh =
    let w : (l : ℕ) × LeastOn counts next n k l = least_on counts next n k perm c in
    let l : ℕ = w.0 in
    let lo : LeastOn counts next n k l = w.1 in
    let low : l ≤ k = lo.below 0 in
    elim (cases_lt l k) [
      | inl less ↦ absurd (fresh (l, less, lo.least, (lo.step, sym lo.there)))
      | inr past ↦ let same : l ≡ k = omega (arith, low) in ap (is_least counts next n) (sym same) ∙ lo.least
    ]

-- one that is traced is not
traced_not_least : (counts : ℕ → Bool) (next : ℕ → ℕ) (n k : ℕ) → Permutes counts next n → IsTraced counts next n k k → is_least counts next n k ≡ true → ⊥
traced_not_least counts next n k perm w least =
    let i : ℕ = w.0 in
    let r : Returns next n k = returns_to counts next n k perm (and_parts _ _ least).0 in
    let b : (s : ℕ) × (steps next s (steps next w.3.0 i) ≡ i) = back_again counts next n i perm (and_parts _ _ w.2).0 w.3.0 in
    let low : k ≤ steps next b.0 k = least_below counts next n k r.0 r.1 r.2 least b.0 in
    let there : steps next b.0 k ≡ i = ap (steps next b.0) w.3.1 ∙ b.1 in
    omega (arith, low, there, w.1)

-- an open start is the least of its cycle
pub open_least : (counts starts : ℕ → Bool) (next : ℕ → ℕ) (n k : ℕ) (free : ℕ → Bool) → Permutes counts next n → AreStarts counts starts next n → AreOpen counts starts next n k free → free k ≡ true → is_least counts next n k ≡ true
open_least counts starts next n k free perm are o h = fresh_least counts next n k perm (are.some k (o.starts_too k h)) (o.fresh k h)

-- and no other number is
pub shut_not_least : (counts starts : ℕ → Bool) (next : ℕ → ℕ) (n k : ℕ) (free : ℕ → Bool) → Permutes counts next n → AreStarts counts starts next n → AreOpen counts starts next n k free → free k ≡ false → is_least counts next n k ≡ false
shut_not_least counts starts next n k free perm are o h =
    elim (cases_Bool (is_least counts next n k)) [
      | inl least ↦ absurd (traced_not_least counts next n k perm (o.rest k (are.least k least) h) least)
      | inr not ↦ not
    ]

traced_later : (counts : ℕ → Bool) (next : ℕ → ℕ) (n k j : ℕ) → IsTraced counts next n k j → IsTraced counts next n (k + 1) j
traced_later counts next n k j w = (w.0, omega (arith, w.1), w.2, w.3)

-- all starts are free at first
pub open_all : (counts starts : ℕ → Bool) (next : ℕ → ℕ) (n : ℕ) (free : ℕ → Bool) → ((j : ℕ) → free j ≡ starts j) → AreOpen counts starts next n 0 free
open_all counts starts next n free e = record {
  starts_too = λ j h. sym (e j) ∙ h;
  fresh = λ j h w. omega (arith, w.1);
  rest = λ j s h. absurd (both_ways _ (sym (e j) ∙ h) s);
}

-- a number that is not the least of a cycle closes none
pub open_skip : (counts starts : ℕ → Bool) (next : ℕ → ℕ) (n k : ℕ) (free : ℕ → Bool) → AreOpen counts starts next n k free → is_least counts next n k ≡ false → AreOpen counts starts next n (k + 1) free
open_skip counts starts next n k free o not = record {
  starts_too = o.starts_too;
  fresh = λ j h w.
      elim (cases_lt w.0 k) [
        | inl before ↦ o.fresh j h (w.0, before, w.2, w.3)
        | inr past ↦ let same : w.0 ≡ k = omega (arith, w.1) in both_ways _ not (ap (is_least counts next n) (sym same) ∙ w.2)
      ];
  rest = λ j s h. traced_later counts next n k j (o.rest j s h);
}

-- a cycle that is traced closes its starts
pub open_more : (counts starts : ℕ → Bool) (next : ℕ → ℕ) (n k m : ℕ) (old new : ℕ → Bool) → AreOpen counts starts next n k old → is_least counts next n k ≡ true → IsPeriod next k m → Closes next k m old new → AreOpen counts starts next n (k + 1) new
open_more counts starts next n k m old new o least p c = record {
  starts_too = λ j h. o.starts_too j (c.kept j h);
  fresh = λ j h w.
      elim (cases_lt w.0 k) [
        | inl before ↦ o.fresh j (c.kept j h) (w.0, before, w.2, w.3)
        | inr past ↦
            let same : w.0 ≡ k = omega (arith, w.1) in
            let s : (s : ℕ) × (s < m) × (steps next w.3.0 k ≡ steps next s k) = steps_within next k m p w.3.0 in
            let here : j ≡ steps next s.0 k = w.3.1 ∙ ap (steps next w.3.0) same ∙ s.2 in
            both_ways _ (ap new here ∙ c.off s.0 s.1) h
      ];
  rest = λ j s h.
      elim (cases_Bool (old j)) [
        | inl was ↦ let i : (i : ℕ) × (i < m) × (j ≡ steps next i k) = c.only j was h in (k, omega arith, least, (i.0, i.2))
        | inr shut ↦ traced_later counts next n k j (o.rest j s shut)
      ];
}

-- ---- the search

-- what holds before the number k: the cycles found so far, and the starts that are free
pub record FoundOpen (counts starts : ℕ → Bool) (next : ℕ → ℕ) (n k : ℕ) (found : List (List ℕ)) (free : ℕ → Bool) : Type 0 where
  pub cycles : found ≡ cycles_below counts next n k
  pub marks : AreOpen counts starts next n k free

pub search_skip : (counts starts : ℕ → Bool) (next : ℕ → ℕ) (n k : ℕ) (found : List (List ℕ)) (free : ℕ → Bool) → Permutes counts next n → AreStarts counts starts next n → FoundOpen counts starts next n k found free → free k ≡ false → FoundOpen counts starts next n (k + 1) found free
search_skip counts starts next n k found free perm are f h =
    let not : is_least counts next n k ≡ false = shut_not_least counts starts next n k free perm are f.marks h in
    record { cycles = cycles_skip counts next n k found f.cycles not; marks = open_skip counts starts next n k free f.marks not }

-- over several numbers without an open start, as the zeros of a word
pub search_past : (counts starts : ℕ → Bool) (next : ℕ → ℕ) (n k : ℕ) (found : List (List ℕ)) (free : ℕ → Bool) → Permutes counts next n → AreStarts counts starts next n → FoundOpen counts starts next n k found free → (r : ℕ) → ((j : ℕ) → k ≤ j → j < k + r → free j ≡ false) → FoundOpen counts starts next n (k + r) found free
search_past counts starts next n k found free perm are f zero h = let e : k ≡ k + 0 = omega arith in let P : ℕ → Type 0 = λ i. FoundOpen counts starts next n i found free in subst P e f
search_past counts starts next n k found free perm are f (suc r) h =
    let e : k + r + 1 ≡ k + suc r = omega arith in
    let P : ℕ → Type 0 = λ i. FoundOpen counts starts next n i found free in
    subst P e (search_skip counts starts next n (k + r) found free perm are
    (search_past counts starts next n k found free perm are f r (λ j low high. h j low (omega arith)))
    (h (k + r) (omega arith) (omega arith)))

pub search_more : (counts starts : ℕ → Bool) (next : ℕ → ℕ) (n k : ℕ) (found : List (List ℕ)) (old new : ℕ → Bool) (round : List ℕ) → Permutes counts next n → AreStarts counts starts next n → FoundOpen counts starts next n k found old → old k ≡ true → GoesRound next k n round → Closes next k (length round) old new → FoundOpen counts starts next n (k + 1) (found ++ round ∷ []) new
search_more counts starts next n k found old new round perm are f h g c =
    let least : is_least counts next n k ≡ true = open_least counts starts next n k old perm are f.marks h in
    let cycle : round ≡ cycle_of next n k = g.numbers ∙ sym (cycle_is next n k (length round) g.few g.period) in
    record {
      cycles = cycles_more counts next n k found round f.cycles least cycle;
      marks = open_more counts starts next n k (length round) old new f.marks least g.period c;
    }
