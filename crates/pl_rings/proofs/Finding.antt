-- The cycles in the order of their least numbers.
use Rattle.std.proofs.Common.{◌≡◌, inl, inr, ℕ, zero, suc, ◌<◌, ◌≤◌, ◌+◌, Bool, true, false, cond, List, [], ◌∷◌, ◌++◌, map, refl, sym, ◌∙◌, ap, arith, add-one, replicate}
use Rattle.std.proofs.lemmas.List.{get_or-replicate, length-replicate, get_or_past, map-append, append-nil}
use Rattle.pl_rings.proofs.Tracing.{IsClosed}
use Rattle.std.specs.List.{range_with_len, list_all, filter}
use Rattle.std.proofs.lemmas.Bool.{cases_lt, cases_eq, both_ways, and_right}
use Rattle.pl_rings.specs.Cycles.{Permutes, steps, cycle_of, is_least, IsPeriod, is_marked}
use Rattle.pl_rings.specs.Search.{cycles_below}
use Rattle.pl_rings.proofs.Iterates.{steps_count, steps_back, steps-add, walk_is}

-- the walk from a number is its steps as far as its period
pub cycle_is : (next : ℕ → ℕ) (n k m : ℕ) → m ≤ n → IsPeriod next k m → cycle_of next n k ≡ map (λ i. steps next i k) (range_with_len 0 m)
cycle_is next n k m few p =
    let sum : 0 + m ≡ m = omega arith in
    let back : steps next (0 + m) k ≡ k = ap (λ i. steps next i k) sum ∙ p.back in
    walk_is next k m n 0 k refl few p.some back (λ j pos less. p.first j pos (omega arith))

pub all_steps : (next : ℕ → ℕ) (k : ℕ) (p : ℕ → Bool) (a r : ℕ) → ((i : ℕ) → i < a + r → p (steps next i k) ≡ true) → list_all p (map (λ i. steps next i k) (range_with_len a r)) ≡ true
all_steps next k p a zero h = refl
all_steps next k p a (suc r) h =
    rw (h a (omega arith)) (all_steps next k p (a + 1) r (λ i less. h i (omega arith)))

pub not_all_steps : (next : ℕ → ℕ) (k : ℕ) (p : ℕ → Bool) (a r j : ℕ) → a ≤ j → j < a + r → p (steps next j k) ≡ false → list_all p (map (λ i. steps next i k) (range_with_len a r)) ≡ false
not_all_steps next k p a zero j low high h = absurd (omega arith)
not_all_steps next k p a (suc r) j low high h =
    elim (cases_eq a j) [
      | inl e ↦ let here : p (steps next a k) ≡ false = ap (λ i. p (steps next i k)) e ∙ h in rw here refl
      | inr ne ↦ and_right _ _ (not_all_steps next k p (a + 1) r j (omega arith) (omega arith) h)
    ]

steps_swap : (next : ℕ → ℕ) (m t i : ℕ) → steps next m (steps next t i) ≡ steps next t (steps next m i)
steps_swap next m t i = let e : m + t ≡ t + m = omega arith in sym (steps-add next t m i) ∙ ap (λ k. steps next k i) e ∙ steps-add next m t i

-- the period is that of each number of the cycle
pub period_on : (counts : ℕ → Bool) (next : ℕ → ℕ) (n i m t : ℕ) → Permutes counts next n → counts i ≡ true → IsPeriod next i m → IsPeriod next (steps next t i) m
period_on counts next n i m t perm c p = record {
  some = p.some;
  back = steps_swap next m t i ∙ ap (steps next t) p.back;
  first = λ j pos less e. p.first j pos less (steps_back counts next n perm (steps next j i) i (steps_count counts next n perm i c j) c t (steps_swap next t j i ∙ e));
}

pub no_mark : (n j : ℕ) → is_marked (replicate n false) j ≡ false
no_mark n j = elim (cases_lt j n) [ inl less ↦ get_or-replicate n j false false less | inr past ↦ get_or_past (replicate n false) j false (omega (arith, length-replicate n false)) ]

-- a list without marks is closed
pub none_closed : (counts : ℕ → Bool) (next : ℕ → ℕ) (n : ℕ) → IsClosed counts next (replicate n false)
none_closed counts next n = record { back = λ k c h. absurd (both_ways _ (no_mark n (next k)) h) }

filter-range_suc : (p : ℕ → Bool) (a k : ℕ) → filter p (range_with_len a (suc k)) ≡ filter p (range_with_len a k) ++ cond (p (a + k)) ((a + k) ∷ []) []
filter-range_suc p a zero = let e : a ≡ a + 0 = omega arith in ap (λ x. cond (p x) (x ∷ []) []) e
filter-range_suc p a (suc k) =
    let e : a + 1 + k ≡ a + suc k = omega arith in
    let F : ℕ → List ℕ = λ x. filter p (range_with_len (a + 1) k) ++ cond (p x) (x ∷ []) [] in
    let rest : filter p (range_with_len (a + 1) (suc k)) ≡ F (a + suc k) = filter-range_suc p (a + 1) k ∙ ap F e in
    elim (p a) as (λ b. cond b (a ∷ filter p (range_with_len (a + 1) (suc k))) (filter p (range_with_len (a + 1) (suc k))) ≡ cond b (a ∷ filter p (range_with_len (a + 1) k)) (filter p (range_with_len (a + 1) k)) ++ cond (p (a + suc k)) ((a + suc k) ∷ []) []) [
      | true ↦ ap (λ xs. a ∷ xs) rest
      | false ↦ rest
    ]

filter-range_more : (p : ℕ → Bool) (k : ℕ) → filter p (range_with_len 0 (k + 1)) ≡ filter p (range_with_len 0 k) ++ cond (p k) (k ∷ []) []
filter-range_more p k =
    let e : 0 + k ≡ k = omega arith in
    ap (λ j. filter p (range_with_len 0 j)) (add-one k) ∙ filter-range_suc p 0 k ∙ ap (λ j. filter p (range_with_len 0 k) ++ cond (p j) (j ∷ []) []) e

-- the step of the search: one cycle more, or none
pub cycles_more : (counts : ℕ → Bool) (next : ℕ → ℕ) (n k : ℕ) (found : List (List ℕ)) (round : List ℕ) → found ≡ cycles_below counts next n k → is_least counts next n k ≡ true → round ≡ cycle_of next n k → found ++ round ∷ [] ≡ cycles_below counts next n (k + 1)
cycles_more counts next n k found round e least r =
    let old : List ℕ = filter (is_least counts next n) (range_with_len 0 k) in
    let more : filter (is_least counts next n) (range_with_len 0 (k + 1)) ≡ old ++ k ∷ [] = filter-range_more (is_least counts next n) k ∙ ap (λ b. old ++ cond b (k ∷ []) []) least in
    ap (λ x. found ++ x ∷ []) r ∙ ap (λ xs. xs ++ cycle_of next n k ∷ []) e ∙ sym (map-append (cycle_of next n) old (k ∷ [])) ∙ ap (map (cycle_of next n)) (sym more)

pub cycles_skip : (counts : ℕ → Bool) (next : ℕ → ℕ) (n k : ℕ) (found : List (List ℕ)) → found ≡ cycles_below counts next n k → is_least counts next n k ≡ false → found ≡ cycles_below counts next n (k + 1)
cycles_skip counts next n k found e least =
    let old : List ℕ = filter (is_least counts next n) (range_with_len 0 k) in
    let more : filter (is_least counts next n) (range_with_len 0 (k + 1)) ≡ old = filter-range_more (is_least counts next n) k ∙ ap (λ b. old ++ cond b (k ∷ []) []) least ∙ append-nil old in
    e ∙ ap (map (cycle_of next n)) (sym more)
