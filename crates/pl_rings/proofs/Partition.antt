-- Each number that counts stands once in the cycles.
use Rattle.std.proofs.Common.{◌≡◌, ◌≢◌, inl, inr, ℕ, zero, suc, ◌<◌, ◌≤◌, ◌+◌, ◌-◌, ◌==◌, Bool, true, false, cond, nat_le, List, [], ◌∷◌, ◌++◌, map, length, set, refl, sym, ◌∙◌, ap, subst, arith, replicate, length-append}
use Rattle.std.specs.List.{range_with_len, list_all, filter, flat_map, sum_by, count_by}
use Rattle.std.proofs.lemmas.List.{length-replicate}
use Rattle.std.proofs.lemmas.List.Sums.{sum_by-cons, sum_by-append}
use Rattle.std.proofs.lemmas.Bool.{cases_lt, cases_eq, both_ways, cases_Bool, le-leb, lt-leb, eq-eqb, ne_eqb, and_from, and_parts}
use Rattle.pl_rings.specs.Cycles.{Permutes, steps, cycle_of, cycles_of, is_least, IsPeriod, is_marked}
use Rattle.pl_rings.proofs.Iterates.{steps_count, steps-add}
use Rattle.pl_rings.proofs.Tracing.{IsClosed, OnTheWay, way_none, way_more, way_all, apart_by_turn}
use Rattle.pl_rings.proofs.Finding.{none_closed, no_mark, cycle_is, all_steps, not_all_steps, period_on}

-- ---- each number that counts comes again

abbrev pub Returns : (ℕ → ℕ) → ℕ → ℕ → Type 0
Returns next n k = (m : ℕ) × (m ≤ n) × IsPeriod next k m

goes_on : (counts : ℕ → Bool) (next : ℕ → ℕ) (start : ℕ) (old : List Bool) → Permutes counts next (length old) → counts start ≡ true → is_marked old start ≡ false → IsClosed counts next old → (most at : ℕ) (new : List Bool) (way : List ℕ) → counts at ≡ true → OnTheWay next start old new way at → length old ≤ length way + most → Returns next (length old) start
goes_on counts next start old perm c fresh closed zero at new way h w room =
    elim (cases_Bool (is_marked new at)) [
      | inl met ↦ let r = way_all counts next start at old new way perm c fresh closed w met in (length way, r.few, r.period)
      | inr free ↦
          let more = way_more next start at old new way w (omega (arith, perm.below at h, w.marks.size)) free in
          absurd (omega (arith, more.room, length-append way (at ∷ []), room))
    ]
goes_on counts next start old perm c fresh closed (suc most) at new way h w room =
    elim (cases_Bool (is_marked new at)) [
      | inl met ↦ let r = way_all counts next start at old new way perm c fresh closed w met in (length way, r.few, r.period)
      | inr free ↦
          let more = way_more next start at old new way w (omega (arith, perm.below at h, w.marks.size)) free in
          goes_on counts next start old perm c fresh closed most (next at) (set new at true) (way ++ at ∷ []) (perm.stays at h) more (omega (arith, length-append way (at ∷ []), room))
    ]

pub returns_to : (counts : ℕ → Bool) (next : ℕ → ℕ) (n k : ℕ) → Permutes counts next n → counts k ≡ true → Returns next n k
returns_to counts next n k perm c =
    let old : List Bool = replicate n false in
    let size : length old ≡ n = length-replicate n false in
    let P : ℕ → Type 0 = λ m. Permutes counts next m in
    let Q : ℕ → Type 0 = λ m. Returns next m k in
    subst Q size (goes_on counts next k old (subst P (sym size) perm) c (no_mark n k) (none_closed counts next n) n k old [] c (way_none next k old) (omega (arith, size)))

-- ---- the least of a cycle

-- what holds on one round holds always
always_above : (next : ℕ → ℕ) (k m low : ℕ) → IsPeriod next k m → ((i : ℕ) → i < m → low ≤ steps next i k) → (most j : ℕ) → j ≤ most → low ≤ steps next j k
always_above next k m low p h zero j small = h j (omega (arith, p.some))
always_above next k m low p h (suc most) j small =
    elim (cases_lt j m) [
      | inl less ↦ h j less
      | inr past ↦
          let sum : j - m + m ≡ j = omega arith in
          let same : steps next j k ≡ steps next (j - m) k = ap (λ i. steps next i k) (sym sum) ∙ steps-add next m (j - m) k ∙ ap (steps next (j - m)) p.back in
          omega (arith, same, always_above next k m low p h most (j - m) (omega (arith, p.some)))
    ]

-- a step below the bound at which the least number stands
least_step : (f : ℕ → ℕ) (m r : ℕ) → 0 < m → r ≤ m → (t : ℕ) × (t < m) × ((i : ℕ) → i < r → f t ≤ f i)
least_step f m zero some small = (0, some, λ i less. absurd (omega arith))
least_step f m (suc r) some small =
    let w : (t : ℕ) × (t < m) × ((i : ℕ) → i < r → f t ≤ f i) = least_step f m r some (omega arith) in
    elim (cases_lt (f r) (f w.0)) [
      | inl less ↦ (
        r,
        omega arith,
        λ i below. elim (cases_lt i r) [
          | inl before ↦ omega (arith, less, w.2 i before)
          | inr past ↦ let e : i ≡ r = omega arith in let same : f i ≡ f r = ap f e in omega (arith, same)
        ],
      )
      | inr past ↦ (
        w.0,
        w.1,
        λ i below. elim (cases_lt i r) [
          | inl before ↦ w.2 i before
          | inr last ↦ let e : i ≡ r = omega arith in let same : f i ≡ f r = ap f e in omega (arith, past, same)
        ],
      )
    ]

-- the least is below each step, and the other way round
pub least_below : (counts : ℕ → Bool) (next : ℕ → ℕ) (n i m : ℕ) → m ≤ n → IsPeriod next i m → is_least counts next n i ≡ true → (j : ℕ) → i ≤ steps next j i
least_below counts next n i m few p least j =
    let each : (t : ℕ) → t < m → i ≤ steps next t i = λ t less.
    elim (cases_lt (steps next t i) i) [
      | inl under ↦ absurd (both_ways _ (ap (list_all (nat_le i)) (cycle_is next n i m few p) ∙ not_all_steps next i (nat_le i) 0 m t (omega arith) (omega arith) (lt-leb i (steps next t i) under)) (and_parts _ _ least).1)
      | inr over ↦ over
    ] in
    always_above next i m i p each j j (omega arith)

pub is_least_if : (counts : ℕ → Bool) (next : ℕ → ℕ) (n l m : ℕ) → counts l ≡ true → m ≤ n → IsPeriod next l m → ((j : ℕ) → l ≤ steps next j l) → is_least counts next n l ≡ true
is_least_if counts next n l m c few p h =
    and_from _ _ c (ap (list_all (nat_le l)) (cycle_is next n l m few p) ∙ all_steps next l (nat_le l) 0 m (λ i less. le-leb l (steps next i l) (h i)))

-- ---- sums with one term

sum_none : (g : ℕ → ℕ) (a m : ℕ) → ((i : ℕ) → a ≤ i → i < a + m → g i ≡ 0) → sum_by g (range_with_len a m) ≡ 0
sum_none g a zero h = refl
sum_none g a (suc m) h = omega (arith, sum_by-cons g a (range_with_len (a + 1) m), h a (omega arith) (omega arith), sum_none g (a + 1) m (λ i low high. h i (omega arith) (omega arith)))

sum_one : (g : ℕ → ℕ) (a m l : ℕ) → a ≤ l → l < a + m → g l ≡ 1 → ((i : ℕ) → a ≤ i → i < a + m → i ≢ l → g i ≡ 0) → sum_by g (range_with_len a m) ≡ 1
sum_one g a zero l low high one h = absurd (omega arith)
sum_one g a (suc m) l low high one h =
    elim (cases_eq a l) [
      | inl e ↦
          let here : g a ≡ 1 = ap g e ∙ one in
          omega (arith, sum_by-cons g a (range_with_len (a + 1) m), here, sum_none g (a + 1) m (λ i from to. h i (omega arith) (omega arith) (λ same. absurd (omega (arith, e, same)))))
      | inr ne ↦
          omega (arith, sum_by-cons g a (range_with_len (a + 1) m), h a (omega arith) (omega arith) ne, sum_one g (a + 1) m l (omega (arith, ne)) (omega arith) one (λ i from to other. h i (omega arith) (omega arith) other))
    ]

sum_by-map : (g f : ℕ → ℕ) (xs : List ℕ) → sum_by g (map f xs) ≡ sum_by (λ x. g (f x)) xs
sum_by-map g f [] = refl
sum_by-map g f (x ∷ xs) = omega (arith, sum_by-cons g (f x) (map f xs), sum_by-cons (λ y. g (f y)) x xs, sum_by-map g f xs)

sum_kept : (g : ℕ → ℕ) (x : ℕ) (xs : List ℕ) (b : Bool) → sum_by g (cond b (x ∷ xs) xs) ≡ cond b (g x) 0 + sum_by g xs
sum_kept g x xs true = sum_by-cons g x xs
sum_kept g x xs false = omega arith

sum_by-filter : (g : ℕ → ℕ) (p : ℕ → Bool) (xs : List ℕ) → sum_by g (filter p xs) ≡ sum_by (λ x. cond (p x) (g x) 0) xs
sum_by-filter g p [] = refl
sum_by-filter g p (x ∷ xs) =
    sum_kept g x (filter p xs) (p x)
    ∙ ap (λ n. cond (p x) (g x) 0 + n) (sum_by-filter g p xs)
    ∙ sym (sum_by-cons (λ y. cond (p y) (g y) 0) x xs)

sum_by-flat : (g : ℕ → ℕ) (f : ℕ → List ℕ) (xs : List ℕ) → sum_by g (flat_map (λ ks. ks) (map f xs)) ≡ sum_by (λ x. sum_by g (f x)) xs
sum_by-flat g f [] = refl
sum_by-flat g f (x ∷ xs) = omega (arith, sum_by-append g (f x) (flat_map (λ ks. ks) (map f xs)), sum_by-cons (λ y. sum_by g (f y)) x xs, sum_by-flat g f xs)

-- ---- how often a number stands in a cycle

abbrev is_that : ℕ → ℕ → ℕ
is_that k j = cond (j == k) 1 0

that : (k j : ℕ) → j ≡ k → is_that k j ≡ 1
that k j e = ap (λ b. cond b 1 0) (eq-eqb j k e)

not_that : (k j : ℕ) → j ≢ k → is_that k j ≡ 0
not_that k j ne = ap (λ b. cond b 1 0) (ne_eqb j k ne)

count_is : (next : ℕ → ℕ) (n i m k : ℕ) → m ≤ n → IsPeriod next i m → count_by (λ j. j == k) (cycle_of next n i) ≡ sum_by (λ t. is_that k (steps next t i)) (range_with_len 0 m)
count_is next n i m k few p = ap (count_by (λ j. j == k)) (cycle_is next n i m few p) ∙ sum_by-map (is_that k) (λ t. steps next t i) (range_with_len 0 m)

two_steps : (counts : ℕ → Bool) (next : ℕ → ℕ) (n l m : ℕ) → Permutes counts next n → counts l ≡ true → IsPeriod next l m → (i s : ℕ) → i < m → s < m → steps next i l ≡ steps next s l → i ≡ s
two_steps counts next n l m perm c p i s hi hs e =
    elim (cases_lt i s) [
      | inl less ↦ absurd (p.first (s - i) (omega arith) (omega arith) (apart_by_turn counts next n l perm c i s (omega arith) (sym e)))
      | inr past ↦
          elim (cases_eq i s) [
            | inl same ↦ same
            | inr other ↦ absurd (p.first (i - s) (omega arith) (omega arith) (apart_by_turn counts next n l perm c s i (omega arith) e))
          ]
    ]

stands_once : (counts : ℕ → Bool) (next : ℕ → ℕ) (n l m s k : ℕ) → Permutes counts next n → counts l ≡ true → m ≤ n → IsPeriod next l m → s < m → steps next s l ≡ k → count_by (λ j. j == k) (cycle_of next n l) ≡ 1
stands_once counts next n l m s k perm c few p less e =
    count_is next n l m k few p
    ∙ sum_one (λ t. is_that k (steps next t l)) 0 m s (omega arith) (omega arith) (that k (steps next s l) e)
    (λ i from to other. not_that k (steps next i l) (λ same. other (two_steps counts next n l m perm c p i s (omega arith) less (same ∙ sym e))))

stands_nowhere : (next : ℕ → ℕ) (n i m k : ℕ) → m ≤ n → IsPeriod next i m → ((t : ℕ) → t < m → steps next t i ≢ k) → count_by (λ j. j == k) (cycle_of next n i) ≡ 0
stands_nowhere next n i m k few p h =
    count_is next n i m k few p
    ∙ sum_none (λ t. is_that k (steps next t i)) 0 m (λ t from to. not_that k (steps next t i) (h t (omega arith)))

-- ---- the least number of the cycle that has k
pub record LeastOn (counts : ℕ → Bool) (next : ℕ → ℕ) (n k l : ℕ) : Type 0 where
  pub counts_too : counts l ≡ true
  pub period : ℕ
  pub few : period ≤ n
  pub round : IsPeriod next l period
  pub step : ℕ
  pub within : step < period
  pub there : steps next step l ≡ k
  pub below : (j : ℕ) → l ≤ steps next j k
  pub least : is_least counts next n l ≡ true

pub way_back : (next : ℕ → ℕ) (k m t : ℕ) → IsPeriod next k m → t < m → (s : ℕ) × (s < m) × (steps next s (steps next t k) ≡ k)
way_back next k m t p less =
    elim (cases_eq t 0) [
      | inl e ↦ (0, p.some, ap (λ i. steps next i k) e)
      | inr later ↦
          let sum : m - t + t ≡ m = omega arith in
          (m - t, omega arith, sym (steps-add next t (m - t) k) ∙ ap (λ i. steps next i k) sum ∙ p.back)
    ]

pub least_on : (counts : ℕ → Bool) (next : ℕ → ℕ) (n k : ℕ) → Permutes counts next n → counts k ≡ true → (l : ℕ) × LeastOn counts next n k l
least_on counts next n k perm c =
    let r : Returns next n k = returns_to counts next n k perm c in
    let m : ℕ = r.0 in
    let p : IsPeriod next k m = r.2 in
    let w : (t : ℕ) × (t < m) × ((i : ℕ) → i < m → steps next t k ≤ steps next i k) = least_step (λ i. steps next i k) m m p.some (omega arith) in
    let t : ℕ = w.0 in
    let l : ℕ = steps next t k in
    let cl : counts l ≡ true = steps_count counts next n perm k c t in
    let q : IsPeriod next l m = period_on counts next n k m t perm c p in
    let below : (j : ℕ) → l ≤ steps next j k = λ j. always_above next k m l p w.2 j j (omega arith) in
    let back : (s : ℕ) × (s < m) × (steps next s l ≡ k) = way_back next k m t p w.1 in (
      l,
      record {
        counts_too = cl;
        period = m;
        few = r.1;
        round = q;
        step = back.0;
        within = back.1;
        there = back.2;
        below = below;
        least = is_least_if counts next n l m cl r.1 q (λ j. let same : steps next j l ≡ steps next (j + t) k = sym (steps-add next t j k) in omega (arith, same, below (j + t)));
      },
    )

-- another least number is on another cycle
not_on : (counts : ℕ → Bool) (next : ℕ → ℕ) (n k l i : ℕ) → Permutes counts next n → LeastOn counts next n k l → is_least counts next n i ≡ true → i ≢ l → count_by (λ j. j == k) (cycle_of next n i) ≡ 0
not_on counts next n k l i perm lo least other =
    let r : Returns next n i = returns_to counts next n i perm (and_parts _ _ least).0 in
    stands_nowhere next n i r.0 k r.1 r.2 (λ t less e.
    let back : (s : ℕ) × (s < r.0) × (steps next s (steps next t i) ≡ i) = way_back next i r.0 t r.2 less in
    let up : l ≤ i = let same : steps next back.0 k ≡ i = ap (steps next back.0) (sym e) ∙ back.2 in omega (arith, same, lo.below back.0) in
    let home : (s : ℕ) × (s < lo.period) × (steps next s (steps next lo.step l) ≡ l) = way_back next l lo.period lo.step lo.round lo.within in
    let down : i ≤ l =
    let same : steps next (home.0 + t) i ≡ l = steps-add next t home.0 i ∙ ap (steps next home.0) (e ∙ sym lo.there) ∙ home.2 in
    omega (arith, same, least_below counts next n i r.0 r.1 r.2 least (home.0 + t)) in
    other (omega (arith, up, down)))

-- each number that counts stands once in the cycles
pub once_in_cycles : (counts : ℕ → Bool) (next : ℕ → ℕ) (n k : ℕ) → Permutes counts next n → counts k ≡ true → count_by (λ j. j == k) (flat_map (λ ks. ks) (cycles_of counts next n)) ≡ 1
once_in_cycles counts next n k perm c =
    let w : (l : ℕ) × LeastOn counts next n k l = least_on counts next n k perm c in
    let l : ℕ = w.0 in
    let lo : LeastOn counts next n k l = w.1 in
    let often : ℕ → ℕ = λ i. count_by (λ j. j == k) (cycle_of next n i) in
    sum_by-flat (is_that k) (cycle_of next n) (filter (is_least counts next n) (range_with_len 0 n))
    ∙ sum_by-filter often (is_least counts next n) (range_with_len 0 n)
    ∙ sum_one (λ i. cond (is_least counts next n i) (often i) 0) 0 n l (omega arith) (omega (arith, perm.below l lo.counts_too))
    (ap (λ b. cond b (often l) 0) lo.least ∙ stands_once counts next n l lo.period lo.step k perm lo.counts_too lo.few lo.round lo.within lo.there)
    (λ i from to other.
    elim (cases_Bool (is_least counts next n i)) [
      | inl e ↦ ap (λ b. cond b (often i) 0) e ∙ not_on counts next n k l i perm lo e other
      | inr e ↦ ap (λ b. cond b (often i) 0) e
    ])
