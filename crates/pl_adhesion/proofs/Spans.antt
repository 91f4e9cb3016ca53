-- The least and the greatest of some numbers.
use Rattle.std.proofs.Common.{◌≡◌, ◌⊎◌, inl, inr, ℤ, ℕ, zero, suc, pos, ◌+ℤ◌, ◌≤ℤ◌, ◌+◌, ◌-◌, ◌<◌, ◌≤◌, Bool, true, false, cond, List, [], ◌∷◌, length, map, get_or, refl, sym, ◌∙◌, ap, subst, arith}
use Rattle.std.specs.Int.{int_min, int_max}
use Rattle.std.specs.List.{range_with_len, filter}
use Rattle.std.proofs.lemmas.Bool.{cases_eq, false_from_ne_true}
use Rattle.std.proofs.lemmas.Int.{ints, int_min_is, int_max_is}
use Rattle.pl_adhesion.specs.declared.reach.Span.{Span}
use Rattle.pl_adhesion.specs.Reach.{numbers_from, span_of}

-- the number is one of some, and none of them is less
pub record IsLeast (has : ℤ → Type 0) (z : ℤ) : Type 0 where
  pub met : has z
  pub all : (u : ℤ) → has u → z ≤ℤ u

-- the number is one of some, and none of them is greater
pub record IsGreatest (has : ℤ → Type 0) (z : ℤ) : Type 0 where
  pub met : has z
  pub all : (u : ℤ) → has u → u ≤ℤ z

pub record IsSpan (has : ℤ → Type 0) (s : Span) : Type 0 where
  pub least : IsLeast has s.least
  pub greatest : IsGreatest has s.greatest

same_le : (u z : ℤ) → u ≡ z → z ≤ℤ u
same_le u z e = omega (arith, ints)

pub span_one : (has : ℤ → Type 0) (z : ℤ) → has z → ((u : ℤ) → has u → u ≡ z) → IsSpan has (record { least = z; greatest = z })
span_one has z here only = record {
  least = record { met = here; all = λ u h. same_le u z (only u h) };
  greatest = record { met = here; all = λ u h. same_le z u (sym (only u h)) };
}

min_le_left : (z x u : ℤ) → z ≤ℤ u → int_min z x ≤ℤ u
min_le_left z x u h = omega (arith, ints, int_min_is z x)

min_le_right : (z x u : ℤ) → u ≡ x → int_min z x ≤ℤ u
min_le_right z x u h = omega (arith, ints, int_min_is z x)

max_ge_left : (z x u : ℤ) → u ≤ℤ z → u ≤ℤ int_max z x
max_ge_left z x u h = omega (arith, ints, int_max_is z x)

max_ge_right : (z x u : ℤ) → u ≡ x → u ≤ℤ int_max z x
max_ge_right z x u h = omega (arith, ints, int_max_is z x)

one_of : (has : ℤ → Type 0) (b : Bool) (x y : ℤ) → has x → has y → has (cond b x y)
one_of has true x y hx hy = hx
one_of has false x y hx hy = hy

pub span_more : (old new : ℤ → Type 0) (s : Span) (x : ℤ) → IsSpan old s → new x → ((u : ℤ) → old u → new u) → ((u : ℤ) → new u → old u ⊎ (u ≡ x)) → IsSpan new (record { least = int_min s.least x; greatest = int_max s.greatest x })
span_more old new s x w here keeps only = record {
  least = record {
    met = one_of new _ x s.least here (keeps s.least w.least.met);
    all = λ u h. elim (only u h) [ inl before ↦ min_le_left s.least x u (w.least.all u before) | inr same ↦ min_le_right s.least x u same ];
  };
  greatest = record {
    met = one_of new _ s.greatest x (keeps s.greatest w.greatest.met) here;
    all = λ u h. elim (only u h) [ inl before ↦ max_ge_left s.greatest x u (w.greatest.all u before) | inr same ↦ max_ge_right s.greatest x u same ];
  };
}

-- numbers that are the same ones have the same span
pub span_same : (old new : ℤ → Type 0) (s : Span) → ((z : ℤ) → old z → new z) → ((z : ℤ) → new z → old z) → IsSpan old s → IsSpan new s
span_same old new s to from w = record {
  least = record { met = to s.least w.least.met; all = λ u h. w.least.all u (from u h) };
  greatest = record { met = to s.greatest w.greatest.met; all = λ u h. w.greatest.all u (from u h) };
}

-- ---- the first and the last of the numbers that pass a test

abbrev up_from : ℤ → ℕ → ℕ → List ℤ
up_from low a n = map (λ i. low +ℤ pos i) (range_with_len a n)

first_passes : (t : ℤ → Bool) (low : ℤ) (a n m : ℕ) (d : ℤ) → a ≤ m → m < a + n → t (low +ℤ pos m) ≡ true → ((i : ℕ) → i < m → t (low +ℤ pos i) ≡ false) → get_or (filter t (up_from low a n)) 0 d ≡ low +ℤ pos m
first_passes t low a zero m d from to here before = absurd (omega arith)
first_passes t low a (suc n) m d from to here before =
    let rest : List ℤ = filter t (up_from low (a + 1) n) in
    elim (cases_eq a m) [
      | inl e ↦ ap (λ b. get_or (cond b ((low +ℤ pos a) ∷ rest) rest) 0 d) (ap (λ i. t (low +ℤ pos i)) e ∙ here) ∙ ap (λ i. low +ℤ pos i) e
      | inr ne ↦ ap (λ b. get_or (cond b ((low +ℤ pos a) ∷ rest) rest) 0 d) (before a (omega (arith, ne))) ∙ first_passes t low (a + 1) n m d (omega (arith, ne)) (omega arith) here before
    ]

none_passes : (t : ℤ → Bool) (low : ℤ) (a n : ℕ) → ((i : ℕ) → a ≤ i → t (low +ℤ pos i) ≡ false) → filter t (up_from low a n) ≡ []
none_passes t low a zero h = refl
none_passes t low a (suc n) h =
    let rest : List ℤ = filter t (up_from low (a + 1) n) in
    ap (λ b. cond b ((low +ℤ pos a) ∷ rest) rest) (h a (omega arith)) ∙ none_passes t low (a + 1) n (λ i from. h i (omega arith))

-- the number ends the list
record IsLast (xs : List ℤ) (z : ℤ) : Type 0 where
  pub some : 0 < length xs
  pub last : (d : ℤ) → get_or xs (length xs - 1) d ≡ z

last_one : (z : ℤ) → IsLast (z ∷ []) z
last_one z = record { some = omega arith; last = λ d. refl }

last_kept : (b : Bool) (x z : ℤ) (xs : List ℤ) → IsLast xs z → IsLast (cond b (x ∷ xs) xs) z
last_kept true x z xs h = record {
  some = omega arith;
  last = λ d. let e : length (x ∷ xs) - 1 ≡ suc (length xs - 1) = omega (arith, h.some) in ap (λ i. get_or (x ∷ xs) i d) e ∙ h.last d;
}
last_kept false x z xs h = h

last_passes : (t : ℤ → Bool) (low : ℤ) (a n m : ℕ) → a ≤ m → m < a + n → t (low +ℤ pos m) ≡ true → ((i : ℕ) → m < i → t (low +ℤ pos i) ≡ false) → IsLast (filter t (up_from low a n)) (low +ℤ pos m)
last_passes t low a zero m from to here after = absurd (omega arith)
last_passes t low a (suc n) m from to here after =
    let rest : List ℤ = filter t (up_from low (a + 1) n) in
    let P : List ℤ → Type 0 = λ xs. IsLast xs (low +ℤ pos m) in
    elim (cases_eq a m) [
      | inl e ↦
          let none : rest ≡ [] = none_passes t low (a + 1) n (λ i past. after i (omega (arith, e))) in
          let all : filter t (up_from low a (suc n)) ≡ (low +ℤ pos m) ∷ [] = ap (λ b. cond b ((low +ℤ pos a) ∷ rest) rest) (ap (λ i. t (low +ℤ pos i)) e ∙ here) ∙ ap (λ xs. (low +ℤ pos a) ∷ xs) none ∙ ap (λ i. (low +ℤ pos i) ∷ []) e in
          subst P (sym all) (last_one (low +ℤ pos m))
      | inr ne ↦ last_kept (t (low +ℤ pos a)) (low +ℤ pos a) (low +ℤ pos m) rest (last_passes t low (a + 1) n m (omega (arith, ne)) (omega arith) here after)
    ]

not_below : (low z : ℤ) (i m : ℕ) → z ≡ low +ℤ pos m → z ≤ℤ (low +ℤ pos i) → i < m → ⊥
not_below low z i m e h less = omega (arith, ints)

not_above : (low z : ℤ) (i m : ℕ) → z ≡ low +ℤ pos m → (low +ℤ pos i) ≤ℤ z → m < i → ⊥
not_above low z i m e h less = omega (arith, ints)

-- the span of the numbers that pass a test is that of their list
pub span_is : (t : ℤ → Bool) (low : ℤ) (n a b : ℕ) (s : Span) → IsSpan (λ z. t z ≡ true) s → s.least ≡ low +ℤ pos a → a < n → s.greatest ≡ low +ℤ pos b → b < n → s ≡ span_of (filter t (numbers_from low n))
span_is t low n a b s w ea ha eb hb =
    let xs : List ℤ = filter t (numbers_from low n) in
    let first : get_or xs 0 (pos 0) ≡ s.least =
    first_passes t low 0 n a (pos 0) (omega arith) (omega arith) (ap t (sym ea) ∙ w.least.met) (λ i less. false_from_ne_true _ (λ h. not_below low s.least i a ea (w.least.all (low +ℤ pos i) h) less))
    ∙ sym ea in
    let last : IsLast xs (low +ℤ pos b) =
    last_passes t low 0 n b (omega arith) (omega arith) (ap t (sym eb) ∙ w.greatest.met) (λ i past. false_from_ne_true _ (λ h. not_above low s.greatest i b eb (w.greatest.all (low +ℤ pos i) h) past)) in
    ap (λ z. record { least = z; greatest = s.greatest }) (sym first)
    ∙ ap (λ z. record { least = get_or xs 0 (pos 0); greatest = z }) (eb ∙ sym (last.last (pos 0)))
