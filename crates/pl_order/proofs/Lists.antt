-- Where an entry stands in a list of two parts, and what follows of each element.
use Rattle.std.proofs.Common.{◌≡◌, ℕ, ◌⊎◌, inl, inr, eqb, true, List, [], ◌∷◌, ◌++◌, length, get_or, refl, ap, sym, subst, ◌∙◌, arith, length-append}
use Rattle.std.specs.List.{All}
use Rattle.std.proofs.Math.Seq.{get_or-append_seam}
use Rattle.std.proofs.lemmas.Bool.Decides.{eqb_tells}

pub same_number : (n : ℕ) → eqb n n ≡ true
same_number n = elim (eqb_tells n n) [
  | inl same ↦ same.0
  | inr other ↦ absurd (other.1 refl)
]

module _ {A : Type 0} where
  pub not_empty : (before : List A) (x : A) (after : List A) → [] ≡ before ++ x ∷ after → ⊥
  not_empty [] x after e = cc
  not_empty (b ∷ before) x after e = cc

  -- an element of a list of two parts stands in the first or in the second
  pub split_cases : (xs ys before : List A) (x : A) (after : List A) → xs ++ ys ≡ before ++ x ∷ after
      → ((rest : List A) × (xs ≡ before ++ x ∷ rest) × (after ≡ rest ++ ys)) ⊎ ((front : List A) × (before ≡ xs ++ front) × (ys ≡ front ++ x ∷ after))
  split_cases [] ys before x after is = inr (before, refl, is)
  split_cases (y ∷ xs) ys [] x after is =
      let head : y ≡ x = cc in
      let tail : xs ++ ys ≡ after = cc in
      inl (xs, ap (λ z. z ∷ xs) head, sym tail)
  split_cases (y ∷ xs) ys (b ∷ before) x after is =
      let head : y ≡ b = cc in
      let tail : xs ++ ys ≡ before ++ x ∷ after = cc in
      elim (split_cases xs ys before x after tail) [
        | inl first ↦ inl (first.0, (let f : xs ≡ before ++ x ∷ first.0 = first.1 in cc), first.2)
        | inr second ↦ inr (second.0, (let f : before ≡ xs ++ second.0 = second.1 in cc), second.2)
      ]

  -- a list of one element has that element alone
  pub split_one : (y : A) (before : List A) (x : A) (after : List A) → y ∷ [] ≡ before ++ x ∷ after → (before ≡ []) × (y ≡ x) × (after ≡ [])
  split_one y [] x after is = (refl, (let f : y ≡ x = cc in f), (let f : after ≡ [] = cc in f))
  split_one y (b ∷ before) x after is = absurd (not_empty before x after (let f : [] ≡ before ++ x ∷ after = cc in f))

  pub no_more : (xs ys : List A) → xs ++ ys ≡ xs → ys ≡ []
  no_more [] ys h = h
  no_more (x ∷ xs) ys h = no_more xs ys (let f : xs ++ ys ≡ xs = cc in f)

  -- what is true of each element, at one that stands in the list
  pub at_split : (F : A → Type 0) (xs before : List A) (x : A) (after : List A) → xs ≡ before ++ x ∷ after → All F xs → F x
  at_split F xs before x after is all =
      let long = length-append before (x ∷ after) in
      subst F (ap (λ l. get_or l (length before) x) is ∙ get_or-append_seam before x after x)
      (all (length before) x (let same = ap length is in grind (arith, long, same)))
