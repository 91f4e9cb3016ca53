-- The runs of runners with different actors are the starts of a history that has no other actor's entries.
use Rattle.std.proofs.Common.{◌≡◌, ◌≢◌, ℕ, zero, suc, ◌+◌, ◌==◌, eqb, inl, inr, Bool, true, false, cond, List, [], ◌∷◌, get_or, refl, ap, sym, subst, ◌∙◌, arith}
use Rattle.std.specs.List.{All, AllPairs, Any, sum_by, filter}
use Rattle.std.proofs.lemmas.List.Sums.{sum_by-cons}
use Rattle.std.proofs.lemmas.List.Elements.{All-head, All-tail}
use Rattle.std.proofs.lemmas.Bool.Decides.{eqb_tells}
use Rattle.pl_machine.specs.declared.entry.Entry.{Entry}
use Rattle.pl_session.specs.Complete.{is_start, runs_of}
use Rattle.pl_order.specs.Order.{number_in}

module _ {A : Type 0} where
  sum_zero : (f : A → ℕ) (xs : List A) → All (λ x. f x ≡ 0) xs → sum_by f xs ≡ 0
  sum_zero f [] all = refl
  sum_zero f (x ∷ xs) all =
      let first = sum_by-cons f x xs in
      let rest = sum_zero f xs (All-tail (λ y. f y ≡ 0) x xs all) in
      let here : f x ≡ 0 = All-head (λ y. f y ≡ 0) x xs all in
      omega (arith, first, rest, here)

  pub sum_same : (f g : A → ℕ) (xs : List A) → All (λ x. f x ≡ g x) xs → sum_by f xs ≡ sum_by g xs
  sum_same f g [] all = refl
  sum_same f g (x ∷ xs) all =
      let one = sum_by-cons f x xs in
      let other = sum_by-cons g x xs in
      let rest = sum_same f g xs (All-tail (λ y. f y ≡ g y) x xs all) in
      let here : f x ≡ g x = All-head (λ y. f y ≡ g y) x xs all in
      omega (arith, one, other, rest, here)

  sum_plus : (f g : A → ℕ) (xs : List A) → sum_by (λ x. f x + g x) xs ≡ sum_by f xs + sum_by g xs
  sum_plus f g [] = refl
  sum_plus f g (x ∷ xs) =
      let both = sum_by-cons (λ y. f y + g y) x xs in
      let one = sum_by-cons f x xs in
      let other = sum_by-cons g x xs in
      let rest = sum_plus f g xs in
      omega (arith, both, one, other, rest)

  pairs_head : (R : A → A → Type 0) (x : A) (xs : List A) → AllPairs R (x ∷ xs) → All (R x) xs
  pairs_head R x xs pairs k d low = pairs 0 (suc k) d (omega arith) (omega (arith, low))

  pairs_tail : (R : A → A → Type 0) (x : A) (xs : List A) → AllPairs R (x ∷ xs) → AllPairs R xs
  pairs_tail R x xs pairs i j d below low = pairs (suc i) (suc j) d (omega (arith, below)) (omega (arith, low))

  any_none : (F : A → Type 0) → Any F [] → ⊥
  any_none F any = let low = any.2 in omega (arith, low)

  any_tail : (F : A → Type 0) (x : A) (xs : List A) → (F x → ⊥) → Any F (x ∷ xs) → Any F xs
  any_tail F x xs not (zero, y, low, is, holds) = absurd (not (subst F (sym is) holds))
  any_tail F x xs not (suc k, y, low, is, holds) = (k, y, omega (arith, low), is, holds)

  module _ (number : A → ℕ) where
    -- of elements with different numbers one has the number n
    one_has : (n v : ℕ) (xs : List A) → AllPairs (λ x y. number x ≢ number y) xs → Any (λ x. number x ≡ n) xs → sum_by (λ x. cond (eqb n (number x)) v 0) xs ≡ v
    one_has n v [] pairs any = absurd (any_none (λ x. number x ≡ n) any)
    one_has n v (x ∷ xs) pairs any = sum_by-cons (λ y. cond (eqb n (number y)) v 0) x xs ∙ elim (eqb_tells n (number x)) [
      | inl same ↦
          let here : cond (eqb n (number x)) v 0 ≡ v = ap (λ b. cond b v 0) same.0 in
          let rest = sum_zero (λ y. cond (eqb n (number y)) v 0) xs (λ k d low. elim (eqb_tells n (number (get_or xs k d))) [
            | inl again ↦ absurd (pairs_head (λ y z. number y ≢ number z) x xs pairs k d low (sym same.1 ∙ again.1))
            | inr other ↦ ap (λ b. cond b v 0) other.0
          ]) in
          omega (arith, here, rest)
      | inr other ↦
          let here : cond (eqb n (number x)) v 0 ≡ 0 = ap (λ b. cond b v 0) other.0 in
          let rest = one_has n v xs (pairs_tail (λ y z. number y ≢ number z) x xs pairs) (any_tail (λ y. number y ≡ n) x xs (λ same. other.1 (sym same)) any) in
          omega (arith, here, rest)
    ]

    module _ {T P E R O J B : Type 0} where
      -- the entries of a number
      abbrev entries_at : ℕ → List (Entry T P E R O J B) → List (Entry T P E R O J B)
      entries_at n history = filter (λ e. number_in e == n) history

      one_more : (e : Entry T P E R O J B) (es : List (Entry T P E R O J B)) → runs_of (e ∷ es) ≡ cond (is_start e.what) 1 0 + runs_of es
      one_more e es = sum_by-cons (λ x. cond (is_start x.what) 1 0) e es

      runs_at : (n : ℕ) (e : Entry T P E R O J B) (es : List (Entry T P E R O J B))
          → runs_of (entries_at n (e ∷ es)) ≡ cond (eqb (number_in e) n) (cond (is_start e.what) 1 0) 0 + runs_of (entries_at n es)
      runs_at n e es = either (eqb (number_in e) n)
        where
          either : (b : Bool) → runs_of (cond b (e ∷ entries_at n es) (entries_at n es)) ≡ cond b (cond (is_start e.what) 1 0) 0 + runs_of (entries_at n es)
          either true = one_more e (entries_at n es)
          either false = omega arith

      pub runs_are : (xs : List A) (history : List (Entry T P E R O J B)) → AllPairs (λ x y. number x ≢ number y) xs
          → All (λ e. Any (λ x. number x ≡ number_in e) xs) history → sum_by (λ x. runs_of (entries_at (number x) history)) xs ≡ runs_of history
      runs_are xs [] pairs made = sum_zero (λ x. runs_of (entries_at (number x) [])) xs (λ k d low. refl)
      runs_are xs (e ∷ es) pairs made =
          let v = cond (is_start e.what) 1 0 in
          let parts = sum_same (λ x. runs_of (entries_at (number x) (e ∷ es))) (λ x. cond (eqb (number_in e) (number x)) v 0 + runs_of (entries_at (number x) es)) xs
          (λ k d low. runs_at (number (get_or xs k d)) e es) in
          let both = sum_plus (λ x. cond (eqb (number_in e) (number x)) v 0) (λ x. runs_of (entries_at (number x) es)) xs in
          let one = one_has (number_in e) v xs pairs (All-head (λ y. Any (λ x. number x ≡ number_in y) xs) e es made) in
          let rest = runs_are xs es pairs (All-tail (λ y. Any (λ x. number x ≡ number_in y) xs) e es made) in
          let more = one_more e es in
          omega (arith, parts, both, one, rest, more)
