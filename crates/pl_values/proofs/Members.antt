-- Which items lists have.
use Rattle.std.proofs.Common.{Bool, true, false, cond, filter, ◌+◌, ◌≡◌, ℕ, zero, suc, ◌<◌, List, [], ◌∷◌, length, map, Option, Some, None, ⊎_elim, inl, inr, refl, sym, ap, subst, ◌∙◌, arith}
use Rattle.std.specs.Prelude.{◌⊎◌, Contains, slice_index_or, slice_get}
use Rattle.std.specs.List.{range_with_len, flat_map, filter_map}
use Rattle.std.proofs.lemmas.List.Elements.{Contains-append_left, Contains-append_right, Contains-append_cases}
use Rattle.std.proofs.lemmas.Option.{none-some, same_Some}
use Rattle.std.proofs.lemmas.List.FromFn.{length-range_with_len, get_or-range_with_len, length-map-range_with_len, get_or-map-range_with_len}

module _ {X : Type 0} where
  pub here : (x : X) (xs : List X) → Contains (x ∷ xs) x
  here x xs = (0, omega arith, refl)

  pub there : (x : X) (xs : List X) (y : X) → Contains xs y → Contains (x ∷ xs) y
  there x xs y c = (suc c.0, omega (arith, c.1), c.2)

  cases_at : (x : X) (xs : List X) (y : X) (k : ℕ) → k < length (x ∷ xs) → slice_index_or (x ∷ xs) k y ≡ y → (y ≡ x) ⊎ Contains xs y
  cases_at x xs y zero l e = inl (sym e)
  cases_at x xs y (suc k) l e = inr (k, omega (arith, l), e)

  pub here_or_there : (x : X) (xs : List X) (y : X) → Contains (x ∷ xs) y → (y ≡ x) ⊎ Contains xs y
  here_or_there x xs y c = cases_at x xs y c.0 c.1 c.2

  pub none_there : (y : X) → Contains [] y → ⊥
  none_there y c = absurd (omega (arith, c.1))

module _ {X Y : Type 0} (f : X → List Y) where
  pub Contains-flat_map : (xs : List X) (x : X) (y : Y) → Contains xs x → Contains (f x) y → Contains (flat_map f xs) y
  Contains-flat_map [] x y c d = absurd (none_there x c)
  Contains-flat_map (w ∷ ws) x y c d = ⊎_elim
      (λ e. Contains-append_left (f w) (flat_map f ws) y (subst (λ v. Contains (f v) y) e d))
      (λ r. Contains-append_right (f w) (flat_map f ws) y (Contains-flat_map ws x y r d))
      (here_or_there w ws x c)

  pub Contains-from_flat_map : (xs : List X) (y : Y) → Contains (flat_map f xs) y → (x : X) × Contains xs x × Contains (f x) y
  Contains-from_flat_map [] y c = absurd (none_there y c)
  Contains-from_flat_map (w ∷ ws) y c = ⊎_elim
      (λ d. (w, here w ws, d))
      (λ d. let r = Contains-from_flat_map ws y d in (r.0, there w ws r.0 r.1, r.2))
      (Contains-append_cases (f w) (flat_map f ws) y c)

module _ {Y : Type 0} (f : ℕ → Y) where
  pub Contains-map_range : (n k : ℕ) → k < n → Contains (map f (range_with_len 0 n)) (f k)
  Contains-map_range n k l = (k, subst (λ m. k < m) (sym (length-map-range_with_len f 0 n)) l, get_or-map-range_with_len f 0 n k k (f k) l (omega arith))

  pub Contains-from_map_range : (n : ℕ) (y : Y) → Contains (map f (range_with_len 0 n)) y → (k : ℕ) × (k < n) × (y ≡ f k)
  Contains-from_map_range n y c =
      let l : c.0 < n = subst (λ m. c.0 < m) (length-map-range_with_len f 0 n) c.1 in
      (c.0, l, sym c.2 ∙ get_or-map-range_with_len f 0 n c.0 c.0 y l (omega arith))

module _ {X : Type 0} where
  abbrev filled : List (Option X) → List X
  filled xs = filter_map (λ x. x) xs

  pub Contains-filled : (xs : List (Option X)) (k : ℕ) (x : X) → slice_get xs k ≡ Some (Some x) → Contains (filled xs) x
  Contains-filled [] k x e = absurd (none-some (Some x) e)
  Contains-filled (None ∷ xs) zero x e = absurd (none-some x (same_Some None (Some x) e))
  Contains-filled (Some w ∷ xs) zero x e = subst (λ v. Contains (w ∷ filled xs) v) (same_Some w x (same_Some (Some w) (Some x) e)) (here w (filled xs))
  Contains-filled (None ∷ xs) (suc k) x e = Contains-filled xs k x e
  Contains-filled (Some w ∷ xs) (suc k) x e = there w (filled xs) x (Contains-filled xs k x e)

  pub Contains-from_filled : (xs : List (Option X)) (x : X) → Contains (filled xs) x → (k : ℕ) × (slice_get xs k ≡ Some (Some x))
  Contains-from_filled [] x c = absurd (none_there x c)
  Contains-from_filled (None ∷ xs) x c = let r = Contains-from_filled xs x c in (suc r.0, r.1)
  Contains-from_filled (Some w ∷ xs) x c = ⊎_elim
      (λ e. (0, ap (λ v. Some (Some v)) (sym e)))
      (λ d. let r = Contains-from_filled xs x d in (suc r.0, r.1))
      (here_or_there w (filled xs) x c)

  pub Contains-filter : (p : X → Bool) (xs : List X) (x : X) → Contains xs x → p x ≡ true → Contains (filter p xs) x
  Contains-filter p [] x c h = absurd (none_there x c)
  Contains-filter p (w ∷ ws) x c h = ⊎_elim
      (λ e. subst (λ b. Contains (cond b (w ∷ filter p ws) (filter p ws)) x) (sym (sym (ap p e) ∙ h)) (subst (λ v. Contains (w ∷ filter p ws) v) (sym e) (here w (filter p ws))))
      (λ r. elim (p w) as (λ b. Contains (cond b (w ∷ filter p ws) (filter p ws)) x) [ true ↦ there w (filter p ws) x (Contains-filter p ws x r h) | false ↦ Contains-filter p ws x r h ])
      (here_or_there w ws x c)

  pub Contains-from_filter : (p : X → Bool) (xs : List X) (x : X) → Contains (filter p xs) x → Contains xs x × (p x ≡ true)
  Contains-from_filter p [] x c = absurd (none_there x c)
  Contains-from_filter p (w ∷ ws) x c =
      elim (p w) as (λ b. p w ≡ b → Contains (cond b (w ∷ filter p ws) (filter p ws)) x → Contains (w ∷ ws) x × (p x ≡ true)) [
        | true ↦ λ e d. ⊎_elim
            (λ q. (subst (λ v. Contains (w ∷ ws) v) (sym q) (here w ws), ap p q ∙ e))
            (λ r. let rest = Contains-from_filter p ws x r in (there w ws x rest.0, rest.1))
            (here_or_there w (filter p ws) x d)
        | false ↦ λ e d. let rest = Contains-from_filter p ws x d in (there w ws x rest.0, rest.1)
      ] refl c

zero_more : (k : ℕ) → 0 + k ≡ k
zero_more k = omega arith

pub Contains-range : (n k : ℕ) → k < n → Contains (range_with_len 0 n) k
Contains-range n k l = (k, subst (λ m. k < m) (sym (length-range_with_len 0 n)) l, get_or-range_with_len 0 n k k l ∙ zero_more k)

pub Contains-from_range : (n k : ℕ) → Contains (range_with_len 0 n) k → k < n
Contains-from_range n k c =
    let l : c.0 < n = subst (λ m. c.0 < m) (length-range_with_len 0 n) c.1 in
    let is : k ≡ c.0 = sym c.2 ∙ get_or-range_with_len 0 n c.0 k l ∙ zero_more c.0 in
    omega arith
