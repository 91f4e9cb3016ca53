-- Lists, item by item.
use Rattle.std.proofs.Common.{◌≡◌, ◌≢◌, ℕ, zero, suc, ◌+◌, ◌<◌, ◌≤◌, arith, add-one, drop-cons, List, [], ◌∷◌, ◌++◌, length, take, drop, slice_index_or, slice_get, remove, refl, sym, ap, ◌∙◌}
use Rattle.std.proofs.lemmas.List.{take_more}

module _ {X : Type 0} where
  pub drop_here : (xs : List X) (i : ℕ) (d : X) → i < length xs → drop i xs ≡ slice_index_or xs i d ∷ drop (i + 1) xs
  drop_here xs i d h = rw (add-one, drop-cons xs i d)

  pub drop_all : (xs : List X) (n : ℕ) → length xs ≤ n → drop n xs ≡ []
  drop_all [] zero h = refl
  drop_all [] (suc n) h = refl
  drop_all (x ∷ xs) zero h = absurd (omega arith)
  drop_all (x ∷ xs) (suc n) h = drop_all xs n (omega arith)

  take_all : (xs : List X) (n : ℕ) → length xs ≤ n → take n xs ≡ xs
  take_all [] zero h = refl
  take_all [] (suc n) h = refl
  take_all (x ∷ xs) zero h = absurd (omega arith)
  take_all (x ∷ xs) (suc n) h = ap (λ ys. x ∷ ys) (take_all xs n (omega arith))

  any_default : (xs : List X) (i : ℕ) (d e : X) → i < length xs → slice_index_or xs i d ≡ slice_index_or xs i e
  any_default [] i d e h = absurd (omega arith)
  any_default (x ∷ xs) zero d e h = refl
  any_default (x ∷ xs) (suc i) d e h = any_default xs i d e (omega arith)

  pub same_more : (xs ys : List X) (i : ℕ) (x y : X) → i < length xs → i < length ys → x ≡ slice_index_or xs i x → y ≡ slice_index_or ys i y → x ≡ y → take i xs ≡ take i ys → take (i + 1) xs ≡ take (i + 1) ys
  same_more xs ys i x y h k ex ey e t =
      take_more xs i x h ∙ (λ j. t j ++ (sym ex ∙ e ∙ ey) j ∷ []) ∙ sym (take_more ys i y k)

  pub not_same : (xs ys : List X) (i : ℕ) (x y : X) → i < length xs → x ≡ slice_index_or xs i x → y ≡ slice_index_or ys i y → x ≢ y → xs ≢ ys
  not_same xs ys i x y h ex ey apart same = apart (ex ∙ any_default xs i x y h ∙ ap (λ zs. slice_index_or zs i y) same ∙ sym ey)

  pub all_same : (xs ys : List X) (n : ℕ) → length xs ≡ length ys → length xs ≤ n → take n xs ≡ take n ys → xs ≡ ys
  all_same xs ys n l h t = sym (take_all xs n h) ∙ t ∙ take_all ys n (omega arith)

  -- what stands behind an item that is taken out moves down by one
  pub removed_earlier : (xs : List X) (n k : ℕ) → k < n → slice_get (remove xs n) k ≡ slice_get xs k
  removed_earlier [] zero k h = refl
  removed_earlier [] (suc n) k h = refl
  removed_earlier (x ∷ xs) zero k h = absurd (omega arith)
  removed_earlier (x ∷ xs) (suc n) zero h = refl
  removed_earlier (x ∷ xs) (suc n) (suc k) h = removed_earlier xs n k (omega arith)

  next_item : (x : X) (xs : List X) (k : ℕ) → slice_get (x ∷ xs) (k + 1) ≡ slice_get xs k
  next_item x xs k = rw add-one refl

  pub removed_later : (xs : List X) (n k : ℕ) → n ≤ k → slice_get (remove xs n) k ≡ slice_get xs (k + 1)
  removed_later [] zero k h = refl
  removed_later [] (suc n) k h = refl
  removed_later (x ∷ xs) zero k h = sym (next_item x xs k)
  removed_later (x ∷ xs) (suc n) zero h = absurd (omega arith)
  removed_later (x ∷ xs) (suc n) (suc k) h = removed_later xs n k (omega arith) ∙ sym (next_item x xs (k + 1)) ∙ ap (slice_get (x ∷ xs)) (omega arith)
