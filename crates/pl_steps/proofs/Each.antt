-- Something for each layer.
use Rattle.std.proofs.Common.{◌≡◌, ℕ, ◌+◌, ◌<◌, List, [], ◌∷◌, ◌++◌, length, slice_index_or, sym, ap, ◌∙◌, arith}
use Rattle.std.proofs.lemmas.List.{get_or_read}
use Rattle.std.proofs.lemmas.List.FromFn.{map-range_with_len_more}
use Rattle.pl_steps.specs.Layers.{each}

module _ {Y : Type 0} where
  pub each_more : (n : ℕ) (layer : ℕ → Y) (ys zs : List Y) (y : Y) → ys ≡ each n layer → y ≡ layer n → zs ≡ ys ++ y ∷ [] → zs ≡ each (n + 1) layer
  each_more n layer ys zs y before is push = push ∙ (λ i. before i ++ is i ∷ []) ∙ sym (map-range_with_len_more layer 0 n n (omega arith))

module _ {X Y : Type 0} where
  -- the next layer is made from the item that was read
  pub each_next : (n : ℕ) (xs items : List X) (d x : X) (layer : X → ℕ → Y) (ys zs : List Y) (y : Y) → n < length items → x ≡ slice_index_or items n x → items ≡ xs → ys ≡ each n (λ k. layer (slice_index_or xs k d) k) → y ≡ layer x n
      → zs ≡ ys ++ y ∷ [] → zs ≡ each (n + 1) (λ k. layer (slice_index_or xs k d) k)
  each_next n xs items d x layer ys zs y less read same before is push =
      each_more n (λ k. layer (slice_index_or xs k d) k) ys zs y before (is ∙ ap (λ item. layer item n) (get_or_read items n x less read d ∙ ap (λ list. slice_index_or list n d) same)) push
