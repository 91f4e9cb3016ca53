-- Lists of something for each layer.
use Rattle.std.proofs.Common.{◌≡◌, ℕ, ◌+◌, ◌-◌, ◌<◌, List, [], ◌∷◌, ◌++◌, length, map, take, reverse, get_or, refl, sym, ap, ◌∙◌, arith}
use Rattle.std.proofs.lemmas.List.{ext_get_or, get_or-reverse, length-reverse}
use Rattle.std.proofs.lemmas.List.FromFn.{get_or-map-range_with_len, length-map-range_with_len}
use Rattle.pl_grid.specs.Planes.{Cells}
use Rattle.pl_grid.specs.Strokes.{strokes_of}
use Rattle.pl_grid.specs.declared.stroke.Stroke.{Stroke}
use Rattle.pl_fill.specs.Layers.{layer_axis}
use Rattle.pl_fill.specs.Surfaces.{layer_at}
use Rattle.pl_steps.specs.Layers.{each, support_in}
use Rattle.pl_steps.proofs.Whole.{each_same}
use Rattle.pl_batches.specs.Passes.{from_top, strokes_at}

module _ {X : Type 0} where
  -- a list has something for each of its layers
  pub each_long : (n : ℕ) (layer : ℕ → X) (xs : List X) → xs ≡ each n layer → xs ≡ each (length xs) layer
  each_long n layer xs is =
      let long : n ≡ length xs = sym (ap length is ∙ length-map-range_with_len layer 0 n) in
      is ∙ ap (λ m. each m layer) long

  pub length_each : (n : ℕ) (layer : ℕ → X) (xs : List X) → xs ≡ each n layer → length xs ≡ n
  length_each n layer xs is = ap length is ∙ length-map-range_with_len layer 0 n

  pub at_each : (n : ℕ) (layer : ℕ → X) (xs : List X) (i : ℕ) (x : X) → xs ≡ each n layer → i < n → x ≡ get_or xs i x → x ≡ layer i
  at_each n layer xs i x is less read = read ∙ ap (λ ys. get_or ys i x) is ∙ get_or-map-range_with_len layer 0 n i i x less (omega arith)

  turned_each : (n : ℕ) (layer : ℕ → X) → reverse (each n (from_top n layer)) ≡ each n layer
  turned_each n layer =
      let down = each n (from_top n layer) in
      let long : length down ≡ n = length-map-range_with_len (from_top n layer) 0 n in
      let same : length (reverse down) ≡ length (each n layer) = length-reverse down ∙ long ∙ sym (length-map-range_with_len layer 0 n) in
      ext_get_or (layer 0) (reverse down) (each n layer) same
      (λ k less.
      let below : k < n = omega (arith, less, length-reverse down, long) in
      let other : length down - 1 - k ≡ n - 1 - k = omega (arith, long) in
      let back : n - 1 - (n - 1 - k) ≡ k = omega arith in
      get_or-reverse down k (layer 0) (omega (arith, below, long))
      ∙ ap (λ i. get_or down i (layer 0)) other
      ∙ get_or-map-range_with_len (from_top n layer) 0 n (n - 1 - k) (n - 1 - k) (layer 0) (omega (arith, below)) (omega arith)
      ∙ ap layer back
      ∙ sym (get_or-map-range_with_len layer 0 n k k (layer 0) below (omega arith)))

  -- what was made from the highest layer down, turned
  pub turned : (n : ℕ) (layer : ℕ → X) (xs : List X) → xs ≡ each n (from_top n layer) → reverse xs ≡ each n layer
  turned n layer xs is = ap reverse is ∙ turned_each n layer

-- the strokes are those along the cells
pub along_cells : (n : ℕ) (layer : ℕ → Cells) (cells : List Cells) (strokes : List (List Stroke)) → cells ≡ each n layer → strokes ≡ each n (strokes_at layer) → strokes ≡ each (length cells) (support_in cells)
along_cells n layer cells strokes is along =
    let long : n ≡ length cells = sym (length_each n layer cells is) in
    along
    ∙ each_same n (strokes_at layer) (support_in cells) (λ k less. ap (strokes_of (layer_axis k) 2) (sym (ap (λ planes. layer_at planes k) is ∙ get_or-map-range_with_len layer 0 n k k (layer_at [] 0) less (omega arith))))
    ∙ ap (λ m. each m (support_in cells)) long
