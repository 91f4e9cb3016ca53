-- What is computed step by step, of the slices alone.
use Rattle.std.proofs.Common.{◌≡◌, ℕ, zero, suc, ◌+◌, ◌<◌, List, [], ◌∷◌, ◌++◌, length, map, slice_index_or, refl, sym, ap, ◌∙◌, arith}
use Rattle.std.proofs.lemmas.List.{get_or-map, ext_get_or, length-map}
use Rattle.std.proofs.lemmas.List.FromFn.{get_or-map-range_with_len, length-map-range_with_len, map-range_with_len_more}
use Rattle.pl_grid.specs.Planes.{Cells}
use Rattle.pl_rings.specs.Rings.{eroded_times}
use Rattle.pl_fill.specs.declared.surface.SurfaceSet.{SurfaceSet}
use Rattle.pl_fill.specs.Surfaces.{layer_at, solid_of, sparse_of, top_of}
use Rattle.pl_steps.specs.Layers.{each, inner_of, surfaces_at, set_at, no_surfaces, surfaces_of}

module _ {Y : Type 0} where
  pub each_same : (n : ℕ) (f g : ℕ → Y) → ((k : ℕ) → k < n → f k ≡ g k) → each n f ≡ each n g
  each_same zero f g same = refl
  each_same (suc n) f g same =
      let next : suc n ≡ n + 1 = omega arith in
      ap (λ m. each m f) next
      ∙ map-range_with_len_more f 0 n n (omega arith)
      ∙ (λ i. each_same n f g (λ k less. same k (omega (arith, less))) i ++ same n (omega arith) i ∷ [])
      ∙ sym (map-range_with_len_more g 0 n n (omega arith))
      ∙ sym (ap (λ m. each m g) next)

module _ {X Y : Type 0} where
  -- something for each item, by its number
  pub map_is_each : (f : X → Y) (xs : List X) (d : X) → map f xs ≡ each (length xs) (λ k. f (slice_index_or xs k d))
  map_is_each f xs d =
      let items = λ (k : ℕ). f (slice_index_or xs k d) in
      let long : length (each (length xs) items) ≡ length xs = length-map-range_with_len items 0 (length xs) in
      ext_get_or (f d) (map f xs) (each (length xs) items) (length-map xs f ∙ sym long)
      (λ i less.
      let there : i < length xs = omega (arith, less, length-map xs f) in
      get_or-map f xs i d (f d) there ∙ sym (get_or-map-range_with_len items 0 (length xs) i i (f d) there (omega arith)))

-- the surfaces that are prepared are those of the slices
pub prepared : (count top bottom : ℕ) (slices inner : List Cells) (k : ℕ) → inner ≡ inner_of count slices → k < length slices → surfaces_at slices inner top bottom k ≡ surfaces_of count top bottom slices k
prepared count top bottom slices inner k is less =
    let left : layer_at inner k ≡ eroded_times count (layer_at slices k) = ap (λ planes. layer_at planes k) is ∙ get_or-map (eroded_times count) slices k (layer_at [] 0) (layer_at [] 0) less in
    λ i. record { solid = solid_of slices (left i) k top bottom; sparse = sparse_of slices (left i) k top bottom; top = top_of slices (left i) k }

pub prepared_long : (count top bottom : ℕ) (slices inner : List Cells) (sets : List SurfaceSet) → inner ≡ inner_of count slices → sets ≡ each (length inner) (surfaces_at slices inner top bottom) → length sets ≡ length slices
prepared_long count top bottom slices inner sets is made = ap length made ∙ length-map-range_with_len (surfaces_at slices inner top bottom) 0 (length inner) ∙ ap length is ∙ length-map slices (eroded_times count)

module _ {Y : Type 0} where
  -- what is made of the prepared surfaces
  pub of_prepared : (count top bottom : ℕ) (slices inner : List Cells) (sets : List SurfaceSet) (layer : SurfaceSet → ℕ → Y) (lists : List Y) → inner ≡ inner_of count slices → sets ≡ each (length inner) (surfaces_at slices inner top bottom)
      → lists ≡ each (length sets) (λ k. layer (set_at sets k) k) → lists ≡ each (length slices) (λ k. layer (surfaces_of count top bottom slices k) k)
  of_prepared count top bottom slices inner sets layer lists is made lists_are =
      let inner_long : length inner ≡ length slices = ap length is ∙ length-map slices (eroded_times count) in
      let long : length sets ≡ length slices = prepared_long count top bottom slices inner sets is made in
      lists_are
      ∙ ap (λ n. each n (λ k. layer (set_at sets k) k)) long
      ∙ each_same (length slices) _ _
      (λ k less. ap (λ set. layer set k)
      (ap (λ list. set_at list k) made ∙ get_or-map-range_with_len (surfaces_at slices inner top bottom) 0 (length inner) k k no_surfaces (omega (arith, less, inner_long)) (omega arith)
      ∙ prepared count top bottom slices inner k is less))
