-- Planes that have one box.
use Rattle.std.proofs.Common.{◌≡◌, ℕ, zero, suc, ◌<◌, List, length, slice_index_or, refl, sym, ap, ◌∙◌, subst, arith}
use Rattle.std.specs.List.{AllPairs}
use Rattle.std.proofs.lemmas.List.{get_or-map, length-map}
use Rattle.std.proofs.lemmas.List.FromFn.{get_or-map-range_with_len, length-map-range_with_len}
use Rattle.pl_stl.specs.declared.mesh.Facet.{Facet}
use Rattle.pl_grid.specs.Planes.{Cells}
use Rattle.pl_layers.specs.declared.heights.Heights.{Heights}
use Rattle.pl_layers.specs.Heights.{layer_count_of}
use Rattle.pl_layers.specs.Slices.{slice_of}
use Rattle.pl_layers.specs.Turned.{box_of}
use Rattle.pl_rings.specs.Rings.{eroded_times}
use Rattle.pl_fill.specs.Surfaces.{HaveEqualBoxes}
use Rattle.pl_steps.specs.Layers.{slices_of, inner_of}

eroded_box : (n : ℕ) (p : Cells) → (eroded_times n p).bounds ≡ p.bounds
eroded_box zero p = refl
eroded_box (suc n) p = eroded_box n p

-- the planes that perimeters leave have the boxes of the slices
pub inner_boxes : (count : ℕ) (slices inner : List Cells) → inner ≡ inner_of count slices → HaveEqualBoxes slices slices → HaveEqualBoxes slices inner
inner_boxes count slices inner is boxes =
    subst (HaveEqualBoxes slices) (sym is)
    (λ i d less j e fewer.
    let there : j < length slices = omega (arith, fewer, length-map slices (eroded_times count)) in
    boxes i d less j d there ∙ sym (eroded_box count (slice_index_or slices j d)) ∙ sym (ap (λ p. p.bounds) (get_or-map (eroded_times count) slices j d e there)))

pub pairs_boxes : (slices : List Cells) → HaveEqualBoxes slices slices → AllPairs (λ p q. p.bounds ≡ q.bounds) slices
pairs_boxes slices boxes i j d before less = boxes i d (omega (arith, before, less)) j d less

-- the slices of a mesh have its box
pub slices_boxes : (mesh : List Facet) (quarter : ℕ) (heights : Heights) (slices : List Cells) → slices ≡ slices_of mesh quarter heights → HaveEqualBoxes slices slices
slices_boxes mesh quarter heights slices is =
    let count = layer_count_of heights mesh in
    let layer = slice_of mesh quarter heights in
    let long : length (slices_of mesh quarter heights) ≡ count = length-map-range_with_len layer 0 count in
    let box : (k : ℕ) (d : Cells) → k < length (slices_of mesh quarter heights) → (slice_index_or (slices_of mesh quarter heights) k d).bounds ≡ box_of quarter mesh =
    (λ k d less. ap (λ p. p.bounds) (get_or-map-range_with_len layer 0 count k k d (omega (arith, long, less)) (omega arith))) in
    subst (λ list. HaveEqualBoxes list list) (sym is) (λ i d less j e fewer. box i d less ∙ sym (box j e fewer))
