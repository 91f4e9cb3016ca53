-- The middles of a layer's cells are close enough to compute with.
use Rattle.std.proofs.Common.{◌≡◌, ℤ, ℕ, pos, ◌+ℤ◌, ◌-ℤ◌, ◌*ℤ◌, ◌≤ℤ◌, ◌≤◌, ◌<◌, ◌*◌, ◌^◌, List, arith, ap, sym, ◌∙◌, subst, unsigned_abs}
use Rattle.std.specs.List.{All, filter}
use Rattle.std.proofs.lemmas.Int.{ints}
use Rattle.std.proofs.lemmas.List.Elements.{All-filter}
use Rattle.pl_units.specs.Within.{Within}
use Rattle.pl_stl.specs.Mesh.{IsNear, IsNearFacet, IsMesh}
use Rattle.pl_stl.specs.declared.mesh.Point3.{Point3}
use Rattle.pl_stl.specs.declared.mesh.Facet.{Facet}
use Rattle.pl_grid.specs.Extent.{Extent}
use Rattle.pl_layers.specs.declared.heights.Heights.{Heights}
use Rattle.pl_layers.specs.Turned.{turned_mesh, reach, cells_across, box_of}
use Rattle.pl_stl.specs.Coordinates.{coordinates, least, greatest, part_x, part_y, part_z}
use Rattle.pl_stl.specs.declared.span.Span.{Span}
use Rattle.pl_stl.specs.Spans.{IsSpan}
use Rattle.pl_layers.specs.Spans.{reach_of, box_over}
use Rattle.pl_layers.specs.Heights.{AreHeights, sample, layer_count_of}
use Rattle.pl_layers.specs.Near.{IsClose, IsCloseFacet, AllClose}
use Rattle.pl_layers.specs.Slices.{corner_of, cell_point, inside_of, slice_of}
use Rattle.pl_layers.specs.Filling.{spans}
use Rattle.pl_layers.proofs.Samples.{IsSampled, IsSampled-from_count}
use Rattle.pl_layers.specs.Sweeps.{base_of}
use Rattle.pl_layers.proofs.Extremes.{IsReached, IsReached-from_near, turned_mesh_near, reach_stays, heights_span}
use Rattle.pl_layers.proofs.Spanning.{inside_of_filter}

-- ---- one coordinate

reach_small : (low high : ℤ) → Within (10 ^ 9) low → Within (10 ^ 9) high → unsigned_abs (high -ℤ low) ≤ 2000000000
reach_small low high hl hh = omega (arith, ints, hl.low, hl.high, hh.low, hh.high)

half_on : (low : ℤ) → Within (10 ^ 9) low → Within 1001000000 (low +ℤ pos 200000)
half_on low h = record { low = omega (arith, ints, h.low); high = omega (arith, ints, h.high) }

-- a cell of a box begins before the box's end
cell_within : (i r : ℕ) → i < cells_across r → 400000 * i < r
cell_within i r h = omega (arith, h)

middle_on : (low high : ℤ) (i : ℕ) → Within (10 ^ 9) low → Within (10 ^ 9) high → low ≤ℤ high → i < cells_across (unsigned_abs (high -ℤ low)) → Within 1001000000 (low +ℤ pos 200000 +ℤ pos 400000 *ℤ pos i)
middle_on low high i hl hh order less =
    let whole : high -ℤ low ≡ pos (unsigned_abs (high -ℤ low)) = omega (arith, ints, order) in
    let inside : 400000 * i < unsigned_abs (high -ℤ low) = cell_within i (unsigned_abs (high -ℤ low)) less in
    record { low = omega (arith, ints, hl.low); high = omega (arith, ints, hh.high, whole, inside) }

sampled_on : (low high z : ℤ) → Within (10 ^ 9) low → Within (10 ^ 9) high → low ≤ℤ high → pos 0 ≤ℤ z → z ≤ℤ pos (unsigned_abs (high -ℤ low)) → Within 1001000000 (low +ℤ z)
sampled_on low high z hl hh order hz below = record { low = omega (arith, ints, hl.low, hz); high = omega (arith, ints, hh.high, order, below) }

-- ---- the points of a layer

reached : (part : Point3 → ℤ) (quarter : ℕ) (mesh : List Facet) → ((p : Point3) → IsNear p → Within (10 ^ 9) (part p)) → IsMesh mesh → IsReached part (turned_mesh quarter mesh)
reached part quarter mesh each is = IsReached-from_near part (turned_mesh quarter mesh) each (turned_mesh_near quarter mesh is.near)

pub layer_sampled : (h : Heights) (mesh : List Facet) (k : ℕ) → IsMesh mesh → AreHeights h → k < layer_count_of h mesh → IsSampled h (reach part_z mesh) k
layer_sampled h mesh k is are less =
    let z : IsReached part_z mesh = IsReached-from_near part_z mesh (λ p near. near.z) is.near in
    IsSampled-from_count h (reach part_z mesh) k are (reach_small _ _ z.low z.high) less

near_from : (s z : ℤ) (tall : ℕ) → pos 0 ≤ℤ s → s ≤ℤ pos tall → tall ≤ 2000000000 → z ≡ s → Within (2 ^ 40) z
near_from s z tall low high small e = record { low = omega (arith, ints, low, e); high = omega (arith, ints, high, small, e) }

-- a sample is a small number
pub sample_near : (h : Heights) (mesh : List Facet) (k : ℕ) (z : ℤ) → IsMesh mesh → AreHeights h → k < layer_count_of h mesh → z ≡ sample h k → Within (2 ^ 40) z
sample_near h mesh k z is are less e =
    let reached : IsReached part_z mesh = IsReached-from_near part_z mesh (λ p near. near.z) is.near in
    let sampled : IsSampled h (reach part_z mesh) k = layer_sampled h mesh k is are less in
    let small : reach part_z mesh ≤ 2000000000 = reach_small _ _ reached.low reached.high in
    near_from (sample h k) z (reach part_z mesh) sampled.low sampled.high small e

-- the corner and the middles of all cells of a layer
pub record ArePoints (corner : Point3) (b : Extent) : Type 0 where
  pub first : IsClose corner
  pub points : (i j : ℕ) → i < b.cols → j < b.rows → IsClose (cell_point corner (pos i) (pos j))

height_close : (h : Heights) (mesh : List Facet) (quarter k : ℕ) → IsMesh mesh → AreHeights h → k < layer_count_of h mesh → Within 1001000000 (least (coordinates part_z (turned_mesh quarter mesh)) +ℤ sample h k)
height_close h mesh quarter k is are less =
    let z : IsReached part_z (turned_mesh quarter mesh) = reached part_z quarter mesh (λ p near. near.z) is in
    let sampled : IsSampled h (reach part_z mesh) k = layer_sampled h mesh k is are less in
    sampled_on _ _ (sample h k) z.low z.high z.order sampled.low (subst (λ (n : ℕ). sample h k ≤ℤ pos n) (sym (reach_stays quarter mesh)) sampled.high)

pub points_of_layer : (h : Heights) (mesh : List Facet) (quarter k : ℕ) → IsMesh mesh → AreHeights h → k < layer_count_of h mesh → ArePoints (corner_of (turned_mesh quarter mesh) h k) (box_of quarter mesh)
points_of_layer h mesh quarter k is are less =
    let x : IsReached part_x (turned_mesh quarter mesh) = reached part_x quarter mesh (λ p near. near.x) is in
    let y : IsReached part_y (turned_mesh quarter mesh) = reached part_y quarter mesh (λ p near. near.y) is in
    let z : Within 1001000000 (least (coordinates part_z (turned_mesh quarter mesh)) +ℤ sample h k) = height_close h mesh quarter k is are less in
    record {
      first = record { x = half_on _ x.low; y = half_on _ y.low; z = z };
      points = λ i j hi hj. record { x = middle_on _ _ i x.low x.high x.order hi; y = middle_on _ _ j y.low y.high y.order hj; z = z };
    }

pub points_are : (h : Heights) (mesh : List Facet) (quarter k : ℕ) (corner : Point3) (b : Extent) → IsMesh mesh → AreHeights h → k < layer_count_of h mesh → corner ≡ corner_of (turned_mesh quarter mesh) h k → b ≡ box_of quarter mesh → ArePoints corner b
points_are h mesh quarter k corner b is are less ec eb =
    subst (λ (p : Point3). ArePoints p b) (sym ec) (subst (λ (e : Extent). ArePoints (corner_of (turned_mesh quarter mesh) h k) e) (sym eb) (points_of_layer h mesh quarter k is are less))

-- ---- the facets of a layer

wider : (z : ℤ) → Within (10 ^ 9) z → Within 1001000000 z
wider z h = record { low = omega (arith, ints, h.low); high = omega (arith, ints, h.high) }

point_close : (p : Point3) → IsNear p → IsClose p
point_close p h = record { x = wider p.x.0 h.x; y = wider p.y.0 h.y; z = wider p.z.0 h.z }

pub facet_close : (f : Facet) → IsNearFacet f → IsCloseFacet f
facet_close f h = record { a = point_close f.a h.a; b = point_close f.b h.b; c = point_close f.c h.c }

pub spanning_close : (quarter : ℕ) (facets mesh spanning : List Facet) (z : ℤ) → facets ≡ mesh → IsMesh mesh → spanning ≡ filter (spans z) (turned_mesh quarter facets) → AllClose spanning
spanning_close quarter facets mesh spanning z ef is es =
    let all : All IsNearFacet (turned_mesh quarter facets) = subst (λ (fs : List Facet). All IsNearFacet (turned_mesh quarter fs)) (sym ef) (turned_mesh_near quarter mesh is.near) in
    let close : AllClose (turned_mesh quarter facets) = λ k d less. facet_close _ (all k d less) in
    subst (λ (fs : List Facet). AllClose fs) (sym es) (All-filter (spans z) IsCloseFacet (turned_mesh quarter facets) close)

-- the cells by the facets that span the height are the cells of the layer
pub slice_is : (h : Heights) (facets mesh spanning : List Facet) (quarter k : ℕ) (corner : Point3) (b : Extent) → facets ≡ mesh → corner ≡ corner_of (turned_mesh quarter mesh) h k → b ≡ box_of quarter mesh → spanning ≡ filter (spans corner.z.0) (turned_mesh quarter facets) → inside_of b spanning corner ≡ slice_of mesh quarter h k
slice_is h facets mesh spanning quarter k corner b ef ec eb es =
    ap (λ fs. inside_of b fs corner) es
    ∙ inside_of_filter b (turned_mesh quarter facets) corner
    ∙ ap (λ fs. inside_of b (turned_mesh quarter fs) corner) ef
    ∙ ap (λ p. inside_of b (turned_mesh quarter mesh) p) ec
    ∙ ap (λ e. inside_of e (turned_mesh quarter mesh) (corner_of (turned_mesh quarter mesh) h k)) eb

-- ---- spans

pub reach_is : (s : Span) (part : Point3 → ℤ) (mesh : List Facet) → IsSpan part mesh s → reach_of s ≡ reach part mesh
reach_is s part mesh is = ap (λ z. unsigned_abs (z -ℤ s.least.0)) is.greatest ∙ ap (λ z. unsigned_abs (greatest (coordinates part mesh) -ℤ z)) is.least

abbrev box_for : ℕ → ℕ → Extent
box_for wide deep = record { x0 = pos 0; y0 = pos 0; cols = cells_across wide; rows = cells_across deep }

pub box_is : (x y : Span) (quarter : ℕ) (mesh : List Facet) → IsSpan part_x (turned_mesh quarter mesh) x → IsSpan part_y (turned_mesh quarter mesh) y → box_over x y ≡ box_of quarter mesh
box_is x y quarter mesh ix iy = ap (λ n. box_for n (reach_of y)) (reach_is x part_x (turned_mesh quarter mesh) ix) ∙ ap (λ n. box_for (reach part_x (turned_mesh quarter mesh)) n) (reach_is y part_y (turned_mesh quarter mesh) iy)

-- ---- the middle of the cell 0 0

point_is : (p : Point3) (a b c : ℤ) → p.x.0 ≡ a → p.y.0 ≡ b → p.z.0 ≡ c → p ≡ record { x = record { 0 = a }; y = record { 0 = b }; z = record { 0 = c } }
point_is p a b c ea eb ec =
    ap (λ i. record { x = record { 0 = i }; y = p.y; z = p.z }) ea
    ∙ ap (λ i. record { x = record { 0 = a }; y = record { 0 = i }; z = p.z }) eb
    ∙ ap (λ i. record { x = record { 0 = a }; y = record { 0 = b }; z = record { 0 = i } }) ec

pub base_is : (quarter : ℕ) (mesh : List Facet) (x y z : Span) (p : Point3) → IsSpan part_x (turned_mesh quarter mesh) x → IsSpan part_y (turned_mesh quarter mesh) y → IsSpan part_z mesh z → p.x.0 ≡ x.least.0 +ℤ pos 200000 → p.y.0 ≡ y.least.0 +ℤ pos 200000 → p.z.0 ≡ z.least.0 → p ≡ base_of (turned_mesh quarter mesh)
base_is quarter mesh x y z p ix iy iz ex ey ez =
    point_is p _ _ _ (ex ∙ ap (λ i. i +ℤ pos 200000) ix.least) (ey ∙ ap (λ i. i +ℤ pos 200000) iy.least) (ez ∙ (heights_span quarter mesh z iz).least)

pub corner_is : (quarter : ℕ) (mesh : List Facet) (h : Heights) (k : ℕ) (x y z : Span) (s : ℤ) (p : Point3) → IsSpan part_x (turned_mesh quarter mesh) x → IsSpan part_y (turned_mesh quarter mesh) y → IsSpan part_z mesh z → p.x.0 ≡ x.least.0 +ℤ pos 200000 → p.y.0 ≡ y.least.0 +ℤ pos 200000 → p.z.0 ≡ z.least.0 +ℤ s → s ≡ sample h k → p ≡ corner_of (turned_mesh quarter mesh) h k
corner_is quarter mesh h k x y z s p ix iy iz ex ey ez es =
    point_is p _ _ _ (ex ∙ ap (λ i. i +ℤ pos 200000) ix.least) (ey ∙ ap (λ i. i +ℤ pos 200000) iy.least) (ez ∙ ap (λ i. i +ℤ s) (heights_span quarter mesh z iz).least ∙ ap (λ i. least (coordinates part_z (turned_mesh quarter mesh)) +ℤ i) es)
