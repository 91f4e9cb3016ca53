-- The least and the greatest of the coordinates of a mesh, and of one that is turned.
use Rattle.std.proofs.Common.{◌≡◌, ℤ, ℕ, suc, zero, ◌≤ℤ◌, ◌-ℤ◌, ◌^◌, neg_ℤ, List, [], ◌∷◌, map, get_or, arith, refl, ap, sym, ◌∙◌, unsigned_abs}
use Rattle.std.specs.List.{All}
use Rattle.std.proofs.lemmas.List.Elements.{All-cons, All-map}
use Rattle.std.specs.Int.{int_min, int_max}
use Rattle.std.proofs.lemmas.Int.{ints}
use Rattle.std.proofs.lemmas.Bool.Decides.{nat_tests}
use Rattle.pl_units.specs.Within.{Within}
use Rattle.pl_stl.specs.Mesh.{IsNear, IsNearFacet}
use Rattle.pl_stl.specs.declared.mesh.Point3.{Point3}
use Rattle.pl_stl.specs.declared.mesh.Facet.{Facet}
use Rattle.pl_layers.specs.Turned.{turned, turned_facet, turned_mesh, reach}
use Rattle.pl_stl.specs.Coordinates.{coordinates, least, greatest, part_z}
use Rattle.pl_stl.specs.declared.span.Span.{Span}
use Rattle.pl_stl.specs.Spans.{IsNearSpan, IsSpan}

-- ---- how far apart they are

beyond : (z a b : ℤ) → int_min z a ≤ℤ int_max z b
beyond z a b = grind (arith, ints, nat_tests)

pub least_below_greatest : (zs : List ℤ) → least zs ≤ℤ greatest zs
least_below_greatest [] = omega (arith, ints)
least_below_greatest (z ∷ []) = omega (arith, ints)
least_below_greatest (z ∷ y ∷ zs) = beyond z (least (y ∷ zs)) (greatest (y ∷ zs))

-- ---- turning

turned_z : (quarter : ℕ) (p : Point3) → part_z (turned quarter p) ≡ part_z p
turned_z zero p = refl
turned_z (suc zero) p = refl
turned_z (suc (suc zero)) p = refl
turned_z (suc (suc (suc n))) p = refl

same_four : (a b c d e f : ℤ) (xs ys : List ℤ) → a ≡ d → b ≡ e → c ≡ f → xs ≡ ys → a ∷ b ∷ c ∷ xs ≡ d ∷ e ∷ f ∷ ys
same_four a b c d e f xs ys p q r s = cc

-- a coordinate that turns into another one
turned_coordinates : (part other : Point3 → ℤ) (quarter : ℕ) (mesh : List Facet) → ((p : Point3) → part (turned quarter p) ≡ other p) → coordinates part (turned_mesh quarter mesh) ≡ coordinates other mesh
turned_coordinates part other quarter [] is = refl
turned_coordinates part other quarter (f ∷ fs) is = same_four _ _ _ _ _ _ _ _ (is f.a) (is f.b) (is f.c) (turned_coordinates part other quarter fs is)

pub turned_span : (part other : Point3 → ℤ) (quarter : ℕ) (mesh : List Facet) (s : Span) → ((p : Point3) → part (turned quarter p) ≡ other p) → IsSpan other mesh s → IsSpan part (turned_mesh quarter mesh) s
turned_span part other quarter mesh s is h =
    let same : coordinates part (turned_mesh quarter mesh) ≡ coordinates other mesh = turned_coordinates part other quarter mesh is in
    record { least = h.least ∙ sym (ap least same); greatest = h.greatest ∙ sym (ap greatest same); near = h.near }

-- turning about z leaves the heights as they are
pub heights_span : (quarter : ℕ) (mesh : List Facet) (s : Span) → IsSpan part_z mesh s → IsSpan part_z (turned_mesh quarter mesh) s
heights_span quarter mesh s = turned_span part_z part_z quarter mesh s (turned_z quarter)

pub reach_stays : (quarter : ℕ) (mesh : List Facet) → reach part_z (turned_mesh quarter mesh) ≡ reach part_z mesh
reach_stays quarter mesh = ap (λ zs. unsigned_abs (greatest zs -ℤ least zs)) (turned_coordinates part_z part_z quarter mesh (turned_z quarter))

-- a coordinate that turns into the opposite of another one
opposite_coordinates : (part other : Point3 → ℤ) (quarter : ℕ) (mesh : List Facet) → ((p : Point3) → part (turned quarter p) ≡ neg_ℤ (other p)) → coordinates part (turned_mesh quarter mesh) ≡ map neg_ℤ (coordinates other mesh)
opposite_coordinates part other quarter [] is = refl
opposite_coordinates part other quarter (f ∷ fs) is = same_four _ _ _ _ _ _ _ _ (is f.a) (is f.b) (is f.c) (opposite_coordinates part other quarter fs is)

min_of_opposites : (a b c : ℤ) → b ≡ neg_ℤ c → int_min (neg_ℤ a) b ≡ neg_ℤ (int_max a c)
min_of_opposites a b c e = grind (arith, ints, nat_tests, e)

max_of_opposites : (a b c : ℤ) → b ≡ neg_ℤ c → int_max (neg_ℤ a) b ≡ neg_ℤ (int_min a c)
max_of_opposites a b c e = grind (arith, ints, nat_tests, e)

least_of_opposites : (zs : List ℤ) → least (map neg_ℤ zs) ≡ neg_ℤ (greatest zs)
least_of_opposites [] = refl
least_of_opposites (z ∷ []) = refl
least_of_opposites (z ∷ y ∷ zs) = min_of_opposites z _ (greatest (y ∷ zs)) (least_of_opposites (y ∷ zs))

greatest_of_opposites : (zs : List ℤ) → greatest (map neg_ℤ zs) ≡ neg_ℤ (least zs)
greatest_of_opposites [] = refl
greatest_of_opposites (z ∷ []) = refl
greatest_of_opposites (z ∷ y ∷ zs) = max_of_opposites z _ (least (y ∷ zs)) (greatest_of_opposites (y ∷ zs))

pub opposite_span : (part other : Point3 → ℤ) (quarter : ℕ) (mesh : List Facet) (s t : Span) → ((p : Point3) → part (turned quarter p) ≡ neg_ℤ (other p)) → IsSpan other mesh s → t.least.0 ≡ neg_ℤ s.greatest.0 → t.greatest.0 ≡ neg_ℤ s.least.0 → IsNearSpan t → IsSpan part (turned_mesh quarter mesh) t
opposite_span part other quarter mesh s t is h low high near =
    let same : coordinates part (turned_mesh quarter mesh) ≡ map neg_ℤ (coordinates other mesh) = opposite_coordinates part other quarter mesh is in
    record {
      least = low ∙ ap neg_ℤ h.greatest ∙ sym (least_of_opposites (coordinates other mesh)) ∙ sym (ap least same);
      greatest = high ∙ ap neg_ℤ h.least ∙ sym (greatest_of_opposites (coordinates other mesh)) ∙ sym (ap greatest same);
      near = near;
    }

-- ---- near the origin

opposite_near : (z : ℤ) → Within (10 ^ 9) z → Within (10 ^ 9) (neg_ℤ z)
opposite_near z h = record { low = omega (arith, ints, h.high); high = omega (arith, ints, h.low) }

turned_near : (quarter : ℕ) (p : Point3) → IsNear p → IsNear (turned quarter p)
turned_near zero p h = h
turned_near (suc zero) p h = record { x = opposite_near p.y.0 h.y; y = h.x; z = h.z }
turned_near (suc (suc zero)) p h = record { x = opposite_near p.x.0 h.x; y = opposite_near p.y.0 h.y; z = h.z }
turned_near (suc (suc (suc n))) p h = record { x = h.y; y = opposite_near p.x.0 h.x; z = h.z }

pub turned_facet_near : (quarter : ℕ) (f : Facet) → IsNearFacet f → IsNearFacet (turned_facet quarter f)
turned_facet_near quarter f h = record { a = turned_near quarter f.a h.a; b = turned_near quarter f.b h.b; c = turned_near quarter f.c h.c }

pub turned_mesh_near : (quarter : ℕ) (mesh : List Facet) → All IsNearFacet mesh → All IsNearFacet (turned_mesh quarter mesh)
turned_mesh_near quarter mesh h = All-map IsNearFacet (turned_facet quarter) mesh (λ k d less. turned_facet_near quarter (get_or mesh k d) (h k d less))

coordinates_near : (part : Point3 → ℤ) (mesh : List Facet) → ((p : Point3) → IsNear p → Within (10 ^ 9) (part p)) → All IsNearFacet mesh → All (Within (10 ^ 9)) (coordinates part mesh)
coordinates_near part [] each h = λ k d less. absurd (omega arith)
coordinates_near part (f ∷ fs) each h =
    let here : IsNearFacet f = h 0 f (omega arith) in
    let rest : All (Within (10 ^ 9)) (coordinates part fs) = coordinates_near part fs each (λ k d less. h (suc k) d (omega arith)) in
    All-cons (Within (10 ^ 9)) (part f.a) (part f.b ∷ part f.c ∷ coordinates part fs) (each f.a here.a) (All-cons (Within (10 ^ 9)) (part f.b) (part f.c ∷ coordinates part fs) (each f.b here.b) (All-cons (Within (10 ^ 9)) (part f.c) (coordinates part fs) (each f.c here.c) rest))

pub max_near : (n : ℕ) (a b : ℤ) → Within n a → Within n b → Within n (int_max a b)
max_near n a b ha hb = record { low = grind (arith, ints, nat_tests, ha.low, hb.low); high = grind (arith, ints, nat_tests, ha.high, hb.high) }

pub min_near : (n : ℕ) (a b : ℤ) → Within n a → Within n b → Within n (int_min a b)
min_near n a b ha hb = record { low = grind (arith, ints, nat_tests, ha.low, hb.low); high = grind (arith, ints, nat_tests, ha.high, hb.high) }

greatest_near : (n : ℕ) (zs : List ℤ) → All (Within n) zs → Within n (greatest zs)
greatest_near n [] h = record { low = omega (arith, ints); high = omega (arith, ints) }
greatest_near n (z ∷ []) h = h 0 z (omega arith)
greatest_near n (z ∷ y ∷ zs) h = max_near n z (greatest (y ∷ zs)) (h 0 z (omega arith)) (greatest_near n (y ∷ zs) (λ k d less. h (suc k) d (omega arith)))

least_near : (n : ℕ) (zs : List ℤ) → All (Within n) zs → Within n (least zs)
least_near n [] h = record { low = omega (arith, ints); high = omega (arith, ints) }
least_near n (z ∷ []) h = h 0 z (omega arith)
least_near n (z ∷ y ∷ zs) h = min_near n z (least (y ∷ zs)) (h 0 z (omega arith)) (least_near n (y ∷ zs) (λ k d less. h (suc k) d (omega arith)))

-- the coordinates of a mesh: how far they reach, and that they are near the origin
pub record IsReached (part : Point3 → ℤ) (mesh : List Facet) : Type 0 where
  pub order : least (coordinates part mesh) ≤ℤ greatest (coordinates part mesh)
  pub low : Within (10 ^ 9) (least (coordinates part mesh))
  pub high : Within (10 ^ 9) (greatest (coordinates part mesh))

pub IsReached-from_near : (part : Point3 → ℤ) (mesh : List Facet) → ((p : Point3) → IsNear p → Within (10 ^ 9) (part p)) → All IsNearFacet mesh → IsReached part mesh
IsReached-from_near part mesh each h =
    let all : All (Within (10 ^ 9)) (coordinates part mesh) = coordinates_near part mesh each h in
    record { order = least_below_greatest (coordinates part mesh); low = least_near (10 ^ 9) (coordinates part mesh) all; high = greatest_near (10 ^ 9) (coordinates part mesh) all }
