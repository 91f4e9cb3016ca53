-- Facets that do not span a height are hit from no point of it.
use Rattle.std.proofs.Common.{◌≡◌, pos, ◌+ℤ◌, ◌+◌, ◌%◌, ◌==◌, Bool, true, false, ◌&&◌, ◌||◌, not, cond, List, [], ◌∷◌, arith, refl, ap, sym, ◌∙◌}
use Rattle.std.specs.Prelude.{int_le}
use Rattle.std.specs.List.{count_by, filter}
use Rattle.std.proofs.lemmas.List.Sums.{sum_by-cons}
use Rattle.pl_stl.specs.declared.mesh.Point3.{Point3}
use Rattle.pl_stl.specs.declared.mesh.Facet.{Facet}
use Rattle.pl_grid.specs.Extent.{Extent}
use Rattle.pl_grid.proofs.PlaneLemmas.{same_tests}
use Rattle.pl_layers.specs.Hits.{is_ahead, hits, either_or, is_in_mesh}
use Rattle.pl_layers.specs.Slices.{cell_point, inside_of}
use Rattle.pl_layers.specs.Filling.{spans}

none_cross : (a b c x y z : Bool) → ((a || b || c) && not (a && b && c)) ≡ false → either_or (either_or (either_or a b && x) (either_or b c && y)) (either_or c a && z) ≡ false
none_cross true true true x y z h = refl
none_cross true true false x y z h = absurd (grind arith)
none_cross true false true x y z h = absurd (grind arith)
none_cross true false false x y z h = absurd (grind arith)
none_cross false true true x y z h = absurd (grind arith)
none_cross false true false x y z h = absurd (grind arith)
none_cross false false true x y z h = absurd (grind arith)
none_cross false false false x y z h = refl

-- a facet that does not span the height of a point is not hit from it
pub hits_none : (p : Point3) (f : Facet) → spans p.z.0 f ≡ false → hits p f ≡ false
hits_none p f h = ap (λ b. b && is_ahead p f) (none_cross (int_le f.a.z.0 p.z.0) (int_le f.b.z.0 p.z.0) (int_le f.c.z.0 p.z.0) _ _ _ h)

filter_case : {X : Type 0} (p : X → Bool) (q : Bool) (x : X) (xs ys : List X) → (q ≡ false → p x ≡ false) → count_by p ys ≡ count_by p xs → count_by p (cond q (x ∷ ys) ys) ≡ count_by p (x ∷ xs)
filter_case p true x xs ys h e = sum_by-cons (λ y. cond (p y) 1 0) x ys ∙ ap (λ n. cond (p x) 1 0 + n) e ∙ sym (sum_by-cons (λ y. cond (p y) 1 0) x xs)
filter_case p false x xs ys h e =
    let none : count_by p xs ≡ cond (p x) 1 0 + count_by p xs = rw (h refl) (omega arith) in
    e ∙ none ∙ sym (sum_by-cons (λ y. cond (p y) 1 0) x xs)

pub count_by-filter : {X : Type 0} (p q : X → Bool) → ((x : X) → q x ≡ false → p x ≡ false) → (xs : List X) → count_by p (filter q xs) ≡ count_by p xs
count_by-filter p q h [] = refl
count_by-filter p q h (x ∷ xs) = filter_case p (q x) x xs (filter q xs) (h x) (count_by-filter p q h xs)

-- the facets that span a height decide about its points, and so do any that hold these
pub is_in_mesh_filter : (near : Facet → Bool) (mesh : List Facet) (p : Point3) → ((f : Facet) → near f ≡ false → spans p.z.0 f ≡ false) → is_in_mesh (filter near mesh) p ≡ is_in_mesh mesh p
is_in_mesh_filter near mesh p h = ap (λ n. n % 2 == 1) (count_by-filter (hits p) near (λ f no. hits_none p f (h f no)) mesh)

-- the facets that span the height of a layer decide about its cells
pub inside_of_filter : (b : Extent) (mesh : List Facet) (corner : Point3) → inside_of b (filter (spans corner.z.0) mesh) corner ≡ inside_of b mesh corner
inside_of_filter b mesh corner = same_tests b (λ x y. is_in_mesh (filter (spans corner.z.0) mesh) (cell_point corner x y)) (λ x y. is_in_mesh mesh (cell_point corner x y)) (λ i j hi hj. is_in_mesh_filter (spans corner.z.0) mesh (cell_point corner (b.x0 +ℤ pos i) (b.y0 +ℤ pos j)) (λ f no. no))
