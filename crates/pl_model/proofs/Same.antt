-- Tests that find two objects equal.
use Rattle.std.proofs.Common.{◌≡◌, ℕ, ℤ, Bool, List, IsTrue, ap, sym, ◌∙◌}
use Rattle.std.specs.Prelude.{◌&&◌}
use Rattle.std.specs.Bool.{Decides}
use Rattle.std.specs.Ordering.{int_eq}
use Rattle.std.specs.Str.{bytes_eq}
use Rattle.std.specs.Cmp.Lexicographic.{pointwise}
use Rattle.std.proofs.lemmas.Bool.Decides.{Decides-int_eq, Decides-and, Decides-like}
use Rattle.std.proofs.lemmas.Slice.Eq.{bytes_eq-Decides, slice_eq-Decides}
use Rattle.pl_units.specs.declared.Nm.{Nm}
use Rattle.pl_stl.specs.declared.mesh.Point3.{Point3}
use Rattle.pl_stl.specs.declared.mesh.Facet.{Facet}
use Rattle.pl_model.specs.declared.instances.Shift.{Shift}
use Rattle.pl_model.specs.declared.object.Object.{Object}
use Rattle.pl_model.specs.Same.{IsAlike}

abbrev same_point : Point3 → Point3 → Bool
same_point p q = int_eq p.x.0 q.x.0 && (int_eq p.y.0 q.y.0 && int_eq p.z.0 q.z.0)

abbrev same_facet : Facet → Facet → Bool
same_facet f g = same_point f.a g.a && (same_point f.b g.b && same_point f.c g.c)

abbrev same_shift : Shift → Shift → Bool
same_shift s t = int_eq s.x.0 t.x.0 && int_eq s.y.0 t.y.0

nm_is : (m n : Nm) → Decides (int_eq m.0 n.0) (m ≡ n)
nm_is m n = Decides-like _ (λ e. ap (λ (z : ℤ). record { 0 = z }) e) (λ e. ap (λ (v : Nm). v.0) e) (Decides-int_eq m.0 n.0)

point_is : (p q : Point3) → Decides (same_point p q) (p ≡ q)
point_is p q =
    Decides-like _
    (λ e. ap (λ (x : Nm). record { x = x; y = p.y; z = p.z }) e.0 ∙ ap (λ (y : Nm). record { x = q.x; y = y; z = p.z }) e.1.0 ∙ ap (λ (z : Nm). record { x = q.x; y = q.y; z = z }) e.1.1)
    (λ e. (ap (λ (r : Point3). r.x) e, (ap (λ (r : Point3). r.y) e, ap (λ (r : Point3). r.z) e)))
    (Decides-and _ _ (nm_is p.x q.x) (Decides-and _ _ (nm_is p.y q.y) (nm_is p.z q.z)))

facet_is : (f g : Facet) → Decides (same_facet f g) (f ≡ g)
facet_is f g =
    Decides-like _
    (λ e. ap (λ (a : Point3). record { a = a; b = f.b; c = f.c }) e.0 ∙ ap (λ (b : Point3). record { a = g.a; b = b; c = f.c }) e.1.0 ∙ ap (λ (c : Point3). record { a = g.a; b = g.b; c = c }) e.1.1)
    (λ e. (ap (λ (r : Facet). r.a) e, (ap (λ (r : Facet). r.b) e, ap (λ (r : Facet). r.c) e)))
    (Decides-and _ _ (point_is f.a g.a) (Decides-and _ _ (point_is f.b g.b) (point_is f.c g.c)))

shift_is : (s t : Shift) → Decides (same_shift s t) (s ≡ t)
shift_is s t =
    Decides-like _
    (λ e. ap (λ (x : Nm). record { x = x; y = s.y }) e.0 ∙ ap (λ (y : Nm). record { x = t.x; y = y }) e.1)
    (λ e. (ap (λ (r : Shift). r.x) e, ap (λ (r : Shift). r.y) e))
    (Decides-and _ _ (nm_is s.x t.x) (nm_is s.y t.y))

pub names_decided : (r : Bool) (xs ys ms ns : List ℕ) → r ≡ bytes_eq xs ys → xs ≡ ms → ys ≡ ns → IsTrue r → ms ≡ ns
names_decided r xs ys ms ns e p q t =
    let same : bytes_eq ms ns ≡ r = (λ i. bytes_eq (sym p i) (sym q i)) ∙ sym e in
    (bytes_eq-Decides ms ns).0 (same ∙ t)

pub alike_decided : (a b : Object) (r : Bool) (xs ys : List Shift) → a.quarter ≡ b.quarter → a.name ≡ b.name → r ≡ pointwise same_shift xs ys → xs ≡ a.instances → ys ≡ b.instances
    → (IsTrue r → IsAlike a b) × (IsAlike a b → IsTrue r)
alike_decided a b r xs ys turn name e p q =
    let is : Decides r (a.instances ≡ b.instances) = slice_eq-Decides shift_is a.instances b.instances r (e ∙ (λ i. pointwise same_shift (p i) (q i))) in
    (λ t. record { name = name; quarter = turn; instances = is.0 t }, λ h. is.1 h.instances)

pub objects_decided : (a b : Object) (r : Bool) (xs ys : List Facet) → IsAlike a b → a.overrides ≡ b.overrides → r ≡ pointwise same_facet xs ys → xs ≡ a.mesh → ys ≡ b.mesh
    → (IsTrue r → a ≡ b) × (a ≡ b → IsTrue r)
objects_decided a b r xs ys h o e p q =
    let is : Decides r (a.mesh ≡ b.mesh) = slice_eq-Decides facet_is a.mesh b.mesh r (e ∙ (λ i. pointwise same_facet (p i) (q i))) in
    (λ t i. record { name = h.name i; mesh = is.0 t i; quarter = h.quarter i; overrides = o i; instances = h.instances i }, λ k. is.1 (ap (λ (x : Object). x.mesh) k))
