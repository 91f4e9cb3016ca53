-- Where the ray from a point meets a facet.
use Rattle.std.specs.Prelude.{ℤ, pos, ◌+ℤ◌, ◌-ℤ◌, ◌*ℤ◌, Bool, not, ◌&&◌, ◌||◌, int_lt, int_le, if◌then◌else◌, List, ◌%◌, ◌==◌}
use Rattle.std.specs.List.{count_by}
use Rattle.pl_stl.specs.declared.mesh.Point3.{Point3}
use Rattle.pl_stl.specs.declared.mesh.Facet.{Facet}
use Rattle.pl_layers.specs.declared.arrow.Arrow.{Arrow}

-- from p to q
abbrev pub arrow : Point3 → Point3 → Arrow
arrow p q = record { x = q.x.0 -ℤ p.x.0; y = q.y.0 -ℤ p.y.0; z = q.z.0 -ℤ p.z.0 }

abbrev pub cross_x : Arrow → Arrow → ℤ
cross_x a b = a.y *ℤ b.z -ℤ a.z *ℤ b.y

abbrev pub cross_y : Arrow → Arrow → ℤ
cross_y a b = a.z *ℤ b.x -ℤ a.x *ℤ b.z

abbrev pub cross_z : Arrow → Arrow → ℤ
cross_z a b = a.x *ℤ b.y -ℤ a.y *ℤ b.x

abbrev pub cross : Arrow → Arrow → Arrow
cross a b = record { x = cross_x a b; y = cross_y a b; z = cross_z a b }

abbrev pub dot : Arrow → Arrow → ℤ
dot a b = a.x *ℤ b.x +ℤ a.y *ℤ b.y +ℤ a.z *ℤ b.z

abbrev pub determinant : Arrow → Arrow → Arrow → ℤ
determinant a b c = dot a (cross b c)

-- exactly one is true
abbrev pub either_or : Bool → Bool → Bool
either_or a b = if a then not b else b

-- which side of the edge from u to v the point is on
abbrev pub side_of_edge : Point3 → Point3 → Point3 → ℤ
side_of_edge p u v = (u.y.0 -ℤ p.y.0) *ℤ (v.z.0 -ℤ u.z.0) +ℤ (v.y.0 -ℤ u.y.0) *ℤ (p.z.0 -ℤ u.z.0)

-- the edge from u to v crosses the height of p on the right side of it
abbrev pub crosses : Point3 → Point3 → Point3 → Bool
crosses p u v =
    either_or (int_le u.z.0 p.z.0) (int_le v.z.0 p.z.0)
    && (if int_lt u.z.0 v.z.0 then int_lt (pos 0) (side_of_edge p u v) else int_lt (side_of_edge p u v) (pos 0))

-- an odd number of the three edges cross
abbrev pub crosses_oddly : Point3 → Facet → Bool
crosses_oddly p f = either_or (either_or (crosses p f.a f.b) (crosses p f.b f.c)) (crosses p f.c f.a)

-- both are above 0, or both are below
abbrev pub same_sign : ℤ → ℤ → Bool
same_sign s t = (int_lt (pos 0) s && int_lt (pos 0) t) || (int_lt s (pos 0) && int_lt t (pos 0))

-- the facet is on the ray's side of the point
abbrev pub is_ahead : Point3 → Facet → Bool
is_ahead p f =
    same_sign (determinant (arrow p f.a) (arrow p f.b) (arrow p f.c)) (cross_x (arrow f.a f.b) (arrow f.a f.c))

abbrev pub hits : Point3 → Facet → Bool
hits p f = crosses_oddly p f && is_ahead p f

-- an odd number of facets are hit
abbrev pub is_in_mesh : List Facet → Point3 → Bool
is_in_mesh mesh p = count_by (hits p) mesh % 2 == 1
