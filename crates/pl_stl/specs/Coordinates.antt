-- The coordinates of the corners of facets, and the least and the greatest of them.
use Rattle.std.specs.Prelude.{ℤ, pos, List, [], ◌∷◌}
use Rattle.std.specs.List.{flat_map}
use Rattle.std.specs.Int.{int_min, int_max}
use Rattle.pl_stl.specs.declared.mesh.Point3.{Point3}
use Rattle.pl_stl.specs.declared.mesh.Facet.{Facet}

abbrev pub part_x : Point3 → ℤ
part_x p = p.x.0

abbrev pub part_y : Point3 → ℤ
part_y p = p.y.0

abbrev pub part_z : Point3 → ℤ
part_z p = p.z.0

-- one coordinate of each corner of each facet
abbrev pub coordinates : (Point3 → ℤ) → List Facet → List ℤ
coordinates part mesh = flat_map (λ f. part f.a ∷ part f.b ∷ part f.c ∷ []) mesh

-- the least and the greatest number of a list, and 0 where it is empty
abbrev pub least : List ℤ → ℤ
least [] = pos 0
least (z ∷ []) = z
least (z ∷ y ∷ zs) = int_min z (least (y ∷ zs))

abbrev pub greatest : List ℤ → ℤ
greatest [] = pos 0
greatest (z ∷ []) = z
greatest (z ∷ y ∷ zs) = int_max z (greatest (y ∷ zs))
