-- How far one coordinate of a mesh reaches.
use Rattle.std.specs.Prelude.{◌≡◌, ℤ, ◌^◌, List}
use Rattle.pl_units.specs.Within.{Within}
use Rattle.pl_stl.specs.declared.mesh.Point3.{Point3}
use Rattle.pl_stl.specs.declared.mesh.Facet.{Facet}
use Rattle.pl_stl.specs.declared.span.Part.{Part}
use Rattle.pl_stl.specs.declared.span.Part.TheVariants.{X, Y, Z}
use Rattle.pl_stl.specs.declared.span.Span.{Span}
use Rattle.pl_stl.specs.Mesh.{IsMesh}
use Rattle.pl_stl.specs.Coordinates.{part_x, part_y, part_z, coordinates, least, greatest}

abbrev pub part_of : Part → Point3 → ℤ
part_of X = part_x
part_of Y = part_y
part_of Z = part_z

-- a number chosen among a number and one coordinate of each corner
abbrev pub with_corners : (ℤ → ℤ → ℤ) → (Point3 → ℤ) → Facet → ℤ → ℤ
with_corners choose part f z = choose (choose (choose z (part f.a)) (part f.b)) (part f.c)

-- both ends are no further than a metre away
pub record IsNearSpan (s : Span) : Type 0 where
  pub low : Within (10 ^ 9) s.least.0
  pub high : Within (10 ^ 9) s.greatest.0

-- from the least to the greatest of one coordinate of all corners
pub record IsSpan (part : Point3 → ℤ) (mesh : List Facet) (s : Span) : Type 0 where
  pub least : s.least.0 ≡ least (coordinates part mesh)
  pub greatest : s.greatest.0 ≡ greatest (coordinates part mesh)
  pub near : IsNearSpan s

-- the facets of a mesh, and its spans
pub record KnowsSpans (mesh : List Facet) (x y z : Span) : Type 0 where
  pub is : IsMesh mesh
  pub across : IsSpan part_x mesh x
  pub deep : IsSpan part_y mesh y
  pub tall : IsSpan part_z mesh z
