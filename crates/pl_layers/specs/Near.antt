-- Points and facets that are close enough to compute with.
use Rattle.std.specs.Prelude.{List, ℕ}
use Rattle.std.specs.List.{All}
use Rattle.pl_units.specs.Within.{Within}
use Rattle.pl_stl.specs.declared.mesh.Point3.{Point3}
use Rattle.pl_stl.specs.declared.mesh.Facet.{Facet}
use Rattle.pl_layers.specs.declared.arrow.Arrow.{Arrow}

pub record IsClose (p : Point3) : Type 0 where
  pub x : Within 1001000000 p.x.0
  pub y : Within 1001000000 p.y.0
  pub z : Within 1001000000 p.z.0

pub record IsCloseFacet (f : Facet) : Type 0 where
  pub a : IsClose f.a
  pub b : IsClose f.b
  pub c : IsClose f.c

abbrev pub AllClose : List Facet → Type 0
AllClose fs = All IsCloseFacet fs

-- an arrow between two close points, and a product of two
pub record IsShort (n : ℕ) (a : Arrow) : Type 0 where
  pub x : Within n a.x
  pub y : Within n a.y
  pub z : Within n a.z
