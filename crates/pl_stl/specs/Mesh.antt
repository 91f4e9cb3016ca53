-- Which lists of facets are meshes.
use Rattle.std.specs.Prelude.{◌≤◌, ◌^◌, List, length}
use Rattle.std.specs.List.{All}
use Rattle.pl_units.specs.Within.{Within}
use Rattle.pl_stl.specs.declared.mesh.Point3.{Point3}
use Rattle.pl_stl.specs.declared.mesh.Facet.{Facet}

-- each coordinate is at most a metre in size
pub record IsNear (p : Point3) : Type 0 where
  pub x : Within (10 ^ 9) p.x.0
  pub y : Within (10 ^ 9) p.y.0
  pub z : Within (10 ^ 9) p.z.0

pub record IsNearFacet (f : Facet) : Type 0 where
  pub a : IsNear f.a
  pub b : IsNear f.b
  pub c : IsNear f.c

pub record IsMesh (facets : List Facet) : Type 0 where
  pub some : 1 ≤ length facets
  pub few : length facets ≤ 300000
  pub near : All IsNearFacet facets
