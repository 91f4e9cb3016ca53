-- A plane with the cells turned over from which a facet is hit.
use Rattle.std.specs.Prelude.{ℤ, ◌&&◌}
use Rattle.std.specs.Ordering.{int_eq}
use Rattle.pl_stl.specs.declared.mesh.Point3.{Point3}
use Rattle.pl_stl.specs.declared.mesh.Facet.{Facet}
use Rattle.pl_grid.specs.Planes.{Cells, plane_of, filled}
use Rattle.pl_layers.specs.Hits.{hits, either_or}
use Rattle.pl_layers.specs.Slices.{cell_point}

-- those of one row
abbrev pub with_facet_row : Point3 → Facet → Cells → ℤ → Cells
with_facet_row corner f p y = plane_of p.bounds (λ u v. either_or (filled p u v) (int_eq v y && hits (cell_point corner u v) f))

-- those of each row
abbrev pub with_facet : Point3 → Facet → Cells → Cells
with_facet corner f p = plane_of p.bounds (λ u v. either_or (filled p u v) (hits (cell_point corner u v) f))
