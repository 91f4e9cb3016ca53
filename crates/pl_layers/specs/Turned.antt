-- A mesh turned by quarters about z, and the box of its cells.
use Rattle.std.specs.Prelude.{ℤ, ℕ, zero, suc, pos, neg_ℤ, ◌-ℤ◌, ◌+◌, ◌/◌, List, map, unsigned_abs}
use Rattle.pl_stl.specs.declared.mesh.Point3.{Point3}
use Rattle.pl_stl.specs.declared.mesh.Facet.{Facet}
use Rattle.pl_stl.specs.Coordinates.{part_x, part_y, coordinates, least, greatest}
use Rattle.pl_grid.specs.Extent.{Extent}

-- a point after so many quarter turns counterclockwise, from 0 to 3
abbrev pub turned : ℕ → Point3 → Point3
turned zero p = p
turned (suc zero) p = record { x = record { 0 = neg_ℤ p.y.0 }; y = p.x; z = p.z }
turned (suc (suc zero)) p = record { x = record { 0 = neg_ℤ p.x.0 }; y = record { 0 = neg_ℤ p.y.0 }; z = p.z }
turned (suc (suc (suc n))) p = record { x = p.y; y = record { 0 = neg_ℤ p.x.0 }; z = p.z }

abbrev pub turned_facet : ℕ → Facet → Facet
turned_facet quarter f = record { a = turned quarter f.a; b = turned quarter f.b; c = turned quarter f.c }

abbrev pub turned_mesh : ℕ → List Facet → List Facet
turned_mesh quarter mesh = map (turned_facet quarter) mesh

-- how far the coordinates of a mesh reach
abbrev pub reach : (Point3 → ℤ) → List Facet → ℕ
reach part mesh = unsigned_abs (greatest (coordinates part mesh) -ℤ least (coordinates part mesh))

-- how many cells of 400,000 nm a length takes
abbrev pub cells_across : ℕ → ℕ
cells_across length = (length + 399999) / 400000

-- the box of the cells of a mesh after its turn
abbrev pub box_of : ℕ → List Facet → Extent
box_of quarter mesh = record { x0 = pos 0; y0 = pos 0; cols = cells_across (reach part_x (turned_mesh quarter mesh)); rows = cells_across (reach part_y (turned_mesh quarter mesh)) }
