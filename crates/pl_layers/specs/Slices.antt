-- The cells of a layer.
use Rattle.std.specs.Prelude.{ℤ, ℕ, pos, ◌+ℤ◌, ◌*ℤ◌, List}
use Rattle.pl_stl.specs.declared.mesh.Point3.{Point3}
use Rattle.pl_stl.specs.declared.mesh.Facet.{Facet}
use Rattle.pl_grid.specs.Extent.{Extent}
use Rattle.pl_grid.specs.Planes.{Cells, plane_of}
use Rattle.pl_layers.specs.declared.heights.Heights.{Heights}
use Rattle.pl_layers.specs.Turned.{turned_mesh, box_of}
use Rattle.pl_stl.specs.Coordinates.{coordinates, least, part_x, part_y, part_z}
use Rattle.pl_layers.specs.Heights.{sample}
use Rattle.pl_layers.specs.Hits.{is_in_mesh}

-- the middle of the cell 0 0 of a mesh, at the height at which layer k is sampled
abbrev pub corner_of : List Facet → Heights → ℕ → Point3
corner_of mesh h k = record { x = record { 0 = least (coordinates part_x mesh) +ℤ pos 200000 }; y = record { 0 = least (coordinates part_y mesh) +ℤ pos 200000 }; z = record { 0 = least (coordinates part_z mesh) +ℤ sample h k } }

-- the middle of a cell, where the corner is the middle of the cell 0 0
abbrev pub cell_point : Point3 → ℤ → ℤ → Point3
cell_point corner x y = record { x = record { 0 = corner.x.0 +ℤ pos 400000 *ℤ x }; y = record { 0 = corner.y.0 +ℤ pos 400000 *ℤ y }; z = corner.z }

-- the cells of a box whose middles lie in a mesh
abbrev pub inside_of : Extent → List Facet → Point3 → Cells
inside_of b mesh corner = plane_of b (λ x y. is_in_mesh mesh (cell_point corner x y))

-- layer k of a mesh after its turn
abbrev pub slice_of : List Facet → ℕ → Heights → ℕ → Cells
slice_of mesh quarter h k = inside_of (box_of quarter mesh) (turned_mesh quarter mesh) (corner_of (turned_mesh quarter mesh) h k)
