-- What the layers of an object are computed as, each step from what an earlier one gave.
use Rattle.std.specs.Prelude.{ℕ, Bool, List, [], map, slice_index_or, if◌then◌else◌}
use Rattle.std.specs.List.{range_with_len, flat_map}
use Rattle.pl_stl.specs.declared.mesh.Facet.{Facet}
use Rattle.pl_grid.specs.Planes.{Cells}
use Rattle.pl_grid.specs.Strokes.{strokes_of}
use Rattle.pl_grid.specs.declared.stroke.Corner.{Corner}
use Rattle.pl_grid.specs.declared.stroke.Stroke.{Stroke}
use Rattle.pl_layers.specs.declared.heights.Heights.{Heights}
use Rattle.pl_layers.specs.Heights.{layer_count_of}
use Rattle.pl_layers.specs.Slices.{slice_of}
use Rattle.pl_rings.specs.Rings.{eroded_times, rings_of}
use Rattle.pl_rings.specs.Sides.{loops_of}
use Rattle.pl_fill.specs.declared.surface.SurfaceSet.{SurfaceSet}
use Rattle.pl_fill.specs.Surfaces.{layer_at, solid_of, sparse_of, top_of}
use Rattle.pl_fill.specs.Layers.{layer_axis, infill_of}

-- something for each of n layers, from the lowest on
abbrev pub each : {X : Type 0} → ℕ → (ℕ → X) → List X
each n layer = map layer (range_with_len 0 n)

-- the slices of all layers of a mesh
abbrev pub slices_of : List Facet → ℕ → Heights → List Cells
slices_of mesh quarter heights = each (layer_count_of heights mesh) (slice_of mesh quarter heights)

-- the loops of so many perimeters of a slice, from the outer one on
abbrev pub loops_in : ℕ → Cells → List (List Corner)
loops_in count slice = flat_map loops_of (rings_of count slice)

-- what so many perimeters leave of each slice
abbrev pub inner_of : ℕ → List Cells → List Cells
inner_of count slices = map (eroded_times count) slices

-- the solid, sparse and top cells of layer k
abbrev pub surfaces_at : List Cells → List Cells → ℕ → ℕ → ℕ → SurfaceSet
surfaces_at slices inner top bottom k = record {
  solid = solid_of slices (layer_at inner k) k top bottom;
  sparse = sparse_of slices (layer_at inner k) k top bottom;
  top = top_of slices (layer_at inner k) k;
}

-- surfaces without cells
abbrev pub no_surfaces : SurfaceSet
no_surfaces = record { solid = layer_at [] 0; sparse = layer_at [] 0; top = layer_at [] 0 }

-- the surfaces of layer k of a list, and none where that layer does not exist
abbrev pub set_at : List SurfaceSet → ℕ → SurfaceSet
set_at sets k = slice_index_or sets k no_surfaces

-- the strokes that fill a layer k with these surfaces
abbrev pub infill_in : ℕ → SurfaceSet → ℕ → List Stroke
infill_in density set k = infill_of set.solid set.sparse k density

abbrev pub infill_at : List SurfaceSet → ℕ → ℕ → List Stroke
infill_at sets density k = infill_in density (set_at sets k) k

-- the strokes that iron the top cells of layer k, where it is to be ironed
abbrev pub ironing_in : Bool → Cells → ℕ → List Stroke
ironing_in on top k = if on then strokes_of (layer_axis k) 1 top else []

abbrev pub ironing_at : Bool → List SurfaceSet → ℕ → List Stroke
ironing_at on sets k = ironing_in on (set_at sets k).top k

-- the strokes that support layer k
abbrev pub support_in : List Cells → ℕ → List Stroke
support_in planes k = strokes_of (layer_axis k) 2 (layer_at planes k)

-- ---- of the slices alone

-- the surfaces of layer k, inside so many perimeters
abbrev pub surfaces_of : ℕ → ℕ → ℕ → List Cells → ℕ → SurfaceSet
surfaces_of count top bottom slices k = record {
  solid = solid_of slices (eroded_times count (layer_at slices k)) k top bottom;
  sparse = sparse_of slices (eroded_times count (layer_at slices k)) k top bottom;
  top = top_of slices (eroded_times count (layer_at slices k)) k;
}
