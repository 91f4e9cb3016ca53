-- The layers of a mesh from the lowest on: which facets a layer has to do with, and which are done with.
use Rattle.std.specs.Prelude.{ℤ, ℕ, pos, ◌+ℤ◌, ◌+◌, ◌≤◌, ◌<◌, ◌≡◌, Bool, true, false, ◌&&◌, ◌||◌, int_le, List, length, drop, slice_index_or}
use Rattle.std.specs.List.{count_by, All}
use Rattle.std.specs.List.Sorted.{IsNonDecreasingBy}
use Rattle.pl_stl.specs.declared.mesh.Point3.{Point3}
use Rattle.pl_stl.specs.declared.mesh.Facet.{Facet}
use Rattle.pl_stl.specs.Mesh.{IsMesh}
use Rattle.pl_grid.specs.Extent.{Extent}
use Rattle.pl_layers.specs.declared.heights.Heights.{Heights}
use Rattle.pl_layers.specs.declared.sweep.Start.{Start}
use Rattle.pl_layers.specs.Turned.{turned_facet, turned_mesh, box_of}
use Rattle.pl_stl.specs.Coordinates.{coordinates, least, part_x, part_y, part_z}
use Rattle.pl_layers.specs.Heights.{AreHeights, sample}
use Rattle.pl_layers.specs.Near.{AllClose}

-- some corner of the facet is at this height or below
abbrev pub begins_by : ℤ → Facet → Bool
begins_by z f = int_le f.a.z.0 z || int_le f.b.z.0 z || int_le f.c.z.0 z

-- each corner of the facet is at this height or below
abbrev pub ends_by : ℤ → Facet → Bool
ends_by z f = int_le f.a.z.0 z && int_le f.b.z.0 z && int_le f.c.z.0 z

abbrev nowhere : Point3
nowhere = record { x = record { 0 = pos 0 }; y = record { 0 = pos 0 }; z = record { 0 = pos 0 } }

abbrev pub no_facet : Facet
no_facet = record { a = nowhere; b = nowhere; c = nowhere }

-- the facet of an entry, after its turn
abbrev pub facet_of : ℕ → List Facet → Start → Facet
facet_of quarter mesh s = turned_facet quarter (slice_index_or mesh s.facet no_facet)

-- the entry names a facet of the mesh, which does not begin by the height of any layer before its first
pub record IsStart (quarter : ℕ) (mesh : List Facet) (h : Heights) (floor : ℤ) (s : Start) : Type 0 where
  pub inside : s.facet < length mesh
  pub before : (k : ℕ) → k < s.first → begins_by (floor +ℤ sample h k) (facet_of quarter mesh s) ≡ false

-- how many facets pass a test, of those that are active and those that the order still has
abbrev pub count_left : ℕ → List Facet → List Start → ℕ → List Facet → (Facet → Bool) → ℕ
count_left quarter mesh order next active p = count_by p active + count_by (λ s. p (facet_of quarter mesh s)) (drop next order)

-- a test that none passes that ends by this height
abbrev pub IsAbove : ℤ → (Facet → Bool) → Type 0
IsAbove z p = (f : Facet) → ends_by z f ≡ true → p f ≡ false

-- the active facets and those to come are those of the mesh, but for some that end by this height
abbrev pub AreLeft : ℕ → List Facet → ℤ → List Start → ℕ → List Facet → Type 0
AreLeft quarter mesh z order next active = (p : Facet → Bool) → IsAbove z p → count_left quarter mesh order next active p ≡ count_by p (turned_mesh quarter mesh)

-- the middle of the cell 0 0, at the bottom of a mesh
abbrev pub base_of : List Facet → Point3
base_of mesh = record { x = record { 0 = least (coordinates part_x mesh) +ℤ pos 200000 }; y = record { 0 = least (coordinates part_y mesh) +ℤ pos 200000 }; z = record { 0 = least (coordinates part_z mesh) } }

-- the fields of a sweep of a mesh that stands at layer k: p is the middle of its cell 0 0 at its bottom, and n entries of its order are done with
pub record IsSweep (facets : List Facet) (q : ℕ) (h : Heights) (b : Extent) (p : Point3) (entries : List Start) (n : ℕ) (taken : List Facet) (k : ℕ) : Type 0 where
  pub mesh : IsMesh facets
  pub quarter : q < 4
  pub heights : AreHeights h
  pub bounds : b ≡ box_of q facets
  pub base : p ≡ base_of (turned_mesh q facets)
  pub starts : All (IsStart q facets h p.z.0) entries
  pub rising : IsNonDecreasingBy (λ (s : Start). s.first) entries
  pub next : n ≤ length entries
  pub close : AllClose taken
  pub left : AreLeft q facets (p.z.0 +ℤ sample h k) entries n taken

-- what a caller sees of a sweep
pub record Swept : Type 0 where
  pub mesh : List Facet
  pub quarter : ℕ
  pub heights : Heights
  -- the layer that comes next
  pub layer : ℕ
