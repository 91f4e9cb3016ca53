-- The heights of layers, the height at which each is sampled, and how many there are.
use Rattle.std.specs.Prelude.{ℤ, ℕ, zero, suc, pos, ◌+ℤ◌, ◌*ℤ◌, ◌≤ℤ◌, ◌+◌, Bool, true, false, List, int_lt}
use Rattle.std.specs.Int.{int_div_euclid}
use Rattle.pl_units.specs.declared.Nm.{Nm}
use Rattle.pl_layers.specs.declared.heights.Heights.{Heights}
use Rattle.pl_stl.specs.declared.mesh.Facet.{Facet}
use Rattle.pl_layers.specs.Turned.{reach}
use Rattle.pl_stl.specs.Coordinates.{part_z}

-- both heights are in the ranges of their options
pub record AreHeights (h : Heights) : Type 0 where
  pub first_low : pos 20000 ≤ℤ h.first.0
  pub first_high : h.first.0 ≤ℤ pos 1000000
  pub low : pos 20000 ≤ℤ h.height.0
  pub high : h.height.0 ≤ℤ pos 1000000

-- the top of layer k
abbrev pub z_of : Heights → ℕ → ℤ
z_of h k = h.first.0 +ℤ pos k *ℤ h.height.0

-- the height at which layer k is sampled: the middle between its bottom and its top, rounded down
abbrev pub sample : Heights → ℕ → ℤ
sample h zero = int_div_euclid (z_of h 0) (pos 2)
sample h (suc k) = int_div_euclid (z_of h k +ℤ z_of h (suc k)) (pos 2)

-- layer k exists where it is sampled below the top of the mesh
abbrev pub exists_at : Heights → ℕ → ℕ → Bool
exists_at h tall k = int_lt (sample h k) (pos tall)

-- how many layers exist from layer k on, as long as each does, and at most `most`
abbrev pub layers_from : Heights → ℕ → ℕ → ℕ → ℕ
layers_from h tall zero k = 0
layers_from h tall (suc most) k = (elim (exists_at h tall k) [ true ↦ suc (layers_from h tall most (k + 1)) | false ↦ 0 ])

-- how many layers a mesh of this height has; samples are a nanometre apart or more, so there are no more than that
abbrev pub layers_of : Heights → ℕ → ℕ
layers_of h tall = layers_from h tall (tall + 1) 0

-- how many layers a mesh has
abbrev pub layer_count_of : Heights → List Facet → ℕ
layer_count_of h mesh = layers_of h (reach part_z mesh)

-- the height of layer k itself
abbrev pub layer_height_of : Heights → ℕ → Nm
layer_height_of h zero = h.first
layer_height_of h (suc k) = h.height
