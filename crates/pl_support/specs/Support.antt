-- The cells that are to be supported: those below an overhang.
use Rattle.std.specs.Prelude.{ℤ, ℕ, pos, ◌+◌, ◌-◌, Bool, not, ◌&&◌, ◌||◌, List, [], length, map, slice_index_or}
use Rattle.std.specs.List.{range_with_len, list_any, list_all}
use Rattle.pl_grid.specs.Planes.{Cells, filled, dilated, plane_of}

-- the slice of layer k, and one without cells where that layer does not exist
abbrev pub slice_at : List Cells → ℕ → Cells
slice_at slices k = slice_index_or slices k (record { bounds = record { x0 = pos 0; y0 = pos 0; cols = 0; rows = 0 }; cells = [] })

-- the slice of layer k has the cell
abbrev pub has_cell : List Cells → ℤ → ℤ → ℕ → Bool
has_cell slices x y k = filled (slice_at slices k) x y

-- the dilation of the slice of layer k has the cell
abbrev pub near_cell : List Cells → ℤ → ℤ → ℕ → Bool
near_cell slices x y k = filled (dilated (slice_at slices k)) x y

-- of the layers that have a cell: none from k up to before m is one
abbrev pub is_free : (ℕ → Bool) → ℕ → ℕ → Bool
is_free has k m = list_all (λ j. not (has j)) (range_with_len k (m - k))

-- of the layers that have a cell, and those whose dilation has it: layer m has it, the dilation under it lacks it, and
-- no layer from k up to it has it
abbrev pub overhangs : (ℕ → Bool) → (ℕ → Bool) → ℕ → ℕ → Bool
overhangs has near k m = (has m && not (near (m - 1))) && is_free has k m

-- the cells that the slice of some layer below k has, in the box of the lowest
abbrev pub covered_below : List Cells → ℕ → Cells
covered_below slices k = plane_of (slice_at slices 0).bounds (λ x y. not (is_free (has_cell slices x y) 0 k))

-- some layer m above k overhangs the cell; for `plate_only` one below which no layer has it
abbrev pub is_overhung : Bool → List Cells → ℕ → ℤ → ℤ → Bool
is_overhung plate_only slices k x y =
    list_any (λ m. overhangs (has_cell slices x y) (near_cell slices x y) k m && (not plate_only || is_free (has_cell slices x y) 0 m))
    (range_with_len (k + 1) (length slices - (k + 1)))

abbrev pub is_support : Bool → Bool → List Cells → ℕ → ℤ → ℤ → Bool
is_support on plate_only slices k x y = on && (not (has_cell slices x y k) && is_overhung plate_only slices k x y)

-- the support cells of layer k
abbrev pub support_at : Bool → Bool → List Cells → ℕ → Cells
support_at on plate_only slices k = plane_of (slice_at slices k).bounds (is_support on plate_only slices k)

-- and those of all layers
abbrev pub support_of : Bool → Bool → List Cells → List Cells
support_of on plate_only slices = map (support_at on plate_only slices) (range_with_len 0 (length slices))
