-- Which cells of a layer are solid, sparse or on top.
use Rattle.std.specs.Prelude.{◌≡◌, ℤ, ℕ, pos, ◌+◌, ◌-◌, Bool, not, ◌&&◌, ◌||◌, nat_le, List, [], slice_index_or}
use Rattle.std.specs.List.{All, range_with_len, list_any}
use Rattle.pl_grid.specs.Planes.{Cells, filled, plane_of}

-- the plane of layer k, and one without cells where that layer does not exist
abbrev pub layer_at : List Cells → ℕ → Cells
layer_at planes k = slice_index_or planes k (record { bounds = record { x0 = pos 0; y0 = pos 0; cols = 0; rows = 0 }; cells = [] })

-- the slice d above layer k has the cell
abbrev pub has_above : List Cells → ℕ → ℕ → ℤ → ℤ → Bool
has_above slices k d x y = filled (layer_at slices (k + d)) x y

-- the slice d below layer k has the cell
abbrev pub has_below : List Cells → ℕ → ℕ → ℤ → ℤ → Bool
has_below slices k d x y = nat_le d k && filled (layer_at slices (k - d)) x y

-- for some d from 1 to the count the slice d above lacks the cell
abbrev pub is_bare_above : List Cells → ℕ → ℕ → ℤ → ℤ → Bool
is_bare_above slices k count x y = list_any (λ d. not (has_above slices k d x y)) (range_with_len 1 count)

-- for some d from 1 to the count the slice d below lacks the cell
abbrev pub is_bare_below : List Cells → ℕ → ℕ → ℤ → ℤ → Bool
is_bare_below slices k count x y = list_any (λ d. not (has_below slices k d x y)) (range_with_len 1 count)

abbrev pub is_bare : List Cells → ℕ → ℕ → ℕ → ℤ → ℤ → Bool
is_bare slices k top bottom x y = is_bare_below slices k bottom x y || is_bare_above slices k top x y

-- the cells of layer k's inner plane that are near a top or a bottom
abbrev pub solid_of : List Cells → Cells → ℕ → ℕ → ℕ → Cells
solid_of slices inner k top bottom = plane_of inner.bounds (λ x y. filled inner x y && is_bare slices k top bottom x y)

-- its other cells
abbrev pub sparse_of : List Cells → Cells → ℕ → ℕ → ℕ → Cells
sparse_of slices inner k top bottom = plane_of inner.bounds (λ x y. filled inner x y && not (is_bare slices k top bottom x y))

-- its cells that the next slice lacks
abbrev pub top_of : List Cells → Cells → ℕ → Cells
top_of slices inner k = plane_of inner.bounds (λ x y. filled inner x y && not (has_above slices k 1 x y))

-- each plane of one list has the box of each of the other
abbrev pub HaveEqualBoxes : List Cells → List Cells → Type 0
HaveEqualBoxes ps qs = All (λ p. All (λ q. p.bounds ≡ q.bounds) qs) ps
