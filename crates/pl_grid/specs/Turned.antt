-- A plane turned over its diagonal.
use Rattle.std.specs.Prelude.{◌≡◌, ℕ, ◌+◌, ◌*◌, ◌<◌, List, length, slice_index}
use Rattle.pl_lanes.specs.Bits.{has_bit}
use Rattle.pl_grid.specs.Extent.{Extent}
use Rattle.pl_grid.specs.Planes.{Cells, filled, plane_of}

-- the box with columns and rows in each other's place
abbrev pub turned_box : Extent → Extent
turned_box e = record { x0 = e.y0; y0 = e.x0; cols = e.rows; rows = e.cols }

-- the plane whose cell x y is the cell y x
abbrev pub transposed : Cells → Cells
transposed p = plane_of (turned_box p.bounds) (λ x y. filled p y x)

-- the 64 bits of each row in word column c, turned, square by square
pub record IsStrip (words : List ℕ) (count wide c : ℕ) (strip : List ℕ) : Type 0 where
  pub len : length strip ≡ 64 * wide
  pub bits : (k w b : ℕ) → k < 64 → w < wide → b < 64 → has_bit (slice_index strip (64 * w + k)) b ≡ has_bit (slice_index words ((64 * w + b) * count + c)) k
