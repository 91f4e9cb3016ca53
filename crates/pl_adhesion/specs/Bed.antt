-- The cells of the bed on which something stands.
use Rattle.std.specs.Prelude.{◌≡◌, ℤ, pos, ◌+ℤ◌, ◌-ℤ◌, ◌≤ℤ◌, true, false, ◌||◌}
use Rattle.pl_grid.specs.Extent.{Extent}
use Rattle.pl_grid.specs.Planes.{Cells, filled, is_inside, plane_of}

-- the box lies inside the bed, which has 625 columns and 525 rows from the cell 0 0 on
pub record IsOnBed (b : Extent) : Type 0 where
  pub left : pos 0 ≤ℤ b.x0
  pub bottom : pos 0 ≤ℤ b.y0
  pub right : (b.x0 +ℤ pos b.cols) ≤ℤ pos 625
  pub top : (b.y0 +ℤ pos b.rows) ≤ℤ pos 525

-- no cell is filled
abbrev pub IsBare : Cells → Type 0
IsBare p = (x y : ℤ) → filled p x y ≡ false

-- each filled cell, moved by dx and dy, is one of the box
abbrev pub IsRoomFor : Cells → ℤ → ℤ → Extent → Type 0
IsRoomFor cells dx dy b = (x y : ℤ) → filled cells x y ≡ true → is_inside b (x +ℤ dx) (y +ℤ dy) ≡ true

-- the cells of the bed that were filled, and those of a plane, moved by dx and dy
abbrev pub bed_with : Cells → Cells → ℤ → ℤ → Cells
bed_with bed cells dx dy = plane_of bed.bounds (λ x y. filled bed x y || filled cells (x -ℤ dx) (y -ℤ dy))
