-- All that one object is printed as.
use Rattle.std.specs.Prelude.{ℕ, Option, List}
use Rattle.pl_grid.specs.Planes.{Cells}
use Rattle.pl_grid.specs.declared.stroke.Corner.{Corner}
use Rattle.pl_grid.specs.declared.stroke.Stroke.{Stroke}
use Rattle.pl_layers.specs.declared.heights.Heights.{Heights}

-- its tool, where its instances stand, its layers' heights, how many there are, the loops and strokes of each, and the
-- slice and the support cells of the first, where there is one
pub record Parts : Type 0 where
  pub tool : ℕ
  pub corners : List Corner
  pub heights : Heights
  pub layers : ℕ
  pub loops : List (List (List Corner))
  pub infill : List (List Stroke)
  pub ironing : List (List Stroke)
  pub support : List (List Stroke)
  pub first_slice : Option Cells
  pub first_support : Option Cells
