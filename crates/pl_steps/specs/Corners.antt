-- Where instances stand.
use Rattle.std.specs.Prelude.{pos, ◌≤ℤ◌}
use Rattle.pl_model.specs.declared.instances.Shift.{Shift}
use Rattle.pl_model.specs.Problem.{cell_of}

-- the cell that a shift falls into is on the bed of 625 by 525 cells, or at its right or upper edge
pub record IsOnBed (shift : Shift) : Type 0 where
  pub left : pos 0 ≤ℤ cell_of shift.x
  pub right : cell_of shift.x ≤ℤ pos 625
  pub bottom : pos 0 ≤ℤ cell_of shift.y
  pub top : cell_of shift.y ≤ℤ pos 525
