-- Strokes that lie in a box.
use Rattle.std.specs.Prelude.{◌≤◌, ◌+◌, ◌-ℤ◌, unsigned_abs}
use Rattle.pl_units.specs.Within.{Within}
use Rattle.pl_grid.specs.declared.stroke.Stroke.{Stroke}

-- no end is far away, and the ends are at most 20,000 half cells apart
pub record IsNearStroke (k : Stroke) : Type 0 where
  pub x0 : Within 200000 k.x0
  pub y0 : Within 200000 k.y0
  pub x1 : Within 200000 k.x1
  pub y1 : Within 200000 k.y1
  pub short : unsigned_abs (k.x1 -ℤ k.x0) + unsigned_abs (k.y1 -ℤ k.y0) ≤ 20000
