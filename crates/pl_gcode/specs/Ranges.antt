-- The ranges of points and of paces.
use Rattle.std.specs.Prelude.{◌≤◌, ◌^◌}
use Rattle.pl_units.specs.Within.{Within}
use Rattle.pl_gcode.specs.Paths.{Spot, Pace}
use Rattle.pl_gcode.specs.IsPrint.{IsTrack}

-- a point that is a corner or an end of a stroke, moved by whole cells
pub record IsSpot (p : Spot) : Type 0 where
  pub x : Within (2 ^ 33) p.x
  pub y : Within (2 ^ 33) p.y

pub record IsPace (pace : Pace) : Type 0 where
  pub speed : pace.speed ≤ 1000
  pub track : IsTrack pace.height
  pub percent : pace.percent ≤ 200
