-- Loops that lie near the origin and go along x or y.
use Rattle.std.specs.Prelude.{◌≡◌, ◌<◌, ◌⊎◌, List, [], ◌∷◌, ◌++◌, length}
use Rattle.std.specs.List.{All}
use Rattle.pl_units.specs.Within.{Within}
use Rattle.pl_grid.specs.declared.stroke.Corner.{Corner}

-- the corner is not far away, in cells
pub record IsNearCorner (p : Corner) : Type 0 where
  pub x : Within 200000 p.x
  pub y : Within 200000 p.y

-- from each corner to the next the way goes along x or along y
abbrev pub GoesStraight : Corner → List Corner → Type 0
GoesStraight p [] = Unit {0}
GoesStraight p (q ∷ qs) = ((p.x ≡ q.x) ⊎ (p.y ≡ q.y)) × GoesStraight q qs

-- and so it does from the last back to the first
abbrev pub HasStraightSides : List Corner → Type 0
HasStraightSides [] = Unit {0}
HasStraightSides (p ∷ ps) = GoesStraight p (ps ++ p ∷ [])

-- a loop has a corner, all are near, and each side goes along x or along y
pub record IsNearLoop (loop : List Corner) : Type 0 where
  pub some : 0 < length loop
  pub near : All IsNearCorner loop
  pub straight : HasStraightSides loop
