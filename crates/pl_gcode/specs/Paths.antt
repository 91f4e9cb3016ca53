-- The lines of a path.
use Rattle.std.specs.Prelude.{ℤ, ℕ, pos, ◌+ℤ◌, ◌-ℤ◌, ◌*ℤ◌, ◌+◌, ◌*◌, List, [], ◌∷◌, ◌++◌, map, unsigned_abs, codes}
use Rattle.std.specs.Fmt.{decimal}
use Rattle.pl_units.specs.Decimal.{fixed}
use Rattle.pl_units.specs.declared.Nm.{Nm}
use Rattle.pl_grid.specs.declared.stroke.Corner.{Corner}
use Rattle.pl_grid.specs.declared.stroke.Stroke.{Stroke}
use Rattle.pl_gcode.specs.Print.{Settings}
use Rattle.pl_gcode.specs.Extrusion.{extrusion_of}

-- a point of the bed, in half cells of 200,000 nm
pub record Spot : Type 0 where
  pub x : ℤ
  pub y : ℤ

-- how a path is printed: the feed in mm per second, the height of its track, and the percent of the extrusion
pub record Pace : Type 0 where
  pub speed : ℕ
  pub height : Nm
  pub percent : ℕ

abbrev pub line_of : List ℕ → List ℕ
line_of text = text ++ 10 ∷ []

abbrev pub spot_text : Spot → List ℕ
spot_text p = codes "G1 X" ++ fixed (pos 200 *ℤ p.x) 3 ++ codes " Y" ++ fixed (pos 200 *ℤ p.y) 3

-- the feed of a speed, in mm per minute
abbrev pub feed : ℕ → List ℕ
feed speed = codes "F" ++ decimal (speed * 60)

-- how far two points of one row or one column are apart, in nanometres
abbrev pub distance : Spot → Spot → ℕ
distance p q = (unsigned_abs (q.x -ℤ p.x) + unsigned_abs (q.y -ℤ p.y)) * 200000

-- in 0.00001 mm
abbrev pub amount : Settings → Pace → Spot → Spot → ℕ
amount s pace p q = extrusion_of (distance p q) (unsigned_abs pace.height.0) (unsigned_abs s.filament_diameter.0) pace.percent

abbrev pub extrude : Settings → Pace → Spot → Spot → List ℕ
extrude s pace p q = line_of (spot_text q ++ codes " E" ++ fixed (pos (amount s pace p q)) 5)

abbrev pub extrude_along : Settings → Pace → Spot → List Spot → List ℕ
extrude_along s pace p [] = []
extrude_along s pace p (q ∷ qs) = extrude s pace p q ++ extrude_along s pace q qs

-- a move to a point, and the feed from there on
abbrev pub start_lines : Settings → Pace → Spot → List ℕ
start_lines s pace p = line_of (spot_text p ++ codes " " ++ feed s.travel_speed) ++ line_of (codes "G1 " ++ feed pace.speed)

-- a move to the first point, the feed, and a move with extrusion to each further one
abbrev pub path : Settings → Pace → List Spot → List ℕ
path s pace [] = []
path s pace (p ∷ ps) = start_lines s pace p ++ extrude_along s pace p ps

-- a point moved by whole cells
abbrev pub shifted : Corner → Spot → Spot
shifted by p = record { x = p.x +ℤ pos 2 *ℤ by.x; y = p.y +ℤ pos 2 *ℤ by.y }

abbrev pub start_of : Stroke → Spot
start_of k = record { x = k.x0; y = k.y0 }

abbrev pub end_of : Stroke → Spot
end_of k = record { x = k.x1; y = k.y1 }

abbrev pub stroke_path : Settings → Pace → Corner → Stroke → List ℕ
stroke_path s pace by k = path s pace (shifted by (start_of k) ∷ shifted by (end_of k) ∷ [])

abbrev pub spot_of : Corner → Spot
spot_of p = record { x = pos 2 *ℤ p.x; y = pos 2 *ℤ p.y }

-- the corners of a loop, and its first corner again
abbrev pub closed : List Corner → List Corner
closed [] = []
closed (p ∷ ps) = (p ∷ ps) ++ p ∷ []

abbrev pub shifted_corner : Corner → Corner → Spot
shifted_corner by p = shifted by (spot_of p)

abbrev pub loop_path : Settings → Pace → Corner → List Corner → List ℕ
loop_path s pace by ps = path s pace (map (shifted_corner by) (closed ps))
