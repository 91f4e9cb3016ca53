-- The boundary sides of a plane, and which follows which.
use Rattle.std.specs.Prelude.{◌≤ℤ◌, neg_ℤ, ◌≡◌, ◌<◌, ℤ, ℕ, pos, ◌+ℤ◌, ◌-ℤ◌, ◌+◌, ◌*◌, ◌/◌, ◌%◌, Bool, ◌&&◌, nat_lt, unsigned_abs, zero, suc, List, [], ◌∷◌, map, if◌then◌else◌, ◌==◌}
use Rattle.pl_grid.specs.Extent.{Extent}
use Rattle.pl_grid.specs.Planes.{Cells, filled}
use Rattle.pl_grid.specs.declared.stroke.Corner.{Corner}
use Rattle.pl_rings.specs.declared.side.Heading.{Heading}
use Rattle.pl_rings.specs.declared.side.Heading.TheVariants.{East, North, West, South}
use Rattle.pl_rings.specs.declared.side.Side.{Side}
use Rattle.pl_rings.specs.Headings.{Around, leaves, turn}
use Rattle.pl_rings.specs.Cycles.{cycles_of}

-- the cells round the point x y
abbrev pub around : Cells → ℤ → ℤ → Around
around p x y = record {
  northeast = filled p x y;
  northwest = filled p (x -ℤ pos 1) y;
  southwest = filled p (x -ℤ pos 1) (y -ℤ pos 1);
  southeast = filled p x (y -ℤ pos 1);
}

-- the side is one of a filled cell towards an empty one
abbrev pub is_side : Cells → Side → Bool
is_side p s = leaves (around p s.x s.y) s.heading

-- where a side ends
abbrev pub end_x : ℤ → Heading → ℤ
end_x x East = x +ℤ pos 1
end_x x North = x
end_x x West = x -ℤ pos 1
end_x x South = x

abbrev pub end_y : ℤ → Heading → ℤ
end_y y East = y
end_y y North = y +ℤ pos 1
end_y y West = y
end_y y South = y -ℤ pos 1

abbrev pub next_at : Cells → ℤ → ℤ → Heading → Side
next_at p x y h = record { x = x; y = y; heading = turn (around p x y) h }

-- the side that starts where this one ends; where two do, the one to the right
abbrev pub next_side : Cells → Side → Side
next_side p s = next_at p (end_x s.x s.heading) (end_y s.y s.heading) s.heading

-- ---- the order of sides: by the y, then the x of their start, then east, north, west, south

abbrev pub rank_of : Heading → ℕ
rank_of East = 0
rank_of North = 1
rank_of West = 2
rank_of South = 3

abbrev pub heading_of : ℕ → Heading
heading_of zero = East
heading_of (suc zero) = North
heading_of (suc (suc zero)) = West
heading_of (suc (suc (suc n))) = South

-- how many sides start in the points of the box
abbrev pub side_count : Extent → ℕ
side_count b = (b.cols + 1) * (b.rows + 1) * 4

-- the k-th side in this order
abbrev pub side_at : Extent → ℕ → Side
side_at b k = record { x = b.x0 +ℤ pos (k / 4 % (b.cols + 1)); y = b.y0 +ℤ pos (k / 4 / (b.cols + 1)); heading = heading_of (k % 4) }

-- the number of a side in this order
abbrev pub number_of : Extent → Side → ℕ
number_of b s = (unsigned_abs (s.y -ℤ b.y0) * (b.cols + 1) + unsigned_abs (s.x -ℤ b.x0)) * 4 + rank_of s.heading

-- near enough to the origin for a step, and for the cells round the point
pub record IsCentral (x y : ℤ) : Type 0 where
  pub left : neg_ℤ (pos 90000) ≤ℤ x
  pub right : x ≤ℤ pos 90000
  pub bottom : neg_ℤ (pos 90000) ≤ℤ y
  pub top : y ≤ℤ pos 90000

-- the point is a corner of a cell of the box
pub record IsPoint (b : Extent) (x y : ℤ) : Type 0 where
  pub column : ℕ
  pub row : ℕ
  pub wide : column < b.cols + 1
  pub high : row < b.rows + 1
  pub x_is : x -ℤ b.x0 ≡ pos column
  pub y_is : y -ℤ b.y0 ≡ pos row

abbrev pub stands : Cells → ℕ → Bool
stands p k = nat_lt k (side_count p.bounds) && is_side p (side_at p.bounds k)

abbrev pub next_number : Cells → ℕ → ℕ
next_number p k = number_of p.bounds (next_side p (side_at p.bounds k))

-- the cycles of the boundary sides' numbers, each from its least, in the order of these
abbrev pub side_cycles : Cells → List (List ℕ)
side_cycles p = cycles_of (stands p) (next_number p) (side_count p.bounds)

-- ---- loops

-- the starts of the sides whose heading is not that of the side before
abbrev pub corners_after : Heading → List Side → List Corner
corners_after h [] = []
corners_after h (s ∷ ss) = if rank_of h == rank_of s.heading then corners_after s.heading ss else record { x = s.x; y = s.y } ∷ corners_after s.heading ss

-- a loop's corners, from the start of its first side
abbrev pub corners_of : List Side → List Corner
corners_of [] = []
corners_of (s ∷ ss) = record { x = s.x; y = s.y } ∷ corners_after s.heading ss

-- the loops of a plane: the cycles of its boundary sides, each from its least, in the order of these, as their corners
abbrev pub loops_of : Cells → List (List Corner)
loops_of p = map (λ ks. corners_of (map (side_at p.bounds) ks)) (side_cycles p)
