-- The sides that may be the least of their loop.
use Rattle.std.specs.Prelude.{ℕ, Bool, false, ◌≡◌, ◌≤◌, ◌<◌, ◌+ℤ◌, pos, ◌&&◌, ◌||◌, not, nat_lt, if◌then◌else◌}
use Rattle.std.specs.declared.option.Option.{Option}
use Rattle.std.specs.declared.option.Option.TheVariants.{Some, None}
use Rattle.pl_grid.specs.Planes.{Cells}
use Rattle.pl_rings.specs.declared.side.Heading.{Heading}
use Rattle.pl_rings.specs.declared.side.Heading.TheVariants.{East, North, West, South}
use Rattle.pl_rings.specs.Headings.{Around}
use Rattle.pl_rings.specs.Sides.{around, side_at, side_count}

-- east of a filled cell alone at the point; north where the cell above and to the right alone, or it and that on the other side, is empty
abbrev pub is_start : Around → Heading → Bool
is_start a East = a.northeast && (not a.northwest && (not a.southwest && not a.southeast))
is_start a North = not a.northeast && (a.northwest && a.southeast)
is_start a West = false
is_start a South = false

-- the side with the number k is one
abbrev pub starts : Cells → ℕ → Bool
starts p k = nat_lt k (side_count p.bounds) && is_start (around p (side_at p.bounds k).x (side_at p.bounds k).y) (side_at p.bounds k).heading

-- the heading of the start at a point
abbrev pub start_heading : Around → Option Heading
start_heading a = if a.northeast then (if a.northwest || a.southwest || a.southeast then None else Some East) else if a.northwest && a.southeast then Some North else None

-- no point of a row has a start from one column up to another, counted from the corner of the box
abbrev pub HasNoStarts : Cells → ℕ → ℕ → ℕ → Type 0
HasNoStarts p row from to = (k : ℕ) → from ≤ k → k < to → None ≡ start_heading (around p (p.bounds.x0 +ℤ pos k) (p.bounds.y0 +ℤ pos row))
