-- Loops traced by runs of sides, and the search for them.
use Rattle.std.specs.Prelude.{ℕ, Bool, List, zero, suc, false, ◌≡◌, ◌<◌, ◌*◌, ◌==◌, length, map}
use Rattle.pl_grid.specs.Planes.{Cells}
use Rattle.pl_grid.specs.declared.stroke.Corner.{Corner}
use Rattle.pl_rings.specs.declared.side.Side.{Side}
use Rattle.pl_rings.specs.Cycles.{cycle_of, GoesRound}
use Rattle.pl_rings.specs.Search.{AreOpen, Closes, cycles_below, free_start}
use Rattle.pl_rings.specs.Sides.{side_at, side_count, next_side, next_number, rank_of, corners_of, stands}
use Rattle.pl_rings.specs.Starts.{starts}

-- the side j sides on
abbrev pub sides : Cells → ℕ → Side → Side
sides p zero s = s
sides p (suc j) s = next_side p (sides p j s)

-- from one corner to the next: some sides of one heading, and then one of another
pub record RunsTo (p : Cells) (s t : Side) : Type 0 where
  pub count : ℕ
  pub some : 0 < count
  pub straight : (j : ℕ) → j < count → (sides p j s).heading ≡ s.heading
  pub there : t ≡ sides p count s
  pub turned : (rank_of s.heading == rank_of t.heading) ≡ false

-- what the trace of a loop gives: its corners from the start on, and the starts on it closed
pub record LoopTraced (p : Cells) (start : ℕ) (old new : List Bool) (found : List Corner) : Type 0 where
  pub corners : found ≡ corners_of (map (side_at p.bounds) (cycle_of (next_number p) (side_count p.bounds) start))
  pub round : GoesRound (next_number p) start (side_count p.bounds) (cycle_of (next_number p) (side_count p.bounds) start)
  pub closes : Closes (next_number p) start (length (cycle_of (next_number p) (side_count p.bounds) start)) (free_start (starts p) old) (free_start (starts p) new)

-- the corners of the sides with these numbers
abbrev pub loop_of : Cells → List ℕ → List Corner
loop_of p ks = corners_of (map (side_at p.bounds) ks)

-- what holds before a place of the search: the loops from the starts at earlier places are found, and their starts closed
pub record LoopsBefore (p : Cells) (place : ℕ) (found : List (List Corner)) (marks : List Bool) : Type 0 where
  pub size : length marks * 4 ≡ side_count p.bounds
  pub loops : found ≡ map (loop_of p) (cycles_below (stands p) (next_number p) (side_count p.bounds) (place * 4))
  pub open_too : AreOpen (stands p) (starts p) (next_number p) (side_count p.bounds) (place * 4) (free_start (starts p) marks)
