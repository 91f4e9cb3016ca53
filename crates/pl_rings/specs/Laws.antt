-- What holds of the boundary sides of a plane.
use Rattle.std.specs.Prelude.{◌≡◌, ◌==◌, true}
use Rattle.std.specs.List.{All, count_by, flat_map}
use Rattle.pl_grid.specs.Planes.{Cells}
use Rattle.pl_rings.specs.declared.side.Side.{Side}
use Rattle.pl_rings.specs.Sides.{is_side, next_side, number_of, side_at, side_cycles}

-- the step to the following side takes the boundary sides to boundary sides, no two to one, and comes to each
pub record NextPermutes (p : Cells) : Type 0 where
  pub stays : (s : Side) → is_side p s ≡ true → is_side p (next_side p s) ≡ true
  pub apart : (s t : Side) → is_side p s ≡ true → is_side p t ≡ true → next_side p s ≡ next_side p t → s ≡ t
  pub reached : (t : Side) → is_side p t ≡ true → (s : Side) × (is_side p s ≡ true) × (next_side p s ≡ t)

-- the cycles have each boundary side once, by its number, and no other number
pub record CyclesPartition (p : Cells) : Type 0 where
  pub numbered : (s : Side) → is_side p s ≡ true → side_at p.bounds (number_of p.bounds s) ≡ s
  pub once : (s : Side) → is_side p s ≡ true → count_by (λ k. k == number_of p.bounds s) (flat_map (λ ks. ks) (side_cycles p)) ≡ 1
  pub only : All (All (λ k. is_side p (side_at p.bounds k) ≡ true)) (side_cycles p)
