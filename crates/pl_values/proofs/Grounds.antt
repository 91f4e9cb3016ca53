-- The ground, one instance after another.
use Rattle.std.proofs.Common.{◌≡◌, ℤ, pos, ◌-ℤ◌, ◌+ℤ◌, ◌||◌, Bool, ap}
use Rattle.pl_grid.specs.Extent.{Extent}
use Rattle.pl_grid.specs.Planes.{Cells, filled, plane_of}
use Rattle.pl_grid.proofs.PlaneLemmas.{filled_in, same_tests}
use Rattle.pl_adhesion.specs.Bed.{bed_with}

-- a plane of a test with another plane put on it is the plane of one more case
pub bed_with-plane_of : (b : Extent) (test : ℤ → ℤ → Bool) (cells : Cells) (dx dy : ℤ) → bed_with (plane_of b test) cells dx dy ≡ plane_of b (λ x y. test x y || filled cells (x -ℤ dx) (y -ℤ dy))
bed_with-plane_of b test cells dx dy =
    same_tests b (λ x y. filled (plane_of b test) x y || filled cells (x -ℤ dx) (y -ℤ dy)) (λ x y. test x y || filled cells (x -ℤ dx) (y -ℤ dy)) (λ i j wide high.
    ap (λ here. here || filled cells (b.x0 +ℤ pos i -ℤ dx) (b.y0 +ℤ pos j -ℤ dy)) (filled_in b test i j wide high))
