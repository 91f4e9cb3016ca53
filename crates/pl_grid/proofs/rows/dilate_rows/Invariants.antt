use Rattle.std.proofs.Common.{◌≡◌, ◌+◌, ◌*◌, ◌<◌, ℕ, length, ◌&&◌}
use Rattle.std.specs.Prelude.{nat_lt}
use Rattle.pl_grid.specs.Packed.{comes_at}
use Rattle.pl_lanes.specs.Bits.{is_set}
use Rattle.pl_grid.proofs.rows.dilate_rows.Given as goal

abbrev pub invariant-loop-row : goal.invariant-loop-row
invariant-loop-row l = (j i : ℕ) → j < l.row → i < 64 * length l.none → is_set l.out (64 * (j * length l.none) + i) ≡ (nat_lt i l.cols && comes_at l.words (length l.none) (j * length l.none) i)
