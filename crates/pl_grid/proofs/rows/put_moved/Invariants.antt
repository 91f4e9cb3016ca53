use Rattle.std.proofs.Common.{◌≡◌, ◌+◌, ◌*◌, ◌<◌, ℕ, get_or}
use Rattle.pl_grid.specs.Packed.{is_moved}
use Rattle.pl_lanes.specs.Bits.{has_bit}
use Rattle.pl_grid.proofs.rows.put_moved.Given as goal

abbrev pub invariant-loop-at : goal.invariant-loop-at
invariant-loop-at l = (j : ℕ) → j < l.at → (k : ℕ) → k < 64 → has_bit (get_or l.out j 0) k ≡ is_moved l.row l.by (64 * j + k)
