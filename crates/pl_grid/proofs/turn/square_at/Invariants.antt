use Rattle.std.proofs.Common.{◌≡◌, ◌+◌, ◌*◌, ◌<◌, ℕ, slice_index, length}
use Rattle.pl_grid.proofs.turn.square_at.Given as goal

abbrev pub invariant-loop-row : goal.invariant-loop-row
invariant-loop-row l = record {
  room : length l.out ≡ 64;
  done : (k : ℕ) → k < l.row → slice_index l.out k ≡ slice_index l.words ((64 * l.square + k) * l.count + l.column);
}
