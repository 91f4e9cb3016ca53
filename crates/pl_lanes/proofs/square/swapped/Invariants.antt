use Rattle.std.proofs.Common.{◌≡◌, ◌<◌, ℕ, length, slice_index}
use Rattle.pl_lanes.specs.Bits.{has_bit}
use Rattle.pl_lanes.specs.Squares.{swapped_word, swapped_bit}
use Rattle.pl_lanes.proofs.square.swapped.Given as goal

abbrev pub invariant-loop-at : goal.invariant-loop-at
invariant-loop-at l = record {
  room : length l.out ≡ 64;
  done : (i j : ℕ) → i < l.at → j < 64 → has_bit (slice_index l.out i) j ≡ has_bit (slice_index l.square (swapped_word l.by l.halves i j)) (swapped_bit l.by l.halves i j);
}
