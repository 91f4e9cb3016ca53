use Rattle.std.proofs.Common.{◌≡◌, ◌-◌, ◌<◌, ◌≤◌, ℕ, length, slice_index}
use Rattle.pl_lanes.specs.Bits.{dilated_word}
use Rattle.pl_lanes.proofs.dilate_row.Given as goal

abbrev pub invariant-loop-at : goal.invariant-loop-at
invariant-loop-at l = record {
  within : l.at ≤ length l.row;
  done : (k : ℕ) → k < l.at → slice_index l.out k ≡ dilated_word l.below l.row l.above k;
}

abbrev pub decreases-loop-at : goal.decreases-loop-at
decreases-loop-at l = length l.row - l.at
