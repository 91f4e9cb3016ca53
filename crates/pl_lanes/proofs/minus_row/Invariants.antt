use Rattle.std.proofs.Common.{◌≡◌, ◌-◌, ◌<◌, ◌≤◌, ℕ, length, slice_index}
use Rattle.pl_lanes.specs.Bits.{minus_word}
use Rattle.pl_lanes.proofs.minus_row.Given as goal

abbrev pub invariant-loop-at : goal.invariant-loop-at
invariant-loop-at l = record {
  within : l.at ≤ length l.row;
  done : (k : ℕ) → k < l.at → slice_index l.out k ≡ minus_word (slice_index l.row k) (slice_index l.other k);
}

abbrev pub decreases-loop-at : goal.decreases-loop-at
decreases-loop-at l = length l.row - l.at

abbrev pub invariant-loop-at-2 : goal.invariant-loop-at-2
invariant-loop-at-2 l = record {
  within : l.at ≤ length l.row;
  done : (k : ℕ) → k < l.at → slice_index l.out k ≡ minus_word (slice_index l.row k) (slice_index l.other k);
}

abbrev pub decreases-loop-at-2 : goal.decreases-loop-at-2
decreases-loop-at-2 l = length l.row - l.at
