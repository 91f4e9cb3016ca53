use Rattle.std.proofs.Common.{◌≡◌, ◌-◌, ◌*◌, ◌<◌, ◌≤◌, ℕ, length, slice_index, min}
use Rattle.pl_lanes.specs.Bits.{toggled_word}
use Rattle.pl_lanes.proofs.toggle_below.Given as goal

abbrev pub invariant-loop-at : goal.invariant-loop-at
invariant-loop-at l = record {
  within : l.at ≤ length l.row;
  left : l.left ≡ l.x - 64 * l.at;
  done : (k : ℕ) → k < l.at → slice_index l.row k ≡ toggled_word (slice_index l.initial.row k) (min (l.x - 64 * k) 64);
  rest : (k : ℕ) → l.at ≤ k → slice_index l.row k ≡ slice_index l.initial.row k;
}

abbrev pub decreases-loop-at : goal.decreases-loop-at
decreases-loop-at l = length l.row - l.at
