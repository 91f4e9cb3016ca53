use Rattle.std.proofs.Common.{◌≡◌, ◌+◌, ◌-◌, ◌<◌, ◌≤◌, ℕ}
use Rattle.pl_lanes.specs.Bits.{is_set}
use Rattle.pl_grid.proofs.words.alike_from.Given as goal

abbrev pub invariant-loop-count : goal.invariant-loop-count
invariant-loop-count l = record {
  some : 0 < l.count;
  most : l.count ≤ l.most;
  alike : (k : ℕ) → k < l.count → is_set l.words (l.at + k) ≡ is_set l.words l.at;
}

abbrev pub decreases-loop-count : goal.decreases-loop-count
decreases-loop-count l = l.most - l.count
