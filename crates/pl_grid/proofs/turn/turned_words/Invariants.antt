use Rattle.std.proofs.Common.{◌≡◌, ◌≢◌, ◌+◌, ◌*◌, ◌/◌, ◌%◌, ◌<◌, ℕ, slice_index, length}
use Rattle.pl_lanes.specs.Bits.{has_bit}
use Rattle.pl_grid.specs.Turned.{IsStrip}
use Rattle.pl_grid.proofs.turn.turned_words.Given as goal

abbrev pub invariant-loop-column : goal.invariant-loop-column
invariant-loop-column l = record {
  len : length l.out.items ≡ l.column * l.wide;
  strip : l.column % 64 ≢ 0 → IsStrip l.words l.count l.wide (l.column / 64) l.strip.items;
  done : (i w b : ℕ) → i < l.column → w < l.wide → b < 64 → has_bit (slice_index l.out.items (i * l.wide + w)) b ≡ has_bit (slice_index l.words ((64 * w + b) * l.count + i / 64)) (i % 64);
}
