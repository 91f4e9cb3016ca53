use Rattle.std.proofs.Common.{◌≡◌, ◌+◌, ◌*◌, ◌<◌, ℕ, slice_index, length}
use Rattle.pl_grid.proofs.turn.put_strip_row.Given as goal

abbrev pub invariant-loop-word : goal.invariant-loop-word
invariant-loop-word l = record {
  len : length l.out.items ≡ length l.initial.out.items + l.word;
  before : (k : ℕ) → k < length l.initial.out.items → slice_index l.out.items k ≡ slice_index l.initial.out.items k;
  row : (w : ℕ) → w < l.word → slice_index l.out.items (length l.initial.out.items + w) ≡ slice_index l.strip (64 * w + l.at);
}
