use Rattle.std.proofs.Common.{◌≡◌, ◌≤◌}
use Rattle.pl_epochs.specs.Words.{writes_at, count_of}
use Rattle.pl_epochs.proofs.tests.raise_ten.Given as goal

abbrev pub invariant-loop-times : goal.invariant-loop-times
invariant-loop-times l = (writes_at l.writer ≡ writes_at l.initial.writer) × (count_of l.writer l.slot ≤ l.times)
