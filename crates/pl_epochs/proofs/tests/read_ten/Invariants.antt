use Rattle.std.proofs.Common.{◌≡◌}
use Rattle.pl_epochs.specs.Words.{reads_at}
use Rattle.pl_epochs.proofs.tests.read_ten.Given as goal

abbrev pub invariant-loop-times : goal.invariant-loop-times
invariant-loop-times l = reads_at l.reader ≡ reads_at l.initial.reader
