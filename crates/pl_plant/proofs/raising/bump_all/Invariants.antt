use Rattle.std.proofs.Common.{◌≡◌}
use Rattle.pl_epochs.specs.Words.{counts, writes_at}
use Rattle.pl_plant.proofs.Rises.{IsRaisedBelow}
use Rattle.pl_plant.proofs.raising.bump_all.Given as goal

abbrev pub invariant-loop-n : goal.invariant-loop-n
invariant-loop-n l = record {
  table : writes_at l.writer ≡ writes_at l.fn.writer;
  raised : IsRaisedBelow l.set l.n (counts l.fn.writer) (counts l.writer);
}
