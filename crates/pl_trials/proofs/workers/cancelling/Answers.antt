use Rattle.std.proofs.Common.{rules}
use Rattle.pl_epochs.specs.Words.{table_of}
use Rattle.pl_trials.proofs.workers.cancelling.Goals as goal

pub counted-entries-requires : goal.counted-entries-requires
counted-entries-requires g c = c.into_parts-pass.ensures.lock c.in_ok-epochs.lock (table_of c.in_ok-epochs.epochs) (search rules)
