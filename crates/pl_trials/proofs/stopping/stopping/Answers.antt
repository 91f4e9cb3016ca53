use Rattle.std.proofs.Common.{rules}
use Rattle.pl_epochs.specs.Words.{table_of}
use Rattle.pl_trials.proofs.stopping.stopping.Goals as goal

pub ends-entries-requires : goal.ends-entries-requires
ends-entries-requires g c = c.into_parts-pass.ensures.lock c.in_ok-epochs.lock (table_of c.in_ok-epochs.epochs) (search rules)
