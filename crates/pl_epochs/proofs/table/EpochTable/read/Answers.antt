use Rattle.std.proofs.Common.{arith}
use Rattle.pl_epochs.proofs.Keeps.{loads, same_table}
use Rattle.pl_epochs.proofs.table.EpochTable.read.Goals as goal

pub load-requires : goal.load-requires
load-requires c = let sized = c.args.self.now.sized in let word = c.number-word.ensures.in_range in (same_table c.requires.table, omega arith, loads _ _ _ _ c.args.reader.now.reads.0)
