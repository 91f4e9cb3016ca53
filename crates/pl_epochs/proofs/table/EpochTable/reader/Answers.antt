use Rattle.std.proofs.Common.{arith}
use Rattle.pl_epochs.proofs.Keeps.{splits_reader, same_table}
use Rattle.pl_epochs.proofs.table.EpochTable.reader.Goals as goal

pub split_seat-requires : goal.split_seat-requires
split_seat-requires c = let sized = c.args.self.now.sized in (same_table c.requires.table, omega arith, splits_reader _ _ c.args.seat.now.reads.0)
