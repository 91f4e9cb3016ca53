use Rattle.std.proofs.Common.{◌+◌, ◌^◌, ◌<◌, ℕ, arith, sym, subst}
use Rattle.pl_epochs.specs.Words.{count_of}
use Rattle.pl_epochs.proofs.Keeps.{raises, same_table}
use Rattle.pl_epochs.proofs.table.EpochTable.bump.Goals as goal

pub fetch_add-requires : goal.fetch_add-requires
fetch_add-requires c = let sized = c.args.self.now.sized in let word = c.number-word.ensures in
    let room = c.requires.room in
    let below : count_of c.args.writer.now c.args.slot + 1 < 2 ^ 64 = omega arith in
    (same_table c.requires.table, omega arith, raises _ _ _ _ c.args.writer.now.writes.0 (subst (λ (i : ℕ). count_of c.args.writer.now i + 1 < 2 ^ 64) (sym word.value) below))
