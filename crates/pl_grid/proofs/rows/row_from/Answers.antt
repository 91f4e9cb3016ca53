use Rattle.std.proofs.Common.{sym, ◌∙◌, length, arith}
use Rattle.pl_grid.proofs.RowParts.{from_past}
use Rattle.pl_grid.proofs.rows.row_from.Goals as goal

pub returns-then-start-words-clause-bits : goal.returns-then-start-words-clause-bits
returns-then-start-words-clause-bits c k = c.requires.none k ∙ sym (from_past c.args.words.now (length c.args.none.now) c.args.start k (omega arith))
