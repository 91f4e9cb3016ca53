use Rattle.std.proofs.Common.{sym, ◌∙◌, length}
use Rattle.pl_grid.proofs.RowParts.{before_none}
use Rattle.pl_grid.proofs.rows.row_before.Goals as goal

pub returns-then-start-eq0-clause-bits : goal.returns-then-start-eq0-clause-bits
returns-then-start-eq0-clause-bits c k = c.requires.none k ∙ sym (before_none c.args.words.now (length c.args.none.now) c.args.start k c.if-start-eq0.true)
