use Rattle.pl_grid.proofs.RowParts.{AreWidened}
use Rattle.pl_grid.proofs.rows.put_moved_rows.Given as goal

abbrev pub invariant-loop-row : goal.invariant-loop-row
invariant-loop-row l = AreWidened l.words l.out l.count l.rows l.by l.wide l.row
