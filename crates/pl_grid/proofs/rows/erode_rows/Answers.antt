use Rattle.std.proofs.Common.{◌*◌, length, arith}
use Rattle.pl_grid.specs.Packed.{stays_at}
use Rattle.pl_grid.proofs.RowParts.{next_row, rows_more}
use Rattle.pl_grid.proofs.rows.erode_rows.Goals as goal

pub erode_at-requires-clause-after : goal.erode_at-requires-clause-after
erode_at-requires-clause-after c = next_row c.loop-row.row c.args.rows (length c.args.none.now) (length c.args.words.now) (omega arith) c.requires.words

pub loop-row-preserved : goal.loop-row-preserved
loop-row-preserved c = rows_more (λ j i. stays_at c.args.words.now (length c.args.none.now) (j * length c.args.none.now) i) c.loop-row.out c.erode_at.new.out (length c.args.none.now) c.loop-row.row c.loop-row.invariant c.erode_at.ensures.inside c.erode_at.ensures.before
