use Rattle.std.proofs.Common.{◌*◌, length, arith, ◌&&◌}
use Rattle.std.specs.Prelude.{nat_lt}
use Rattle.pl_grid.specs.Packed.{comes_at}
use Rattle.pl_grid.proofs.RowParts.{next_row, rows_more}
use Rattle.pl_grid.proofs.rows.dilate_rows.Goals as goal

pub dilate_at-requires-clause-after : goal.dilate_at-requires-clause-after
dilate_at-requires-clause-after c = next_row c.loop-row.row c.args.rows (length c.args.none.now) (length c.args.words.now) (omega arith) c.requires.words

pub loop-row-preserved : goal.loop-row-preserved
loop-row-preserved c = rows_more (λ j i. nat_lt i c.args.cols && comes_at c.args.words.now (length c.args.none.now) (j * length c.args.none.now) i) c.loop-row.out c.dilate_at.new.out (length c.args.none.now) c.loop-row.row c.loop-row.invariant c.dilate_at.ensures.inside c.dilate_at.ensures.before
