use Rattle.std.proofs.Common.{length, ◌∙◌, ◌&&◌, ap, arith}
use Rattle.std.specs.Prelude.{nat_lt}
use Rattle.pl_grid.specs.Packed.{comes_at}
use Rattle.pl_grid.proofs.RowLemmas.{part_is, unchanged_before}
use Rattle.pl_grid.proofs.RowParts.{comes_same}
use Rattle.pl_grid.proofs.rows.dilate_at.Goals as goal

pub returns-clause-inside : goal.returns-clause-inside
returns-clause-inside c = part_is c.args.out.now c.dilate_columns.new.out c.args.start (length c.args.none.now) _ (λ i. nat_lt i c.args.cols && comes_at c.args.words.now (length c.args.none.now) c.args.start i) (omega arith) (omega arith) c.dilate_columns.auto.out
    (λ i less. c.dilate_columns.ensures i (omega arith) ∙ ap (λ b. nat_lt i c.args.cols && b) (comes_same _ _ _ _ _ _ c.row_before-below.ensures.bits c.row_from-row.ensures.bits c.row_from-above.ensures.bits i))

pub returns-clause-before : goal.returns-clause-before
returns-clause-before c = unchanged_before c.args.out.now c.dilate_columns.new.out c.args.start (length c.args.none.now) _ (omega arith)
