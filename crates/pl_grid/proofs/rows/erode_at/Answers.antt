use Rattle.std.proofs.Common.{length, ◌∙◌, arith}
use Rattle.pl_grid.specs.Packed.{stays_at}
use Rattle.pl_grid.proofs.RowLemmas.{part_is, unchanged_before}
use Rattle.pl_grid.proofs.RowParts.{stays_same}
use Rattle.pl_grid.proofs.rows.erode_at.Goals as goal

pub returns-clause-inside : goal.returns-clause-inside
returns-clause-inside c = part_is c.args.out.now c.erode_row.new.out c.args.start (length c.args.none.now) _ (stays_at c.args.words.now (length c.args.none.now) c.args.start) (omega arith) (omega arith) c.erode_row.auto.out
    (λ i less. c.erode_row.ensures i (omega arith) ∙ stays_same _ _ _ _ _ _ c.row_before-below.ensures.bits c.row_from-row.ensures.bits c.row_from-above.ensures.bits i)

pub returns-clause-before : goal.returns-clause-before
returns-clause-before c = unchanged_before c.args.out.now c.erode_row.new.out c.args.start (length c.args.none.now) _ (omega arith)
