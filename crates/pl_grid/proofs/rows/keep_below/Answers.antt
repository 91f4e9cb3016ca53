use Rattle.pl_grid.proofs.RowParts.{kept_in_words}
use Rattle.pl_grid.proofs.rows.keep_below.Goals as goal

pub returns-then-count-gt0 : goal.returns-then-count-gt0
returns-then-count-gt0 c k less = kept_in_words c.args.row.now c.args.cols k c.requires.few c.requires.room c.if-count-gt0.true less
