use Rattle.pl_layers.proofs.Across.{least_close, greatest_close, missed_before, missed_after}
use Rattle.pl_layers.proofs.rows.rows_across.Goals as goal

pub rows_below-requires-clause-y : goal.rows_below-requires-clause-y
rows_below-requires-clause-y c = least_close c.args.facet.now c.least_y.result.0 c.requires.facet c.least_y.ensures

pub rows_below-requires-2-clause-y : goal.rows_below-requires-2-clause-y
rows_below-requires-2-clause-y c = greatest_close c.args.facet.now c.greatest_y.result.0 c.requires.facet c.greatest_y.ensures

pub returns-clause-before : goal.returns-clause-before
returns-clause-before c = λ j inside below. missed_before c.args.corner.now c.args.facet.now c.least_y.result.0 c.rows_below.result c.args.most j c.least_y.ensures c.rows_below.ensures below

pub returns-clause-after : goal.returns-clause-after
returns-clause-after c = λ j inside from. missed_after c.args.corner.now c.args.facet.now c.greatest_y.result.0 c.rows_below-2.result c.args.most j c.greatest_y.ensures c.rows_below-2.ensures inside from
