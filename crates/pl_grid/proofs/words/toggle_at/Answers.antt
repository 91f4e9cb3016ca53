use Rattle.std.proofs.Common.{arith}
use Rattle.pl_grid.proofs.RowLemmas.{toggled_part, unchanged_before, unchanged_after}
use Rattle.pl_grid.proofs.words.toggle_at.Goals as goal

pub returns-clause-inside : goal.returns-clause-inside
returns-clause-inside c = toggled_part c.args.words.now c.toggle_below.new.row c.args.start c.args.count _ c.args.x (omega arith) c.requires c.toggle_below.auto.row c.toggle_below.ensures

pub returns-clause-before : goal.returns-clause-before
returns-clause-before c = unchanged_before c.args.words.now c.toggle_below.new.row c.args.start c.args.count _ c.requires

pub returns-clause-after : goal.returns-clause-after
returns-clause-after c = unchanged_after c.args.words.now c.toggle_below.new.row c.args.start c.args.count _ (omega arith) c.requires c.toggle_below.auto.row
