use Rattle.std.proofs.Common.{◌+◌, ◌-◌, arith}
use Rattle.pl_grid.specs.Packed.{is_moved}
use Rattle.pl_grid.proofs.RowLemmas.{part_is, part_length, unchanged_before, unchanged_after}
use Rattle.pl_grid.proofs.rows.put_moved_at.Goals as goal

pub returns-clause-inside : goal.returns-clause-inside
returns-clause-inside c = part_is c.args.out.now c.put_moved.new.out c.args.start c.args.wide _ (is_moved c.args.row.now c.args.by) (omega arith) c.requires c.put_moved.auto.out (λ i less. c.put_moved.ensures i (omega (arith, part_length c.args.start c.args.wide (c.args.start + c.args.wide - c.args.start) c.args.out.now (omega arith) c.requires)))

pub returns-clause-before : goal.returns-clause-before
returns-clause-before c = unchanged_before c.args.out.now c.put_moved.new.out c.args.start c.args.wide _ c.requires

pub returns-clause-after : goal.returns-clause-after
returns-clause-after c = unchanged_after c.args.out.now c.put_moved.new.out c.args.start c.args.wide _ (omega arith) c.requires c.put_moved.auto.out
