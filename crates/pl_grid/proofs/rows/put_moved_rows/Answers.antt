use Rattle.std.proofs.Common.{◌*◌, take, drop, ap, ◌∙◌, arith}
use Rattle.pl_grid.specs.Packed.{is_moved}
use Rattle.pl_grid.proofs.RowParts.{widened_none, widened_more, widened_all}
use Rattle.pl_grid.proofs.rows.put_moved_rows.Goals as goal

pub loop-row-init : goal.loop-row-init
loop-row-init c = widened_none c.args.words.now c.args.out.now c.args.count c.args.rows c.args.by c.args.wide c.requires.room c.requires.none

pub loop-row-preserved : goal.loop-row-preserved
loop-row-preserved c = widened_more c.args.words.now c.loop-row.out c.put_moved_at.new.out c.args.count c.args.rows c.args.by c.args.wide c.loop-row.row c.loop-row.invariant (omega arith) c.put_moved_at.auto.out
    (λ i less. c.put_moved_at.ensures.inside i less ∙ ap (λ n. is_moved (take n (drop (c.loop-row.row * c.args.count) c.args.words.now)) c.args.by i) (omega arith))
    c.put_moved_at.ensures.before c.put_moved_at.ensures.after

pub returns : goal.returns
returns c = widened_all c.args.words.now c.loop-row.out c.args.count c.args.rows c.args.by c.args.wide c.loop-row.row c.loop-row.invariant (omega arith) c.requires.words
