use Rattle.std.proofs.Common.{◌+◌, ◌-◌, ◌/◌, ◌%◌, arith, ◌∙◌, ap, cond}
use Rattle.std.specs.Prelude.{nat_lt}
use Rattle.pl_lanes.specs.Bits.{has_bit, word_before}
use Rattle.pl_grid.proofs.RowParts.{moved_out, moved_is}
use Rattle.pl_grid.proofs.rows.moved_word.Goals as goal

pub returns-then-at-skipped : goal.returns-then-at-skipped
returns-then-at-skipped c k less = moved_out c.args.row.now c.args.by c.args.at k (omega arith) less

pub returns : goal.returns
returns c k less = moved_is c.args.row.now c.args.by c.args.at k c.moved_up.result (omega arith) less
    (c.moved_up.ensures k less
    ∙ ap (λ w. cond (nat_lt k (c.args.by % 64)) (has_bit w (64 - c.args.by % 64 + k)) (has_bit c.word_or_none.result (k - c.args.by % 64))) c.word_before.ensures
    ∙ ap (λ w. cond (nat_lt k (c.args.by % 64)) (has_bit (word_before c.args.row.now (c.args.at - c.args.by / 64)) (64 - c.args.by % 64 + k)) (has_bit w (k - c.args.by % 64))) c.word_or_none.ensures)
