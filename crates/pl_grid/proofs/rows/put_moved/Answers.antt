use Rattle.std.proofs.Common.{◌≡◌, ◌+◌, ◌*◌, ◌/◌, ◌%◌, ◌<◌, ap, ◌∙◌, arith}
use Rattle.pl_grid.specs.Packed.{is_moved}
use Rattle.pl_grid.proofs.rows.put_moved.Goals as goal

pub returns : goal.returns
returns c x within =
    let word : x / 64 < c.loop-at.at = omega arith in
    let whole : 64 * (x / 64) + x % 64 ≡ x = omega arith in
    c.loop-at.invariant (x / 64) word (x % 64) (omega arith) ∙ ap (λ n. is_moved c.args.row.now c.args.by n) whole
