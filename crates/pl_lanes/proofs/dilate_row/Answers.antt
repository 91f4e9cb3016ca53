use Rattle.std.proofs.Common.{◌/◌, ◌%◌, ◌<◌, arith, ap, ◌∙◌}
use Rattle.pl_lanes.specs.Bits.{has_bit}
use Rattle.pl_lanes.proofs.BitLemmas.{comes_is}
use Rattle.pl_lanes.proofs.dilate_row.Goals as goal

pub returns : goal.returns
returns c x within =
    let word : x / 64 < c.loop-at.at = omega (arith, c.loop-at-test.false) in
    ap (λ w. has_bit w (x % 64)) (c.loop-at.invariant.done (x / 64) word)
    ∙ comes_is c.args.below.now c.args.row.now c.args.above.now x (λ j. omega (arith, c.type_inv.row j))
