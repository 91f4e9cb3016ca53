use Rattle.std.proofs.Common.{◌/◌, ◌%◌, ◌<◌, slice_index, arith, ap, ◌∙◌}
use Rattle.pl_lanes.specs.Bits.{has_bit}
use Rattle.pl_lanes.proofs.BitLemmas.{has_bit-minus}
use Rattle.pl_lanes.proofs.minus_row.Goals as goal

pub returns : goal.returns
returns c x within =
    let word : x / 64 < c.loop-at-2.at = omega (arith, c.loop-at-2-test.false) in
    ap (λ w. has_bit w (x % 64)) (c.loop-at-2.invariant.done (x / 64) word)
    ∙ has_bit-minus (slice_index c.args.row.now (x / 64)) (slice_index c.args.other.now (x / 64)) (x % 64) (omega (arith, c.type_inv.other (x / 64))) (omega arith)
