use Rattle.std.proofs.Common.{◌<◌, ◌/◌, ◌%◌, get_or, ap, ◌∙◌, arith}
use Rattle.pl_lanes.specs.Bits.{has_bit}
use Rattle.pl_lanes.proofs.BitLemmas.{has_bit-or}
use Rattle.pl_grid.proofs.words.put_bits.Goals as goal

pub returns : goal.returns
returns c x within =
    let word : x / 64 < c.loop-at.at = omega arith in
    ap (λ w. has_bit w (x % 64)) (c.loop-at.invariant.done (x / 64) word)
    ∙ has_bit-or (get_or c.args.words.now (x / 64) 0) (get_or c.args.other.now (x / 64) 0) (x % 64)
