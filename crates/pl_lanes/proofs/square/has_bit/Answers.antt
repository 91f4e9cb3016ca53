use Rattle.std.proofs.Common.{◌==◌, ap}
use Rattle.std.proofs.lemmas.Nat.Bits.{shr_and_one}
use Rattle.pl_lanes.specs.Bits.{has_bit}
use Rattle.pl_lanes.proofs.square.has_bit.Goals as goal

pub returns : goal.returns
unfolding has_bit
returns c = ap (λ n. n == 1) (shr_and_one c.args.word c.args.at)
