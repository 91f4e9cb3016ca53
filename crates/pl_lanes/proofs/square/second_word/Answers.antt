use Rattle.std.proofs.Common.{arith}
use Rattle.pl_lanes.proofs.SquareLemmas.{second_is}
use Rattle.pl_lanes.proofs.square.second_word.Goals as goal

pub returns : goal.returns
returns c j less = second_is c.args.first c.args.second c.args.by c.args.halves j (omega arith) less
