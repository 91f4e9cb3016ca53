use Rattle.pl_lanes.proofs.SquareLemmas.{first_is}
use Rattle.pl_lanes.proofs.square.first_word.Goals as goal

pub returns : goal.returns
returns c j less = first_is c.args.first c.args.second c.args.by c.args.halves j c.requires less
