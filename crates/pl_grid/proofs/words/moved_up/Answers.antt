use Rattle.std.proofs.Common.{arith}
use Rattle.pl_grid.proofs.WordLemmas.{has_bit-moved}
use Rattle.pl_grid.proofs.words.moved_up.Goals as goal

pub returns : goal.returns
returns c k less = has_bit-moved c.args.before c.args.word c.args.by k (omega arith) c.requires less
