use Rattle.std.proofs.Common.{arith}
use Rattle.pl_grid.proofs.WordLemmas.{lowest_below, lowest_here}
use Rattle.pl_grid.proofs.words.lowest_bit.Goals as goal

pub returns-clause-below : goal.returns-clause-below
returns-clause-below c k less = lowest_below c.args.word (omega arith) k less

pub returns-clause-here : goal.returns-clause-here
returns-clause-here c less = lowest_here c.args.word (omega arith) less
