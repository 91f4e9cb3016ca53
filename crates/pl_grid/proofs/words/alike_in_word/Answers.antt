use Rattle.std.proofs.Common.{arith}
use Rattle.pl_grid.proofs.RowLemmas.{alike_in_words}
use Rattle.pl_grid.proofs.words.alike_in_word.Goals as goal

pub returns-clause-alike : goal.returns-clause-alike
returns-clause-alike c k less = alike_in_words c.args.words.now c.args.at k c.bits_alike.result (omega arith) c.bits_alike.ensures.within c.bits_alike.ensures.alike
