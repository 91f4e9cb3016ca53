use Rattle.pl_grid.proofs.WordLemmas.{has_bit-set, has_bit-cleared}
use Rattle.pl_grid.proofs.words.with_bit.Goals as goal

pub returns-then-value : goal.returns-then-value
returns-then-value c k less = has_bit-set c.args.word c.args.at c.args.value c.requires c.if-value.true k

pub returns-else-value : goal.returns-else-value
returns-else-value c k less = has_bit-cleared c.args.word c.args.at c.args.value c.requires c.if-value.false k less
