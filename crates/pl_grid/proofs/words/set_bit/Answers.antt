use Rattle.pl_grid.proofs.RowLemmas.{set_in_words}
use Rattle.pl_grid.proofs.words.set_bit.Goals as goal

pub returns : goal.returns
returns c k = set_in_words c.args.words.now c.args.at c.args.value c.with_bit.result c.requires (λ i less. c.with_bit.ensures i less) k
