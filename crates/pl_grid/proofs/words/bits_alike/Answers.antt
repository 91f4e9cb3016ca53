use Rattle.std.proofs.Common.{sym, ◌∙◌, arith}
use Rattle.pl_grid.proofs.WordLemmas.{alike_set, unset_after_set}
use Rattle.pl_grid.proofs.words.bits_alike.Goals as goal

pub returns-then-has_bit-clause-some : goal.returns-then-has_bit-clause-some
returns-then-has_bit-clause-some c = c.unset_from.ensures.some (unset_after_set c.args.word c.args.at (omega arith) c.requires (sym c.has_bit.ensures ∙ c.if-has_bit.true))

pub returns-then-has_bit-clause-alike : goal.returns-then-has_bit-clause-alike
returns-then-has_bit-clause-alike c k less = alike_set c.args.word c.args.at k (omega arith) (omega (arith, c.unset_from.ensures.within)) (sym c.has_bit.ensures ∙ c.if-has_bit.true) (c.unset_from.ensures.unset k less)
