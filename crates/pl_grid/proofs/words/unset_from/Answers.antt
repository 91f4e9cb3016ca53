use Rattle.std.proofs.Common.{sym, ◌∙◌, ◌<◌, ◌-◌, min, arith}
use Rattle.pl_grid.proofs.WordLemmas.{unset_some, has_bit-down}
use Rattle.pl_grid.proofs.words.unset_from.Goals as goal

pub returns-clause-some : goal.returns-clause-some
returns-clause-some c e =
    let some : 0 < min c.lowest_bit.result (64 - c.args.at) = unset_some c.args.word c.args.at c.lowest_bit.result c.requires e c.lowest_bit.ensures.here in
    omega arith

pub returns-clause-unset : goal.returns-clause-unset
returns-clause-unset c k less = sym (has_bit-down c.args.word c.args.at k) ∙ c.lowest_bit.ensures.below k (omega arith)
