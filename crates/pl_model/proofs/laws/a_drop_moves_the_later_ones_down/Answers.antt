use Rattle.pl_model.proofs.Lists.{removed_earlier, removed_later}
use Rattle.pl_model.proofs.laws.a_drop_moves_the_later_ones_down.Goals as goal

pub returns-clause-earlier : goal.returns-clause-earlier
returns-clause-earlier c = removed_earlier

pub returns-clause-later : goal.returns-clause-later
returns-clause-later c = removed_later
