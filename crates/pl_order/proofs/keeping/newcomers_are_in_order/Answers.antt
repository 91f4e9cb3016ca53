use Rattle.pl_order.proofs.Others.{newcomer}
use Rattle.pl_order.proofs.keeping.newcomers_are_in_order.Goals as goal

pub returns : goal.returns
returns g c = λ commands actor seen legal ok none. newcomer g.T.Technology.meaning commands actor seen legal ok none
