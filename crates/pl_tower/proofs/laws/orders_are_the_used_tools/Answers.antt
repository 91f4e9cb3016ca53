use Rattle.pl_tower.proofs.OrderLemmas.{order_below}
use Rattle.pl_tower.proofs.LawLemmas.{stands_once, stands_first, others_ascend}
use Rattle.pl_tower.proofs.laws.orders_are_the_used_tools.Goals as goal

pub returns-clause-once : goal.returns-clause-once
returns-clause-once c = stands_once

pub returns-clause-first : goal.returns-clause-first
returns-clause-first c = stands_first

pub returns-clause-ascending : goal.returns-clause-ascending
returns-clause-ascending c = others_ascend

pub returns-clause-four : goal.returns-clause-four
returns-clause-four c = order_below
