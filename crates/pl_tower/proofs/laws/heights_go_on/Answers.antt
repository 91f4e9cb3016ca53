use Rattle.pl_tower.proofs.HeightLemmas.{length_along, order_at, tool_after_height, along_below}
use Rattle.pl_tower.proofs.laws.heights_go_on.Goals as goal

pub returns-clause-count : goal.returns-clause-count
returns-clause-count c = length_along 0

pub returns-clause-order : goal.returns-clause-order
returns-clause-order c = order_at

pub returns-clause-after : goal.returns-clause-after
returns-clause-after c = tool_after_height

pub returns-clause-four : goal.returns-clause-four
returns-clause-four c = along_below 0
