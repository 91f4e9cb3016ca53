use Rattle.std.proofs.Common.{◌≡◌, ◌++◌}
use Rattle.pl_tower.proofs.OrderLemmas.{others_below}
use Rattle.pl_tower.proofs.order.put_others.Given as goal

abbrev pub invariant-loop-tool : goal.invariant-loop-tool
invariant-loop-tool l = l.tools.items ≡ l.initial.tools.items ++ others_below l.current l.used l.tool
