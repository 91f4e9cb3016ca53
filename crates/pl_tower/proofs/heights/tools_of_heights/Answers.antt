use Rattle.std.proofs.Common.{arith}
use Rattle.pl_tower.proofs.HeightLemmas.{along_none, along_more, along_all}
use Rattle.pl_tower.proofs.heights.tools_of_heights.Goals as goal

pub loop-set-init : goal.loop-set-init
loop-set-init c = along_none c.args.used.now _ c.new-heights.ensures.items

pub loop-set-preserved : goal.loop-set-preserved
loop-set-preserved c = along_more c.args.used.now c.loop-set.heights.items c.push.new.self.items c.loop-set.current c.tool_after-current.result c.loop-set.set-index c.set-item.result c.in_ok-tools.tools c.loop-set.invariant (omega arith) c.set-item.is c.in_ok-tools.ensures c.tool_after-current.ensures c.in_ok-push.ensures.items

pub returns : goal.returns
returns c = along_all c.args.used.now c.loop-set.heights.items c.loop-set.current c.loop-set.set-index c.loop-set.invariant (omega arith)
