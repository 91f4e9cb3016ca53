use Rattle.std.proofs.Common.{arith}
use Rattle.pl_support.proofs.SupportLemmas.{carried_more}
use Rattle.pl_support.proofs.passes.below_overhangs.Goals as goal

pub loop-k-preserved : goal.loop-k-preserved
loop-k-preserved c = carried_more c.args.slices.now c.loop-k.k c.loop-k.found.items _ c.loop-k.carried c.in_ok-next.next c.loop-k.invariant (omega arith) c.in_ok-next.ensures c.in_ok-push.ensures.items
