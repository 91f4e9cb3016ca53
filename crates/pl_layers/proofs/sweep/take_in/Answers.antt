use Rattle.pl_layers.proofs.Sweeping.{take_step}
use Rattle.pl_layers.proofs.sweep.take_in.Goals as goal

pub loop-next-preserved : goal.loop-next-preserved
loop-next-preserved c = take_step c.args.quarter c.args.facets.now c.args.z.now.0 c.args.order.now c.loop-next.next c.loop-next.active.items c.put_unended.new.active.items c.turned_facet-facet.result _ _ c.requires.order c.loop-next-test.true c.loop-next.invariant.1 c.loop-next.invariant.2 c.turned_facet-facet.ensures.value c.turned_facet-facet.ensures.near c.in_ok-put_unended.ensures.items
