use Rattle.pl_rings.proofs.RingLemmas.{erosions_more}
use Rattle.pl_rings.proofs.nested.rings.Goals as goal

pub loop-preserved : goal.loop-preserved
loop-preserved c = rw c.in_ok-push.ensures.items (erosions_more _ _ _ _ _ c.loop.invariant c.in_ok-next.ensures)
