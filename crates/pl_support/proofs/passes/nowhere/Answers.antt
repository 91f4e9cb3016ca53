use Rattle.std.proofs.Common.{false}
use Rattle.pl_support.specs.Support.{support_at}
use Rattle.pl_support.proofs.SupportLemmas.{layers_more}
use Rattle.pl_support.proofs.passes.nowhere.Goals as goal

pub loop-k-preserved : goal.loop-k-preserved
loop-k-preserved c = layers_more (support_at false false c.args.slices.now) c.loop-k.k c.loop-k.planes.items _ c.in_ok-no_cells.field-0 c.loop-k.invariant c.in_ok-no_cells.ensures c.in_ok-push.ensures.items
