use Rattle.std.proofs.Common.{◌<◌, length, arith, refl}
use Rattle.pl_layers.proofs.Sweeping.{starts_more, counted_more}
use Rattle.pl_layers.proofs.sweep.starts_of.Goals as goal

pub loop-i-preserved : goal.loop-i-preserved
loop-i-preserved c =
    let less : c.loop-i.i < length c.args.facets.now = omega arith in (
      starts_more c.args.quarter c.args.facets.now c.args.heights c.args.floor.now.0 c.loop-i.i c.first_layer-first.result _ _ c.turned_facet.result _ c.loop-i.invariant.0 less c.turned_facet.ensures.value c.first_layer-first.ensures c.in_ok-push.ensures.items,
      counted_more c.args.quarter c.args.facets.now c.loop-i.i _ _ _ c.loop-i.invariant.1 less refl c.in_ok-push.ensures.items,
    )
