use Rattle.std.proofs.Common.{◌<◌, ◌∙◌, ap, sym, take, length, arith}
use Rattle.pl_grid.specs.Extent.{Extent}
use Rattle.pl_layers.proofs.Flipping.{inside_empty, inside_full, facet_step}
use Rattle.pl_layers.proofs.slices.slice_facets.Goals as goal

pub returns-then-bounds-eq0 : goal.returns-then-bounds-eq0
returns-then-bounds-eq0 c = c.in_ok-plane.ensures ∙ inside_empty c.args.bounds c.args.facets.now c.args.corner.now (sym (ap (λ (e : Extent). e.cols) c.bounds.view_is) ∙ c.if-bounds-eq0.true)

pub flip_facet-requires-clause-full : goal.flip_facet-requires-clause-full
flip_facet-requires-clause-full c = inside_full c.args.bounds (take c.loop-facet.facet-index c.args.facets.now) c.args.corner.now c.loop-facet.plane c.loop-facet.invariant

pub flip_facet-requires-clause-points : goal.flip_facet-requires-clause-points
flip_facet-requires-clause-points c = λ j inside. c.requires.points 0 j (omega (arith, c.if-bounds-eq0.false, ap (λ (e : Extent). e.cols) c.bounds.view_is)) inside

pub loop-facet-preserved : goal.loop-facet-preserved
loop-facet-preserved c =
    let less : c.loop-facet.facet-index < length c.args.facets.now = omega arith in
    facet_step c.args.bounds c.args.facets.now c.loop-facet.facet-index _ c.args.corner.now c.loop-facet.plane c.flip_facet.new.plane c.loop-facet.invariant c.flip_facet.ensures less
