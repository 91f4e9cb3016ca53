use Rattle.pl_demo.specs.Box.{facet_text, facets}
use Rattle.pl_demo.proofs.Growing.{parts_more}
use Rattle.pl_demo.proofs.solid.put_facets.Goals as goal

pub loop-corners-preserved : goal.loop-corners-preserved
loop-corners-preserved c =
    parts_more (facet_text c.args.size) facets c.args.text.now c.loop-corners.text c.put_facet.new.text c.loop-corners.corners-index _ c.loop-corners-test.true
    c.loop-corners.invariant c.in_ok-put_facet.ensures
