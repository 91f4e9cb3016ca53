use Rattle.pl_demo.proofs.Growing.{on_ok, three}
use Rattle.pl_demo.proofs.solid.put_box.Goals as goal

pub returns : goal.returns
returns c = on_ok c.append-2.result _ _ c.append-2.ensures.ok (λ last. three c.args.text.now c.append.new.self c.put_facets.new.text c.append-2.new.self _ _ _ c.in_ok-append.ensures.ok c.in_ok-put_facets.ensures last)
