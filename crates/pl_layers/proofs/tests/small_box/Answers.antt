use Rattle.std.proofs.Common.{◌∷◌, [], List, length, length-append, ap, sym, subst, arith}
use Rattle.std.specs.List.{All}
use Rattle.std.proofs.lemmas.List.Elements.{All-append, All-cons}
use Rattle.pl_stl.specs.Mesh.{IsNearFacet}
use Rattle.pl_stl.specs.declared.mesh.Facet.{Facet}
use Rattle.pl_layers.proofs.tests.small_box.Goals as goal

pub loop-corners-preserved : goal.loop-corners-preserved
loop-corners-preserved c =
    let items = c.in_ok-push.ensures.items in
    let last : All IsNearFacet (c.facet.result ∷ []) = All-cons IsNearFacet c.facet.result [] c.facet.ensures (λ k d less. absurd (omega arith)) in
    (omega (arith, simp length-append at (ap length items), c.loop-corners.invariant.0), subst (λ (fs : List Facet). All IsNearFacet fs) (sym items) (All-append IsNearFacet c.loop-corners.facets.items (c.facet.result ∷ []) c.loop-corners.invariant.1 last))
