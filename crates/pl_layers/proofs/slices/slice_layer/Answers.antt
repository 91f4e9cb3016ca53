use Rattle.std.proofs.Common.{◌≡◌, ◌∙◌, subst, IfOk}
use Rattle.pl_grid.specs.Planes.{Cells}
use Rattle.pl_layers.proofs.Points.{points_are, spanning_close, slice_is}
use Rattle.pl_layers.proofs.slices.slice_layer.Goals as goal

pub slice_facets-requires-clause-corner : goal.slice_facets-requires-clause-corner
slice_facets-requires-clause-corner c = (points_are c.args.heights c.args.mesh.now c.args.quarter c.args.k c.place-bounds.result.1 c.place-bounds.result.0 c.facets-facets.ensures.mesh c.requires.heights c.requires.k c.place-bounds.ensures.corner c.place-bounds.ensures.bounds).first

pub slice_facets-requires-clause-points : goal.slice_facets-requires-clause-points
slice_facets-requires-clause-points c = (points_are c.args.heights c.args.mesh.now c.args.quarter c.args.k c.place-bounds.result.1 c.place-bounds.result.0 c.facets-facets.ensures.mesh c.requires.heights c.requires.k c.place-bounds.ensures.corner c.place-bounds.ensures.bounds).points

pub slice_facets-requires-clause-facets : goal.slice_facets-requires-clause-facets
slice_facets-requires-clause-facets c = spanning_close c.args.quarter c.facets-facets.result.now c.args.mesh.now c.deref.result.now c.place-bounds.result.1.z.0 c.facets-facets.ensures.facets c.facets-facets.ensures.mesh (c.deref.ensures.value ∙ c.in_ok-spanning.ensures)

pub returns : goal.returns
returns c =
    let same = slice_is c.args.heights c.facets-facets.result.now c.args.mesh.now c.deref.result.now c.args.quarter c.args.k c.place-bounds.result.1 c.place-bounds.result.0 c.facets-facets.ensures.facets c.place-bounds.ensures.corner c.place-bounds.ensures.bounds (c.deref.ensures.value ∙ c.in_ok-spanning.ensures) in
    subst (λ (s : Cells). IfOk c.slice_facets.result (λ p. p ≡ s)) same c.slice_facets.ensures
