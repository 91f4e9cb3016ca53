use Rattle.std.proofs.Common.{◌≡◌, ◌∙◌, arith, ap, sym}
use Rattle.std.proofs.lemmas.Int.{ints}
use Rattle.pl_layers.specs.Heights.{layers_of}
use Rattle.pl_layers.specs.Turned.{reach}
use Rattle.pl_stl.specs.Coordinates.{part_z}
use Rattle.pl_layers.proofs.Samples.{layers_of_is, exact_at}
use Rattle.pl_layers.proofs.Points.{reach_is}
use Rattle.pl_layers.proofs.heights.layer_count.Goals as goal

pub returns-clause-count : goal.returns-clause-count
returns-clause-count c =
    let tall : c.reach-tall.result ≡ reach part_z c.args.mesh.now = c.reach-tall.ensures.value ∙ reach_is c.span.result part_z c.args.mesh.now c.span.ensures in
    sym (layers_of_is c.args.heights c.size_of.result c.size_of-2.result c.reach-tall.result c.layers_below.result c.size_of.ensures c.size_of-2.ensures (omega (arith, ints, c.requires.low, c.size_of-2.ensures)) c.layers_below.ensures.exact) ∙ ap (layers_of c.args.heights) tall

pub returns-clause-exact : goal.returns-clause-exact
returns-clause-exact c =
    let tall : c.reach-tall.result ≡ reach part_z c.args.mesh.now = c.reach-tall.ensures.value ∙ reach_is c.span.result part_z c.args.mesh.now c.span.ensures in
    λ k. rw (← tall) (exact_at c.args.heights c.size_of.result c.size_of-2.result c.reach-tall.result k c.layers_below.result c.size_of.ensures c.size_of-2.ensures (c.layers_below.ensures.exact k))
