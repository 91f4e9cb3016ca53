use Rattle.std.proofs.Common.{◌≡◌, rules, length, ap, arith}
use Rattle.pl_layers.specs.Slices.{slice_of}
use Rattle.pl_steps.specs.Layers.{each}
use Rattle.pl_batches.proofs.Lists.{length_each}
use Rattle.pl_batches.proofs.slicing.slice_batches.Goals as goal

pub returns-in-Done-clause-few : goal.returns-in-Done-clause-few
returns-in-Done-clause-few g c =
    let layer = slice_of c.args.mesh.now c.args.quarter c.args.heights in
    let slices : c.in-Done.made.slices.items ≡ each c.layer_count-layers.result layer = search rules in
    omega (arith, ap length c.of-in-Done.ensures, length_each c.layer_count-layers.result layer c.in-Done.made.slices.items slices, c.layer_count-layers.ensures.few)
