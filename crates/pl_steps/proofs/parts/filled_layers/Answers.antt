use Rattle.std.proofs.Common.{arith}
use Rattle.pl_steps.specs.Layers.{infill_in, ironing_in}
use Rattle.pl_steps.proofs.Boxes.{inner_boxes}
use Rattle.pl_steps.proofs.Whole.{prepared_long, of_prepared}
use Rattle.pl_steps.proofs.parts.filled_layers.Goals as goal

pub prepare-requires-clause-boxes : goal.prepare-requires-clause-boxes
prepare-requires-clause-boxes c = inner_boxes c.args.options.now.perimeters c.args.slices.now _ c.in_ok-loops.ensures.inner c.requires.boxes

pub infill-requires-clause-few : goal.infill-requires-clause-few
infill-requires-clause-few c =
    let long = prepared_long c.args.options.now.perimeters c.args.options.now.top c.args.options.now.bottom c.args.slices.now c.in_ok-loops.field-0.inner c.in_ok-sets.sets c.in_ok-loops.ensures.inner c.in_ok-sets.ensures in
    omega (arith, long, c.requires.few)

pub ironing-requires : goal.ironing-requires
ironing-requires c =
    let long = prepared_long c.args.options.now.perimeters c.args.options.now.top c.args.options.now.bottom c.args.slices.now c.in_ok-loops.field-0.inner c.in_ok-sets.sets c.in_ok-loops.ensures.inner c.in_ok-sets.ensures in
    omega (arith, long, c.requires.few)

pub returns-clause-infill : goal.returns-clause-infill
returns-clause-infill c =
    of_prepared c.args.options.now.perimeters c.args.options.now.top c.args.options.now.bottom c.args.slices.now c.in_ok-loops.field-0.inner c.in_ok-sets.sets (infill_in c.args.options.now.density) c.in_ok-infill.infill
    c.in_ok-loops.ensures.inner c.in_ok-sets.ensures c.in_ok-infill.ensures

pub returns-clause-ironing : goal.returns-clause-ironing
returns-clause-ironing c =
    of_prepared c.args.options.now.perimeters c.args.options.now.top c.args.options.now.bottom c.args.slices.now c.in_ok-loops.field-0.inner c.in_ok-sets.sets (λ set k. ironing_in c.args.options.now.ironing set.top k) c.in_ok-ironing.ironing
    c.in_ok-loops.ensures.inner c.in_ok-sets.ensures c.in_ok-ironing.ensures
