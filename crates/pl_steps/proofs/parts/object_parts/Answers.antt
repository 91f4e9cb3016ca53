use Rattle.std.proofs.Common.{ap, ◌∙◌, arith, length}
use Rattle.pl_steps.proofs.Boxes.{slices_boxes, pairs_boxes}
use Rattle.pl_steps.proofs.Computed.{slices_computed, layers_computed, loops_computed, infill_computed, ironing_computed, support_computed, support_long}
use Rattle.pl_steps.proofs.parts.object_parts.Goals as goal

pub filled_layers-requires-clause-boxes : goal.filled_layers-requires-clause-boxes
filled_layers-requires-clause-boxes c = slices_boxes c.get.result.now c.args.object.now.quarter c.of-options.result.heights c.in_ok-slices.slices c.in_ok-slices.ensures.slices

pub support-requires : goal.support-requires
support-requires c = pairs_boxes c.in_ok-slices.slices (slices_boxes c.get.result.now c.args.object.now.quarter c.of-options.result.heights c.in_ok-slices.slices c.in_ok-slices.ensures.slices)

pub support_strokes-requires : goal.support_strokes-requires
support_strokes-requires c = omega (arith, support_long c.of-options.result c.in_ok-slices.slices c.in_ok-cells.cells c.in_ok-cells.ensures, c.in_ok-slices.ensures.few)

pub returns-clause-layers : goal.returns-clause-layers
returns-clause-layers c =
    let slices = slices_computed c.args.config.now c.args.object.now c.of-options.result c.of-options.ensures.options c.get.result.now c.in_ok-slices.slices c.get.ensures c.in_ok-slices.ensures.slices in
    ap length c.planes.ensures ∙ layers_computed c.args.config.now c.args.object.now c.of-options.result c.of-options.ensures.options c.in_ok-slices.slices slices

pub returns-clause-loops : goal.returns-clause-loops
returns-clause-loops c =
    let slices = slices_computed c.args.config.now c.args.object.now c.of-options.result c.of-options.ensures.options c.get.result.now c.in_ok-slices.slices c.get.ensures c.in_ok-slices.ensures.slices in
    loops_computed c.args.config.now c.args.object.now c.of-options.result c.of-options.ensures.options c.in_ok-slices.slices slices _ c.in_ok-loops.ensures.loops

pub returns-clause-infill : goal.returns-clause-infill
returns-clause-infill c =
    let slices = slices_computed c.args.config.now c.args.object.now c.of-options.result c.of-options.ensures.options c.get.result.now c.in_ok-slices.slices c.get.ensures c.in_ok-slices.ensures.slices in
    infill_computed c.args.config.now c.args.object.now c.of-options.result c.of-options.ensures.options c.in_ok-slices.slices slices _ c.in_ok-loops.ensures.infill

pub returns-clause-ironing : goal.returns-clause-ironing
returns-clause-ironing c =
    let slices = slices_computed c.args.config.now c.args.object.now c.of-options.result c.of-options.ensures.options c.get.result.now c.in_ok-slices.slices c.get.ensures c.in_ok-slices.ensures.slices in
    ironing_computed c.args.config.now c.args.object.now c.of-options.result c.of-options.ensures.options c.in_ok-slices.slices slices _ c.in_ok-loops.ensures.ironing

pub returns-clause-support : goal.returns-clause-support
returns-clause-support c =
    let slices = slices_computed c.args.config.now c.args.object.now c.of-options.result c.of-options.ensures.options c.get.result.now c.in_ok-slices.slices c.get.ensures c.in_ok-slices.ensures.slices in
    support_computed c.args.config.now c.args.object.now c.of-options.result c.of-options.ensures.options c.in_ok-slices.slices slices c.in_ok-cells.cells _ c.in_ok-cells.ensures c.in_ok-support.ensures
