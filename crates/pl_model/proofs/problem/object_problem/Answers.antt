use Rattle.std.proofs.Common.{ap, ◌∙◌}
use Rattle.pl_layers.specs.Turned.{box_of}
use Rattle.pl_layers.specs.Heights.{layer_count_of}
use Rattle.pl_model.specs.Problem.{outside}
use Rattle.pl_model.proofs.Problems.{problem_computed}
use Rattle.pl_model.proofs.problem.object_problem.Goals as goal

pub returns : goal.returns
returns c =
    c.problem_by.ensures
    ∙ problem_computed c.args.config.now c.args.place c.args.object.now _ c.heights_for-heights.result _ _ _ (c.cells-bounds.ensures ∙ ap (box_of c.args.object.now.quarter) c.get-mesh.ensures) c.heights_for-heights.ensures.heights
    (c.layer_count-layers.ensures.count ∙ ap (layer_count_of c.heights_for-heights.result) c.get-mesh.ensures)
    (c.outside-first.ensures.first ∙ ap (outside c.cells-bounds.result) c.shifts-instances.ensures.shifts) c.has_few_cells-few.ensures
