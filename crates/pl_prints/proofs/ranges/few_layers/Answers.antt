use Rattle.std.proofs.Common.{subst}
use Rattle.pl_stl.specs.Mesh.{IsMesh}
use Rattle.pl_layers.specs.Heights.{AreHeights}
use Rattle.pl_model.specs.Problem.{heights_for}
use Rattle.pl_prints.proofs.FewLemmas.{few_layers}
use Rattle.pl_prints.proofs.ranges.few_layers.Goals as goal

pub returns : goal.returns
returns c =
    few_layers (heights_for c.args.config.now c.args.object.now) c.args.object.now.mesh (subst AreHeights c.heights_for-heights.ensures.heights c.heights_for-heights.ensures.fit) (subst IsMesh c.get.ensures c.facets-facets.ensures.mesh)
