use Rattle.std.specs.Coded.{coded_list}
use Rattle.pl_stl.specs.contracts.mesh.Facet.{the_row as facet_row}
use Rattle.pl_cascade.proofs.Codes.{differ_told}
use Rattle.pl_cascade.proofs.direct.meshes_differ.Goals as goal

pub returns : goal.returns
returns c = differ_told (coded_list facet_row.coded) c.args.object.now.mesh c.args.changed.now.mesh c.same_mesh-same.result c.same_mesh-same.ensures.0 c.same_mesh-same.ensures.1
