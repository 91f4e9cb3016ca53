use Rattle.pl_stl.proofs.Once.{reads_text, reads_breach}
use Rattle.pl_stl.proofs.laws.mesh_texts_have_one_reading.Goals as goal

pub returns-clause-meshes : goal.returns-clause-meshes
returns-clause-meshes c = reads_text

pub returns-clause-breaches : goal.returns-clause-breaches
returns-clause-breaches c = reads_breach
