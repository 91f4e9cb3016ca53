use Rattle.pl_model.proofs.Keeping.{others_keep}
use Rattle.pl_model.proofs.laws.edits_keep_other_meshes.Goals as goal

pub returns : goal.returns
returns c = others_keep
