use Rattle.std.proofs.lemmas.Result.{IfOk-weaker}
use Rattle.pl_fff.proofs.ObjectResults.{inner_held}
use Rattle.pl_fff.proofs.kept_object.KeptObject.perimeters.Goals as goal

pub returns-clause-layers : goal.returns-clause-layers
returns-clause-layers c = IfOk-weaker c.result.result _ _ (inner_held c.args.self.now.config.now c.args.self.now.object.now) c.result.ensures
