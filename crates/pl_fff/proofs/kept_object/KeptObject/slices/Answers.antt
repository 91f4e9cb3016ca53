use Rattle.std.proofs.lemmas.Result.{IfOk-weaker}
use Rattle.pl_fff.proofs.ObjectResults.{slices_held, boxes_held}
use Rattle.pl_fff.proofs.kept_object.KeptObject.slices.Goals as goal

pub returns-clause-layers : goal.returns-clause-layers
returns-clause-layers c = IfOk-weaker c.result.result _ _ (slices_held c.args.self.now.config.now c.args.self.now.object.now) c.result.ensures

pub returns-clause-boxes : goal.returns-clause-boxes
returns-clause-boxes c = IfOk-weaker c.result.result _ _ (boxes_held c.args.self.now.config.now c.args.self.now.object.now) c.result.ensures
