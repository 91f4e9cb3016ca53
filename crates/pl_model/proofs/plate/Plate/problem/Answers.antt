use Rattle.pl_model.proofs.Printing.{told_result}
use Rattle.pl_model.proofs.plate.Plate.problem.Goals as goal

pub returns-clause-told : goal.returns-clause-told
returns-clause-told c = told_result c.args.self.now c.reason.result c.reason.ensures
