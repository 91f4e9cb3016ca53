use Rattle.std.specs.Bool.{one_answer}
use Rattle.pl_model.specs.Same.{same_plates}
use Rattle.pl_model.proofs.SamePlates.{same_plates-is}
use Rattle.pl_model.proofs.plate.Plate.same_but.Goals as goal

pub returns-clause-same : goal.returns-clause-same
returns-clause-same c = one_answer c.is_equal.result (same_plates c.args.self.now c.args.other.now) c.is_equal.ensures (same_plates-is c.args.self.now c.args.other.now)
