use Rattle.pl_model.proofs.Kept.{change_made}
use Rattle.pl_model.proofs.plate.Plate.change.Goals as goal

pub returns : goal.returns
returns c = change_made _ c.args.self.now c.args.place _ _ _ _ _ c.in_ok-object.ensures.object c.in_ok-object.ensures.taken c.change-changed.ensures.change c.put.ensures
