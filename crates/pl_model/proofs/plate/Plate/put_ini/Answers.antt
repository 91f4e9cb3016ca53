use Rattle.std.proofs.Common.{refl}
use Rattle.pl_model.proofs.Kept.{configured_made}
use Rattle.pl_model.proofs.plate.Plate.put_ini.Goals as goal

pub returns : goal.returns
returns c = rw (← c.self.view_is) (configured_made _ _ c.args.block.now _ _ _ c.in_ok-set.ensures c.put_all.ensures refl c.taken-taken.ensures c.passed-passed.ensures)
