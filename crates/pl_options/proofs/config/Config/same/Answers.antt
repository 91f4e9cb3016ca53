use Rattle.pl_options.proofs.KeyMaps.{equal_or_alike}
use Rattle.pl_options.proofs.config.Config.same.Goals as goal

pub returns-clause-alike : goal.returns-clause-alike
returns-clause-alike c = rw (← c.self.view_is, ← c.other.view_is) (equal_or_alike _ _ _ c.same.ensures)
