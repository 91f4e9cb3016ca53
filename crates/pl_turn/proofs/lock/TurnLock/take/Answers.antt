use Rattle.std.proofs.Common.{sym, subst}
use Rattle.pl_turn.specs.Passes.{Fits}
use Rattle.pl_turn.proofs.lock.TurnLock.take.Goals as goal

pub returns-clause-fits : goal.returns-clause-fits
returns-clause-fits g c = let h = c.held-held.ensures in subst (λ x. Fits c.args.pass (g.V.Turned.history x)) (sym h.value) h.fits
