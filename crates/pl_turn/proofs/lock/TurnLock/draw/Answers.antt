use Rattle.std.proofs.Common.{rules, arith, ap, refl, ◌∙◌}
use Rattle.pl_turn.proofs.Drawing.{draws}
use Rattle.pl_turn.proofs.lock.TurnLock.draw.Goals as goal

pub compare_exchange-found-requires : goal.compare_exchange-found-requires
compare_exchange-found-requires g c = let sized = c.args.self.now.sized in let same = c.loop.invariant.2 in (
  search rules,
  omega arith,
  draws _ _ _ _ _ _ _ _ _ (ap (λ m. m.0.live) same ∙ c.requires.idle.0) (ap (λ m. m.0.stage) same ∙ c.requires.idle.1) refl,
)
