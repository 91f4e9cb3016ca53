use Rattle.std.proofs.Common.{arith, ap, sym, subst, ◌∙◌}
use Rattle.pl_turn.specs.History.{FitsHistory}
use Rattle.pl_turn.proofs.Splitting.{splits_pass}
use Rattle.pl_turn.proofs.Drawing.{confirms}
use Rattle.pl_turn.proofs.lock.TurnLock.split.Goals as goal

pub split_seat-seat-requires : goal.split_seat-seat-requires
split_seat-seat-requires g c = let sized = c.args.self.now.sized in let idle = c.args.pass.now.idle in (
  c.requires.lock.0,
  omega arith,
  splits_pass _ _ _ _ c.args.pass.now.seat.id c.args.pass.now.seat.me.0 idle.0 c.requires.first idle.1,
)

pub load-requires : goal.load-requires
load-requires g c = let sized = c.args.self.now.sized in (
  c.split_seat-seat.ensures.3 ∙ c.requires.lock.0,
  omega arith,
  confirms _ _ _ _ _ _ _ (ap (λ m. m.0.live) c.split_seat-seat.ensures.4),
)

pub load-requires-2 : goal.load-requires-2
load-requires-2 g c = let sized = c.args.self.now.sized in (
  c.split_seat-seat.ensures.0 ∙ c.requires.lock.0,
  omega arith,
  confirms _ _ _ _ _ _ _ (ap (λ m. m.0.live) c.split_seat-seat.ensures.2 ∙ c.args.pass.now.idle.0),
)

pub returns-clause-first_fits : goal.returns-clause-first_fits
returns-clause-first_fits g c = let told = c.load-2.ensures.2 in subst (λ m. FitsHistory g.V.Turned.caller m.0 m.0.seen) (sym told.0) told.1
