use Rattle.std.proofs.Common.{rules, arith, ap, subst, ◌∙◌}
use Rattle.pl_turn.specs.Steps.{HasFound}
use Rattle.pl_turn.proofs.Drawing.{looks}
use Rattle.pl_turn.proofs.lock.TurnLock.wait.Goals as goal

pub load-served-requires : goal.load-served-requires
load-served-requires g c = let sized = c.args.self.now.sized in let same = c.loop.invariant.2 in (
  search rules,
  omega arith,
  looks _ _ _ _ _ _ _ c.args.ticket (ap (λ m. m.0.live) same ∙ c.requires.drawn.0) (ap (λ m. m.0.stage) same ∙ c.requires.drawn.1),
)

pub returns-then-served-ticket-clause-found : goal.returns-then-served-ticket-clause-found
returns-then-served-ticket-clause-found g c =
    let t = g.V.Turned in
    let same = c.loop.invariant.2 in
    let found = (c.load-served.ensures.2 c.args.ticket (ap (λ m. m.0.stage) same ∙ c.requires.drawn.1)).0 c.if-served-ticket.true in
    subst (λ m. HasFound t.history t.home t.caller c.args.ticket m c.load-served.new.seat.me) same found
