use Rattle.std.proofs.Common.{◌≡◌, Some, subst}
use Rattle.pl_turn.proofs.Closing.{closes, Leaves, home_is}
use Rattle.pl_turn.proofs.lock.TurnLock.close.Given.{Over}
use Rattle.pl_turn.proofs.lock.TurnLock.close.Goals as goal
use Rattle.pl_turn.proofs.lock.TurnLock.close.Goals.{After-free}

-- what the pass and the last state say of the value in the slot
value_left : (g : Over) (c : After-free g) → (x : g.row.V.Denot) × (c.take-slot.result ≡ Some x) × Leaves g.V.Turned.history g.V.Turned.home g.V.Turned.caller (g.V.Turned.home c.args.self.board.shared.key.value) c.args.pass.seat.me.0 x
value_left g c = let t = g.V.Turned in let idle = c.args.pass.idle in
    closes t.history t.home t.caller _ c.args.pass.seat.id c.args.pass.seat.me.0 _ _ _ idle.0 c.requires.first idle.1 c.requires.all c.close_with-closed.ensures.values.2 c.take-slot.ensures.value

pub unreachable-requires : goal.unreachable-requires
unreachable-requires g c = let h = value_left g (goal.at.unreachable-requires g c).After-free in let is = c.in_default.is in let e = h.1 in cc

pub returns : goal.returns
returns g c = let h = value_left g (goal.at.returns g c).After-free in let is = c.in-Some.is in let e = h.1 in let same : h.0 ≡ c.in-Some.value = cc in
    let L = Leaves g.V.Turned.history g.V.Turned.home g.V.Turned.caller (g.V.Turned.home c.args.self.board.shared.key.value) c.args.pass.seat.me.0 in
    let k = subst L same h.2 in record { fits = k.fits; makers = k.makers; home = home_is _ _ _ k.there_is c.requires.lock.1 }
