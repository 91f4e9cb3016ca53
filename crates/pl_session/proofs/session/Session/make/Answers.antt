use Rattle.std.proofs.Common.{◌<◌, sym, subst}
use Rattle.std.proofs.lemmas.Result.{on_ok_weaker}
use Rattle.pl_machine.specs.Startable.{IsLeast}
use Rattle.pl_session.specs.UnderWay.{undone_in}
use Rattle.pl_session.proofs.Free.{may_start}
use Rattle.pl_session.proofs.Ways.{on_ok_three, way_kept, free_of, way_made, fewer}
use Rattle.pl_session.proofs.session.Session.make.Goals as goal

pub unreachable-requires : goal.unreachable-requires
unreachable-requires g c =
    let m = g.T.Technology.meaning in
    let way = way_kept m _ c.args.self.now.made c.args.self.now.plant c.reserve.new.self _ c.in_ok-reserve.ensures.state c.in_ok-reserve.ensures.journal c.requires.way in
    let least = subst (λ st. IsLeast m st c.args.slot) (sym c.in_ok-reserve.ensures.state) c.requires.least in
    (rw c.in-NotReady.is at c.in_ok-ticket.ensures.starts) (may_start m c.reserve.new.self.state c.args.slot c.args.self.now.made (free_of m _ _ _ _ way) least.can)

pub returns-clause-way : goal.returns-clause-way
returns-clause-way g c =
    let m = g.T.Technology.meaning in
    let way = way_kept m _ c.args.self.now.made c.args.self.now.plant c.reserve.new.self _ c.in_ok-reserve.ensures.state c.in_ok-reserve.ensures.journal c.requires.way in
    let least = subst (λ st. IsLeast m st c.args.slot) (sym c.in_ok-reserve.ensures.state) c.requires.least in
    let ticket = rw c.in-Go.is at c.in_ok-ticket.ensures.ticket in
    rw (c.finish.ensures.commands, c.finish.ensures.made)
    (on_ok_three c.finish.result
    (λ state journal counted. way_made m _ g.met.T.Technology.laws c.args.self.now.made c.reserve.new.self c.start.new.self c.finish.new.self.plant _ _ c.args.slot c.in-Go.ticket.epoch
    c.requires.next least (rw c.in-Go.is at c.in_ok-ticket.ensures.starts) (rw c.in-Go.is at c.in_ok-ticket.ensures.state) (rw c.in-Go.is at c.in_ok-ticket.ensures.journal)
    state journal counted way)
    (rw (ticket.0, ticket.1) at c.finish.ensures.state) (rw (ticket.0, ticket.1) at c.finish.ensures.journal) c.finish.ensures.counted)

pub returns-clause-fewer : goal.returns-clause-fewer
returns-clause-fewer g c =
    let m = g.T.Technology.meaning in
    let way = way_kept m _ c.args.self.now.made c.args.self.now.plant c.reserve.new.self _ c.in_ok-reserve.ensures.state c.in_ok-reserve.ensures.journal c.requires.way in
    let least = subst (λ st. IsLeast m st c.args.slot) (sym c.in_ok-reserve.ensures.state) c.requires.least in
    let ticket = rw c.in-Go.is at c.in_ok-ticket.ensures.ticket in
    on_ok_weaker c.finish.result
    (λ state. subst (λ st. undone_in c.finish.new.self.plant.state < undone_in st) c.in_ok-reserve.ensures.state
    (fewer m _ g.met.T.Technology.laws c.args.self.now.made c.reserve.new.self c.start.new.self c.finish.new.self.plant _ c.args.slot c.in-Go.ticket.epoch
    least (rw c.in-Go.is at c.in_ok-ticket.ensures.state) state way))
    (rw (ticket.0, ticket.1) at c.finish.ensures.state)
