use Rattle.std.proofs.Common.{◌≤◌, ◌-◌, ◌^◌, length, map, arith}
use Rattle.std.proofs.lemmas.List.{length-map}
use Rattle.std.proofs.lemmas.Option.{slice_get_within}
use Rattle.std.specs.Arc.{arc_value}
use Rattle.pl_session.proofs.Ways.{way_kept, may_of, room_of, no_wait, way_called}
use Rattle.pl_session.proofs.session.Session.call.Goals as goal

pub call-requires-clause-may : goal.call-requires-clause-may
call-requires-clause-may g c =
    let m = g.T.Technology.meaning in
    may_of m _ c.args.self.now.made c.reserve.new.self _ (way_kept m _ _ _ _ _ c.in_ok-reserve.ensures.state c.in_ok-reserve.ensures.journal c.requires.way)

pub call-requires-clause-calls : goal.call-requires-clause-calls
call-requires-clause-calls g c =
    let m = g.T.Technology.meaning in
    let commands = c.args.self.now.commands in
    let most : length (map arc_value commands.items) ≤ 2 ^ 32 - 1 = (let same = length-map commands.items arc_value in omega (arith, same, commands.ok.0, c.requires.few)) in
    room_of m _ c.args.self.now.made c.reserve.new.self _ (arc_value c.args.command) c.requires.next most
    (way_kept m _ _ _ _ _ c.in_ok-reserve.ensures.state c.in_ok-reserve.ensures.journal c.requires.way)

pub overflow_add-self : goal.overflow_add-self
overflow_add-self g c =
    let commands = c.args.self.now.commands in
    let same = length-map commands.items arc_value in
    let within = slice_get_within (map arc_value commands.items) c.args.self.now.made (arc_value c.args.command) c.requires.next in
    omega (arith, same, within, commands.ok.0, c.requires.few)

pub unreachable-requires : goal.unreachable-requires
unreachable-requires g c =
    let m = g.T.Technology.meaning in
    let way = way_kept m _ _ c.args.self.now.plant c.reserve.new.self _ c.in_ok-reserve.ensures.state c.in_ok-reserve.ensures.journal c.requires.way in
    no_wait m _ g.met.T.Technology.laws c.args.self.now.made c.reserve.new.self _ (arc_value c.args.command) (rw c.in_ok-reserve.ensures.state c.requires.ready) way c.in-NotYet.field-0
    (rw c.in-NotYet.is at c.in_ok-call.ensures.step)

pub returns-clause-way : goal.returns-clause-way
returns-clause-way g c =
    let m = g.T.Technology.meaning in
    let way = way_kept m _ _ c.args.self.now.plant c.reserve.new.self _ c.in_ok-reserve.ensures.state c.in_ok-reserve.ensures.journal c.requires.way in
    way_called m _ c.args.self.now.made c.reserve.new.self c.call.new.self _ (arc_value c.args.command) c.in-Now.field-0 c.requires.next
    (rw c.in-Now.is at c.in_ok-call.ensures.step) (rw c.in-Now.is at c.in_ok-call.ensures.state) (rw c.in-Now.is at c.in_ok-call.ensures.journal) way
