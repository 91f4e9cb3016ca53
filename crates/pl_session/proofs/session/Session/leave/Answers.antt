use Rattle.std.proofs.Common.{◌≡◌, length, map, arith}
use Rattle.std.proofs.lemmas.List.{length-map}
use Rattle.std.specs.Arc.{arc_value}
use Rattle.pl_session.proofs.Ways.{way_kept, may_of, ends_empty, ends_left}
use Rattle.pl_session.proofs.session.Session.leave.Goals as goal

pub returns-then-silent-clause-complete : goal.returns-then-silent-clause-complete
returns-then-silent-clause-complete g c =
    let commands = c.args.self.now.commands in
    let all : c.args.self.now.made ≡ length (map arc_value commands.items) = (let same = length-map commands.items arc_value in omega (arith, same, commands.ok.0, c.requires.made)) in
    ends_empty g.T.Technology.meaning _ c.args.self.now.made c.args.self.now.plant _ all c.if-silent.true c.requires.way

pub leave-requires-clause-may : goal.leave-requires-clause-may
leave-requires-clause-may g c =
    let m = g.T.Technology.meaning in
    may_of m _ c.args.self.now.made c.reserve.new.self _ (way_kept m _ _ _ _ _ c.in_ok-reserve.ensures.state c.in_ok-reserve.ensures.journal c.requires.way)

pub returns-clause-complete : goal.returns-clause-complete
returns-clause-complete g c =
    let m = g.T.Technology.meaning in
    let commands = c.args.self.now.commands in
    let all : c.args.self.now.made ≡ length (map arc_value commands.items) = (let same = length-map commands.items arc_value in omega (arith, same, commands.ok.0, c.requires.made)) in
    let way = way_kept m _ _ c.args.self.now.plant c.reserve.new.self _ c.in_ok-reserve.ensures.state c.in_ok-reserve.ensures.journal c.requires.way in
    ends_left m _ c.args.self.now.made c.reserve.new.self c.leave.new.self _ all c.if-silent.false c.leave.ensures.journal way
