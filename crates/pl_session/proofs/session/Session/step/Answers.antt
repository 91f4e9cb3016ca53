use Rattle.std.proofs.Common.{◌≡◌, Some, map, slice_get, subst}
use Rattle.std.proofs.lemmas.List.Elements.{All-get_or}
use Rattle.std.proofs.lemmas.Option.{slice_get_within, get_or_from_slice_get}
use Rattle.std.specs.Arc.{arc_value}
use Rattle.pl_session.specs.Alone.{WaitsForNobody}
use Rattle.pl_session.proofs.session.Session.step.Goals as goal

pub call-requires-clause-own : goal.call-requires-clause-own
call-requires-clause-own g c =
    let commands = map arc_value c.args.self.now.commands.items in
    let made = c.args.self.now.made in
    let command = arc_value c.in_ok-command.command in
    let next : slice_get commands made ≡ Some command = c.in_ok-command.ensures in
    subst WaitsForNobody (get_or_from_slice_get commands made command command next) (All-get_or WaitsForNobody commands made command (slice_get_within commands made command next) c.requires.own)
