use Rattle.std.proofs.Common.{◌∙◌, ap, arith, take, get_or}
use Rattle.std.specs.List.{count_by, slice_get}
use Rattle.pl_script.proofs.Rounds.{of_session}
use Rattle.pl_script.proofs.Ways.{get_is, place_is, own_is, next_is}
use Rattle.pl_script.proofs.stuck.next_line.Goals as goal

pub returns-clause-line : goal.returns-clause-line
returns-clause-line c =
    let lines = c.args.lines.now in
    let session = c.args.session in
    let next = c.args.progress.now.next in
    get_is c.get.result lines c.next_place-place.result c.get.ensures.lookup.0 c.get.ensures.lookup.1
    ∙ next_is lines session (get_or next session 0) c.next_place-place.result (get_or c.args.progress.now.passed session 0) (c.requires.way.places session c.requires.session)
    (c.next_place-place.ensures.passed ∙ ap (λ i. count_by (of_session session) (take (get_or next i 0) lines)) c.from-at.ensures) c.next_place-place.ensures.own

pub returns-clause-place : goal.returns-clause-place
returns-clause-place c =
    let lines = c.args.lines.now in
    place_is c.get.result lines c.args.progress.now.next c.from-at.result c.next_place-place.result c.args.session c.from-at.ensures (omega (arith, c.from-at.ensures, c.requires.session))
    (get_is c.get.result lines c.next_place-place.result c.get.ensures.lookup.0 c.get.ensures.lookup.1)

pub returns-clause-own : goal.returns-clause-own
returns-clause-own c =
    let lines = c.args.lines.now in
    own_is c.get.result (slice_get lines c.next_place-place.result) c.args.session (get_is c.get.result lines c.next_place-place.result c.get.ensures.lookup.0 c.get.ensures.lookup.1) c.next_place-place.ensures.own
