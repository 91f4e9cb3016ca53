use Rattle.std.proofs.Common.{ap, map, refl, subst, sym, ◌≤◌, ◌-◌, ◌^◌, ◌∙◌, ◌++◌, ◌∷◌, []}
use Rattle.std.specs.Arc.{arc_value}
use Rattle.std.proofs.lemmas.List.{length-map}
use Rattle.pl_ports.specs.declared.gate.Actor.TheVariants.{Session}
use Rattle.pl_machine.specs.Tickets.{start_of}
use Rattle.pl_turn.specs.Passes.{own, seen}
use Rattle.pl_runner.specs.Causes.{GrewByCall, SessionWaits}
use Rattle.pl_runner.proofs.Went.{call_by, calls_called, calls_begun, finds, seen_grown, replayed, idle, next_is, at_index, if_some, stays_idle, stays_grown, may_ask, few_calls, named, called, begun, export_next}
use Rattle.pl_runner.proofs.turns.session_turn.Goals as goal

pub ask-requires-clause-may : goal.ask-requires-clause-may
ask-requires-clause-may g c =
    let t = c.take-turn.ensures in
    λ stands. may_ask g.T.Technology.meaning (map arc_value c.args.commands.now) c.args.session _ (arc_value c.index-commands-made.result)
    (finds (Session c.args.session) (seen c.args.pass) _ _ _ _ c.requires.number c.args.pass.entries.0 (ap (λ p. p.journal) (c.value.ensures.shows ∙ t.value)) t.fits.0 t.fits.1.0)
    c.requires.order
    (next_is g.T.Technology.meaning (map arc_value c.args.commands.now) (Session c.args.session) c.args.made (arc_value c.index-commands-made.result)
    (finds (Session c.args.session) (seen c.args.pass) _ _ _ _ c.requires.number c.args.pass.entries.0 (ap (λ p. p.journal) (c.value.ensures.shows ∙ t.value)) t.fits.0 t.fits.1.0)
    c.requires.made (at_index arc_value c.args.commands.now c.args.made c.index-commands-made.result c.index-commands-made.is c.requires.within))
    stands.legal stands.replayed

pub ask-requires-clause-calls : goal.ask-requires-clause-calls
ask-requires-clause-calls g c =
    let t = c.take-turn.ensures in
    λ stands. few_calls g.T.Technology.meaning (map arc_value c.args.commands.now) c.args.session _ (arc_value c.index-commands-made.result)
    (finds (Session c.args.session) (seen c.args.pass) _ _ _ _ c.requires.number c.args.pass.entries.0 (ap (λ p. p.journal) (c.value.ensures.shows ∙ t.value)) t.fits.0 t.fits.1.0)
    c.requires.order
    (next_is g.T.Technology.meaning (map arc_value c.args.commands.now) (Session c.args.session) c.args.made (arc_value c.index-commands-made.result)
    (finds (Session c.args.session) (seen c.args.pass) _ _ _ _ c.requires.number c.args.pass.entries.0 (ap (λ p. p.journal) (c.value.ensures.shows ∙ t.value)) t.fits.0 t.fits.1.0)
    c.requires.made (at_index arc_value c.args.commands.now c.args.made c.index-commands-made.result c.index-commands-made.is c.requires.within))
    (subst (λ n. n ≤ 2 ^ 32 - 1) (sym (length-map c.args.commands.now arc_value)) c.requires.few) stands.legal stands.replayed

pub ask-requires-clause-names : goal.ask-requires-clause-names
ask-requires-clause-names g c =
    named (map arc_value c.args.commands.now) c.args.made (arc_value c.index-commands-made.result) c.requires.names (at_index arc_value c.args.commands.now c.args.made c.index-commands-made.result c.index-commands-made.is c.requires.within)

pub returns-in-Called-clause-seen : goal.returns-in-Called-clause-seen
returns-in-Called-clause-seen g c =
    let t = c.take-turn.ensures in
    seen_grown (Session c.args.session)
    (finds (Session c.args.session) (seen c.args.pass) _ _ _ _ c.requires.number c.args.pass.entries.0 (ap (λ p. p.journal) (c.value.ensures.shows ∙ t.value)) t.fits.0 t.fits.1.0)
    _ _ _ c.in-Called.ensures.journal.1 c.end_with.ensures.seen

pub returns-in-Called-clause-own : goal.returns-in-Called-clause-own
returns-in-Called-clause-own g c =
    let t = c.take-turn.ensures in
    let e = call_by c.args.session (arc_value c.index-commands-made.result) c.in-Called.ensures.journal.0 in
    if_some _ (arc_value c.index-commands-made.result) (λ command. GrewByCall c.args.session command (own c.args.pass) (own c.end_with.result)) (at_index arc_value c.args.commands.now c.args.made c.index-commands-made.result c.index-commands-made.is c.requires.within)
    (c.in-Called.ensures.journal.0, c.end_with.ensures.own e (c.in-Called.ensures.journal.1 ∙ ap (λ p. p.journal ++ e ∷ []) (c.value.ensures.shows ∙ t.value)) ∙ ap (λ p. own p ++ e ∷ []) t.pass)

pub returns-in-Called-clause-order : goal.returns-in-Called-clause-order
returns-in-Called-clause-order g c =
    let t = c.take-turn.ensures in
    let e = c.in-Called.ensures in
    called g.T.Technology.meaning (map arc_value c.args.commands.now) c.args.session _ _ (arc_value c.index-commands-made.result)
    (finds (Session c.args.session) (seen c.args.pass) _ _ _ _ c.requires.number c.args.pass.entries.0 (ap (λ p. p.journal) (c.value.ensures.shows ∙ t.value)) t.fits.0 t.fits.1.0)
    c.requires.order
    (next_is g.T.Technology.meaning (map arc_value c.args.commands.now) (Session c.args.session) c.args.made (arc_value c.index-commands-made.result)
    (finds (Session c.args.session) (seen c.args.pass) _ _ _ _ c.requires.number c.args.pass.entries.0 (ap (λ p. p.journal) (c.value.ensures.shows ∙ t.value)) t.fits.0 t.fits.1.0)
    c.requires.made (at_index arc_value c.args.commands.now c.args.made c.index-commands-made.result c.index-commands-made.is c.requires.within))
    e.stood.legal e.stands.legal e.journal c.end_with.ensures.seen

pub returns-in-Called-clause-stays : goal.returns-in-Called-clause-stays
returns-in-Called-clause-stays g c =
    let t = c.take-turn.ensures in
    let e = c.in-Called.ensures in
    stays_grown g.T.Technology.meaning (map arc_value c.args.commands.now) c.args.session _ _ (arc_value c.index-commands-made.result) _
    (finds (Session c.args.session) (seen c.args.pass) _ _ _ _ c.requires.number c.args.pass.entries.0 (ap (λ p. p.journal) (c.value.ensures.shows ∙ t.value)) t.fits.0 t.fits.1.0)
    c.requires.order
    (next_is g.T.Technology.meaning (map arc_value c.args.commands.now) (Session c.args.session) c.args.made (arc_value c.index-commands-made.result)
    (finds (Session c.args.session) (seen c.args.pass) _ _ _ _ c.requires.number c.args.pass.entries.0 (ap (λ p. p.journal) (c.value.ensures.shows ∙ t.value)) t.fits.0 t.fits.1.0)
    c.requires.made (at_index arc_value c.args.commands.now c.args.made c.index-commands-made.result c.index-commands-made.is c.requires.within))
    e.stood.legal refl e.journal.1 c.end_with.ensures.seen

pub returns-in-Begun-clause-seen : goal.returns-in-Begun-clause-seen
returns-in-Begun-clause-seen g c =
    let t = c.take-turn.ensures in
    seen_grown (Session c.args.session)
    (finds (Session c.args.session) (seen c.args.pass) _ _ _ _ c.requires.number c.args.pass.entries.0 (ap (λ p. p.journal) (c.value.ensures.shows ∙ t.value)) t.fits.0 t.fits.1.0)
    _ _ _ c.in-Begun.ensures.journal c.end_with-in-Begun.ensures.seen

pub returns-in-Begun-clause-order : goal.returns-in-Begun-clause-order
returns-in-Begun-clause-order g c =
    let t = c.take-turn.ensures in
    let e = c.in-Begun.ensures in
    begun g.T.Technology.meaning (map arc_value c.args.commands.now) (Session c.args.session) _ _ _ _ _ _
    (finds (Session c.args.session) (seen c.args.pass) _ _ _ _ c.requires.number c.args.pass.entries.0 (ap (λ p. p.journal) (c.value.ensures.shows ∙ t.value)) t.fits.0 t.fits.1.0)
    c.requires.order
    (export_next g.T.Technology.meaning (map arc_value c.args.commands.now) c.args.session (seen c.args.pass) _ (arc_value c.index-commands-made.result)
    (next_is g.T.Technology.meaning (map arc_value c.args.commands.now) (Session c.args.session) c.args.made (arc_value c.index-commands-made.result)
    (finds (Session c.args.session) (seen c.args.pass) _ _ _ _ c.requires.number c.args.pass.entries.0 (ap (λ p. p.journal) (c.value.ensures.shows ∙ t.value)) t.fits.0 t.fits.1.0)
    c.requires.made (at_index arc_value c.args.commands.now c.args.made c.index-commands-made.result c.index-commands-made.is c.requires.within))
    e.lacks)
    e.stood.legal e.stood.replayed e.least e.value e.stands.legal e.journal c.end_with-in-Begun.ensures.seen

pub returns-in-Begun-clause-stays : goal.returns-in-Begun-clause-stays
returns-in-Begun-clause-stays g c =
    let t = c.take-turn.ensures in
    let e = c.in-Begun.ensures in
    stays_grown g.T.Technology.meaning (map arc_value c.args.commands.now) c.args.session _ _ (arc_value c.index-commands-made.result) _
    (finds (Session c.args.session) (seen c.args.pass) _ _ _ _ c.requires.number c.args.pass.entries.0 (ap (λ p. p.journal) (c.value.ensures.shows ∙ t.value)) t.fits.0 t.fits.1.0)
    c.requires.order
    (next_is g.T.Technology.meaning (map arc_value c.args.commands.now) (Session c.args.session) c.args.made (arc_value c.index-commands-made.result)
    (finds (Session c.args.session) (seen c.args.pass) _ _ _ _ c.requires.number c.args.pass.entries.0 (ap (λ p. p.journal) (c.value.ensures.shows ∙ t.value)) t.fits.0 t.fits.1.0)
    c.requires.made (at_index arc_value c.args.commands.now c.args.made c.index-commands-made.result c.index-commands-made.is c.requires.within))
    e.stood.legal refl e.journal c.end_with-in-Begun.ensures.seen

pub returns-in-Waits-clause-waits : goal.returns-in-Waits-clause-waits
returns-in-Waits-clause-waits g c =
    let e = c.in-Waits.ensures in
    if_some _ (arc_value c.index-commands-made.result) _ (at_index arc_value c.args.commands.now c.args.made c.index-commands-made.result c.index-commands-made.is c.requires.within)
    (subst (λ st. SessionWaits g.T.Technology.meaning st (arc_value c.index-commands-made.result)) (replayed g.T.Technology.meaning _ _ _ _ e.stood.replayed e.journal c.end.ensures.seen) e.waits)

pub returns-in-Waits-clause-order : goal.returns-in-Waits-clause-order
returns-in-Waits-clause-order g c =
    let t = c.take-turn.ensures in
    let e = c.in-Waits.ensures in
    idle g.T.Technology.meaning (map arc_value c.args.commands.now) (Session c.args.session) _ _
    (finds (Session c.args.session) (seen c.args.pass) _ _ _ _ c.requires.number c.args.pass.entries.0 (ap (λ p. p.journal) (c.value.ensures.shows ∙ t.value)) t.fits.0 t.fits.1.0)
    c.requires.order e.stood.legal e.journal c.end.ensures.seen

pub returns-in-Waits-clause-stays : goal.returns-in-Waits-clause-stays
returns-in-Waits-clause-stays g c =
    let t = c.take-turn.ensures in
    let e = c.in-Waits.ensures in
    stays_idle g.T.Technology.meaning (map arc_value c.args.commands.now) c.args.session _ _ (arc_value c.index-commands-made.result)
    (finds (Session c.args.session) (seen c.args.pass) _ _ _ _ c.requires.number c.args.pass.entries.0 (ap (λ p. p.journal) (c.value.ensures.shows ∙ t.value)) t.fits.0 t.fits.1.0)
    c.requires.order
    (next_is g.T.Technology.meaning (map arc_value c.args.commands.now) (Session c.args.session) c.args.made (arc_value c.index-commands-made.result)
    (finds (Session c.args.session) (seen c.args.pass) _ _ _ _ c.requires.number c.args.pass.entries.0 (ap (λ p. p.journal) (c.value.ensures.shows ∙ t.value)) t.fits.0 t.fits.1.0)
    c.requires.made (at_index arc_value c.args.commands.now c.args.made c.index-commands-made.result c.index-commands-made.is c.requires.within))
    e.stood.legal e.journal c.end.ensures.seen

pub returns-in-NoMemory-clause-order : goal.returns-in-NoMemory-clause-order
returns-in-NoMemory-clause-order g c =
    let t = c.take-turn.ensures in
    let e = c.in-NoMemory.ensures in
    idle g.T.Technology.meaning (map arc_value c.args.commands.now) (Session c.args.session) _ _
    (finds (Session c.args.session) (seen c.args.pass) _ _ _ _ c.requires.number c.args.pass.entries.0 (ap (λ p. p.journal) (c.value.ensures.shows ∙ t.value)) t.fits.0 t.fits.1.0)
    c.requires.order e.stood.legal e.journal c.end-pass.ensures.seen

pub returns-in-NoMemory-clause-stays : goal.returns-in-NoMemory-clause-stays
returns-in-NoMemory-clause-stays g c =
    let t = c.take-turn.ensures in
    let e = c.in-NoMemory.ensures in
    stays_idle g.T.Technology.meaning (map arc_value c.args.commands.now) c.args.session _ _ (arc_value c.index-commands-made.result)
    (finds (Session c.args.session) (seen c.args.pass) _ _ _ _ c.requires.number c.args.pass.entries.0 (ap (λ p. p.journal) (c.value.ensures.shows ∙ t.value)) t.fits.0 t.fits.1.0)
    c.requires.order
    (next_is g.T.Technology.meaning (map arc_value c.args.commands.now) (Session c.args.session) c.args.made (arc_value c.index-commands-made.result)
    (finds (Session c.args.session) (seen c.args.pass) _ _ _ _ c.requires.number c.args.pass.entries.0 (ap (λ p. p.journal) (c.value.ensures.shows ∙ t.value)) t.fits.0 t.fits.1.0)
    c.requires.made (at_index arc_value c.args.commands.now c.args.made c.index-commands-made.result c.index-commands-made.is c.requires.within))
    e.stood.legal e.journal c.end-pass.ensures.seen

pub returns-in-Called-clause-made : goal.returns-in-Called-clause-made
returns-in-Called-clause-made g c =
    let t = c.take-turn.ensures in
    let e = call_by c.args.session (arc_value c.index-commands-made.result) c.in-Called.ensures.journal.0 in
    calls_called c.args.session (arc_value c.index-commands-made.result) c.in-Called.ensures.journal.0 _ _ c.args.made c.requires.made
    (c.end_with.ensures.own e (c.in-Called.ensures.journal.1 ∙ ap (λ p. p.journal ++ e ∷ []) (c.value.ensures.shows ∙ t.value)) ∙ ap (λ p. own p ++ e ∷ []) t.pass)

pub returns-in-Begun-clause-made : goal.returns-in-Begun-clause-made
returns-in-Begun-clause-made g c =
    let t = c.take-turn.ensures in
    let e = start_of (Session c.args.session) c.in-Begun.ticket.slot c.in-Begun.ticket.epoch in
    calls_begun (Session c.args.session) c.in-Begun.ticket.slot c.in-Begun.ticket.epoch _ _ c.args.made c.requires.made
    (c.end_with-in-Begun.ensures.own e (c.in-Begun.ensures.journal ∙ ap (λ p. p.journal ++ e ∷ []) (c.value.ensures.shows ∙ t.value)) ∙ ap (λ p. own p ++ e ∷ []) t.pass)
