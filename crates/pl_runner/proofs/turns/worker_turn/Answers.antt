use Rattle.std.proofs.Common.{ap, subst, ◌∙◌, [], ◌∷◌, ◌++◌}
use Rattle.pl_ports.specs.declared.gate.Actor.TheVariants.{Worker}
use Rattle.pl_machine.specs.Startable.{AllLeft}
use Rattle.pl_machine.specs.Tickets.{start_of}
use Rattle.pl_turn.specs.Passes.{own, seen}
use Rattle.pl_runner.specs.Causes.{WorkerWaits}
use Rattle.pl_runner.proofs.Went.{finds, seen_grown, replayed, idle, free, begun}
use Rattle.pl_runner.proofs.turns.worker_turn.Goals as goal

pub look_for_work-requires-clause-free : goal.look_for_work-requires-clause-free
look_for_work-requires-clause-free g c =
    let t = c.take-turn.ensures in
    λ stands. free g.T.Technology.meaning [] (Worker c.args.worker) _
    (finds (Worker c.args.worker) (seen c.args.pass) _ _ _ _ c.requires.number c.args.pass.entries.0 (ap (λ p. p.journal) (c.value.ensures.shows ∙ t.value)) t.fits.0 t.fits.1.0)
    c.requires.order stands.legal stands.replayed

pub returns-in-Begun-clause-seen : goal.returns-in-Begun-clause-seen
returns-in-Begun-clause-seen g c =
    let t = c.take-turn.ensures in
    seen_grown (Worker c.args.worker)
    (finds (Worker c.args.worker) (seen c.args.pass) _ _ _ _ c.requires.number c.args.pass.entries.0 (ap (λ p. p.journal) (c.value.ensures.shows ∙ t.value)) t.fits.0 t.fits.1.0)
    _ _ _ c.in-Begun.ensures.journal c.end_with.ensures.seen

pub returns-in-Begun-clause-own : goal.returns-in-Begun-clause-own
returns-in-Begun-clause-own g c =
    let e = start_of (Worker c.args.worker) c.in-Begun.ticket.slot c.in-Begun.ticket.epoch in
    c.end_with.ensures.own e (c.in-Begun.ensures.journal ∙ ap (λ p. p.journal ++ e ∷ []) (c.value.ensures.shows ∙ c.take-turn.ensures.value))
    ∙ ap (λ p. own p ++ e ∷ []) c.take-turn.ensures.pass

pub returns-in-Begun-clause-order : goal.returns-in-Begun-clause-order
returns-in-Begun-clause-order g c =
    let t = c.take-turn.ensures in
    let e = c.in-Begun.ensures in
    begun g.T.Technology.meaning [] (Worker c.args.worker) _ _ _ _ _ _
    (finds (Worker c.args.worker) (seen c.args.pass) _ _ _ _ c.requires.number c.args.pass.entries.0 (ap (λ p. p.journal) (c.value.ensures.shows ∙ t.value)) t.fits.0 t.fits.1.0)
    c.requires.order tt e.stood.legal e.stood.replayed e.least e.value e.stands.legal e.journal c.end_with.ensures.seen

pub returns-in-Ended-clause-order : goal.returns-in-Ended-clause-order
returns-in-Ended-clause-order g c =
    let t = c.take-turn.ensures in
    let e = c.in-Ended.ensures in
    idle g.T.Technology.meaning [] (Worker c.args.worker) _ _
    (finds (Worker c.args.worker) (seen c.args.pass) _ _ _ _ c.requires.number c.args.pass.entries.0 (ap (λ p. p.journal) (c.value.ensures.shows ∙ t.value)) t.fits.0 t.fits.1.0)
    c.requires.order e.stood.legal e.journal c.end.ensures.seen

pub returns-in-Ended-clause-ended : goal.returns-in-Ended-clause-ended
returns-in-Ended-clause-ended g c =
    let e = c.in-Ended.ensures in
    subst (λ st. AllLeft st c.args.sessions) (replayed g.T.Technology.meaning _ _ _ _ e.stood.replayed e.journal c.end.ensures.seen) e.ended

pub returns-in-Waits-clause-order : goal.returns-in-Waits-clause-order
returns-in-Waits-clause-order g c =
    let t = c.take-turn.ensures in
    let e = c.in-Waits.ensures in
    idle g.T.Technology.meaning [] (Worker c.args.worker) _ _
    (finds (Worker c.args.worker) (seen c.args.pass) _ _ _ _ c.requires.number c.args.pass.entries.0 (ap (λ p. p.journal) (c.value.ensures.shows ∙ t.value)) t.fits.0 t.fits.1.0)
    c.requires.order e.stood.legal e.journal c.end-in-Waits.ensures.seen

pub returns-in-Waits-clause-waits : goal.returns-in-Waits-clause-waits
returns-in-Waits-clause-waits g c =
    let e = c.in-Waits.ensures in
    subst (λ st. WorkerWaits g.T.Technology.meaning st c.args.sessions) (replayed g.T.Technology.meaning _ _ _ _ e.stood.replayed e.journal c.end-in-Waits.ensures.seen) e.waits

pub returns-in-NoMemory-clause-order : goal.returns-in-NoMemory-clause-order
returns-in-NoMemory-clause-order g c =
    let t = c.take-turn.ensures in
    let e = c.in-NoMemory.ensures in
    idle g.T.Technology.meaning [] (Worker c.args.worker) _ _
    (finds (Worker c.args.worker) (seen c.args.pass) _ _ _ _ c.requires.number c.args.pass.entries.0 (ap (λ p. p.journal) (c.value.ensures.shows ∙ t.value)) t.fits.0 t.fits.1.0)
    c.requires.order e.stood.legal e.journal c.end-pass.ensures.seen
