use Rattle.std.proofs.Common.{refl, ap, ◌∙◌, Some}
use Rattle.pl_turn.specs.Passes.{number, own, seen}
use Rattle.pl_machine.specs.declared.entry.What.TheVariants.{Finish, Late}
use Rattle.pl_runner.specs.Closing.{finish_of, late_of, ticket_work}
use Rattle.pl_runner.proofs.Went.{Finds, finds, seen_grown}
use Rattle.pl_runner.proofs.Leaves.{still_stands, unchanged, closed}
use Rattle.pl_runner.proofs.closing_turns.publish_turn.Given.{Over}
use Rattle.pl_runner.proofs.closing_turns.publish_turn.Goals as goal
use Rattle.pl_runner.proofs.closing_turns.publish_turn.Goals.{After-value}

-- the journal that the turn finds
found : (g : Over) (c : After-value g) → Finds c.args.ticket.actor (seen c.args.pass) (own c.args.pass) c.value.result.now.journal
found g c =
    let t = c.take-turn.ensures in
    finds c.args.ticket.actor (seen c.args.pass) (own c.args.pass) c.value.result.now.journal c.take-turn.result.held.taken.value.journal (number c.args.pass)
    c.requires.number c.args.pass.entries.0 (ap (λ p. p.journal) (c.value.ensures.shows ∙ t.value)) t.fits.0 t.fits.1.0

pub publish-requires-clause-ticket : goal.publish-requires-clause-ticket
publish-requires-clause-ticket g c =
    let a = c.args.ticket in
    still_stands a.actor (found g (goal.at.publish-requires-clause-ticket g c).After-value) g.T.Technology.meaning a.slot a.epoch (g.T.Technology.job_value a.job.value) c.requires.stands

pub returns-in-Done-clause-seen : goal.returns-in-Done-clause-seen
returns-in-Done-clause-seen g c =
    let a = c.args.ticket in
    seen_grown a.actor (found g (goal.at.returns-in-Done-clause-seen g c).After-value) (finish_of a) _ _ c.in-Done.ensures.journal c.end_with.ensures.seen

pub returns-in-Done-clause-order : goal.returns-in-Done-clause-order
returns-in-Done-clause-order g c = λ commands order.
    let a = c.args.ticket in
    let e = c.in-Done.ensures in
    closed a.actor (found g (goal.at.returns-in-Done-clause-order g c).After-value) g.T.Technology.meaning commands (Some (ticket_work g.T.Technology.job_value a)) order
    _ _ (Finish a.slot a.epoch) refl e.stood.legal e.stands.legal e.journal c.end_with.ensures.seen

pub returns-in-Late-clause-seen : goal.returns-in-Late-clause-seen
returns-in-Late-clause-seen g c =
    let a = c.args.ticket in
    seen_grown a.actor (found g (goal.at.returns-in-Late-clause-seen g c).After-value) (late_of a c.in-Late.since c.in-Late.now) _ _ c.in-Late.ensures.journal c.end_with-in-Late.ensures.seen

pub returns-in-Late-clause-order : goal.returns-in-Late-clause-order
returns-in-Late-clause-order g c = λ commands order.
    let a = c.args.ticket in
    let e = c.in-Late.ensures in
    closed a.actor (found g (goal.at.returns-in-Late-clause-order g c).After-value) g.T.Technology.meaning commands (Some (ticket_work g.T.Technology.job_value a)) order
    _ _ (Late a.slot c.in-Late.since c.in-Late.now) refl e.stood.legal e.stands.legal e.journal c.end_with-in-Late.ensures.seen

pub returns-in-NoMemory-clause-order : goal.returns-in-NoMemory-clause-order
returns-in-NoMemory-clause-order g c = λ commands order.
    let a = c.args.ticket in
    let e = c.in-NoMemory.ensures in
    unchanged a.actor (found g (goal.at.returns-in-NoMemory-clause-order g c).After-value) g.T.Technology.meaning commands (Some (ticket_work g.T.Technology.job_value a)) order
    _ _ e.stood.legal e.journal c.end-pass.ensures.seen
