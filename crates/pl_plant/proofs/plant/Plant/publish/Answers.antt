use Rattle.std.proofs.Common.{◌≡◌, ap, sym, None, Some, ◌∙◌}
use Rattle.std.specs.Arc.{arc_value}
use Rattle.pl_machine.specs.Machine.{epoch_of, Finishes, finished, freed}
use Rattle.pl_plant.proofs.Stands.{stands-finished, stands-freed}
use Rattle.pl_plant.proofs.Closing.{tells}
use Rattle.pl_plant.proofs.plant.Plant.publish.Goals as goal

pub publish-requires-clause-actor : goal.publish-requires-clause-actor
publish-requires-clause-actor g c =
    let t = g.T.Technology in
    (tells t.meaning g.met.T.Technology.laws t.job_value c.self.view_is _ c.args.ticket c.self.invariant c.requires.stands).actor_is

pub publish-requires-clause-pending : goal.publish-requires-clause-pending
publish-requires-clause-pending g c =
    let t = g.T.Technology in
    let told = tells t.meaning g.met.T.Technology.laws t.job_value c.self.view_is _ c.args.ticket c.self.invariant c.requires.stands in
    λ none. (let f : None ≡ Some _ = sym none ∙ told.pending in cc)

pub invariant_of-self : goal.invariant_of-self
invariant_of-self g c =
    let t = g.T.Technology in
    let told = tells t.meaning g.met.T.Technology.laws t.job_value c.self.view_is _ c.args.ticket c.self.invariant c.requires.stands in
    let st = c.self.inside.state in
    let may : Finishes st c.args.ticket.actor c.args.ticket.slot c.args.ticket.epoch = rw told.pending at c.in-Published.ensures.published in
    let value : arc_value c.args.output ≡ t.meaning.value st.applied c.args.ticket.slot = c.requires.output ∙ told.value_is may.current in
    rw (rw told.pending at c.in-Published.ensures.state, c.add.ensures, c.put.ensures.stored, value)
    (stands-finished t.meaning st c.self.inside.journal.items c.self.inside.kept _ c.args.ticket.actor c.args.ticket.slot c.args.ticket.epoch c.put.ensures.places c.put.ensures.in_range may c.self.invariant)

pub invariant_of-self-in-Late : goal.invariant_of-self-in-Late
invariant_of-self-in-Late g c =
    let t = g.T.Technology in
    let told = tells t.meaning g.met.T.Technology.laws t.job_value c.self.view_is _ c.args.ticket c.self.invariant c.requires.stands in
    let may = rw told.pending at c.in-Late.ensures.published in
    rw (rw told.pending at c.in-Late.ensures.state, c.add-in-Late.ensures)
    (stands-freed t.meaning c.self.inside.state c.self.inside.journal.items c.self.inside.kept _ c.args.ticket.actor c.args.ticket.slot c.in-Late.then c.in-Late.now may.1 c.self.invariant)

pub returns-in-Published-clause-answer : goal.returns-in-Published-clause-answer
returns-in-Published-clause-answer g c =
    let t = g.T.Technology in
    let told = tells t.meaning g.met.T.Technology.laws t.job_value c.self.view_is _ c.args.ticket c.self.invariant c.requires.stands in
    let may = rw told.pending at c.in-Published.ensures.published in
    sym (ap (λ p. epoch_of p.state c.args.ticket.slot) c.self.view_is) ∙ may.current

pub returns-in-Published-clause-state : goal.returns-in-Published-clause-state
returns-in-Published-clause-state g c =
    let t = g.T.Technology in
    let told = tells t.meaning g.met.T.Technology.laws t.job_value c.self.view_is _ c.args.ticket c.self.invariant c.requires.stands in
    (rw told.pending at c.in-Published.ensures.state) ∙ ap (λ p. finished p.state c.args.ticket.actor c.args.ticket.slot) c.self.view_is

pub returns-clause-answer : goal.returns-clause-answer
returns-clause-answer g c =
    let t = g.T.Technology in
    let told = tells t.meaning g.met.T.Technology.laws t.job_value c.self.view_is _ c.args.ticket c.self.invariant c.requires.stands in
    let may = rw told.pending at c.in-Late.ensures.published in
    (may.0, sym may.1.current ∙ ap (λ p. epoch_of p.state c.args.ticket.slot) c.self.view_is, (let later = may.1.later in later))

pub returns-clause-state : goal.returns-clause-state
returns-clause-state g c =
    let t = g.T.Technology in
    let told = tells t.meaning g.met.T.Technology.laws t.job_value c.self.view_is _ c.args.ticket c.self.invariant c.requires.stands in
    (rw told.pending at c.in-Late.ensures.state) ∙ ap (λ p. freed p.state c.args.ticket.actor) c.self.view_is
