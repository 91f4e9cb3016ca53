use Rattle.std.proofs.Common.{◌<◌, ap, arith, ◌∙◌}
use Rattle.pl_machine.specs.Machine.{epoch_of}
use Rattle.pl_plant.proofs.Stands.{stands-freed}
use Rattle.pl_plant.proofs.Closing.{tells}
use Rattle.pl_plant.proofs.plant.Plant.retire.Goals as goal

pub retire-since-requires-clause-actor : goal.retire-since-requires-clause-actor
retire-since-requires-clause-actor g c =
    let t = g.T.Technology in
    (tells t.meaning g.met.T.Technology.laws t.job_value c.self.view_is _ c.args.ticket c.self.invariant c.requires.stands).actor_is

pub retire-since-requires-clause-later : goal.retire-since-requires-clause-later
retire-since-requires-clause-later g c =
    let t = g.T.Technology in
    let told = tells t.meaning g.met.T.Technology.laws t.job_value c.self.view_is _ c.args.ticket c.self.invariant c.requires.stands in
    let below = rw c.self.invariant.counted at (c.meet.ensures.below c.args.ticket.slot) in
    let later : c.args.ticket.epoch < epoch_of c.self.inside.state c.args.ticket.slot = omega (arith, below, c.requires.read) in
    rw told.pending later

pub invariant_of-self : goal.invariant_of-self
invariant_of-self g c =
    let t = g.T.Technology in
    let told = tells t.meaning g.met.T.Technology.laws t.job_value c.self.view_is _ c.args.ticket c.self.invariant c.requires.stands in
    let dropped = rw told.pending at c.retire-since.ensures.dropped in
    rw (c.retire-since.ensures.state, c.add.ensures, c.meet.ensures.writer.1)
    (stands-freed t.meaning c.self.inside.state c.self.inside.journal.items c.self.inside.kept _ c.args.ticket.actor c.args.ticket.slot _ _ dropped.2 c.self.invariant)

pub returns-clause-answer : goal.returns-clause-answer
returns-clause-answer g c =
    let t = g.T.Technology in
    let told = tells t.meaning g.met.T.Technology.laws t.job_value c.self.view_is _ c.args.ticket c.self.invariant c.requires.stands in
    let dropped = rw told.pending at c.retire-since.ensures.dropped in
    (dropped.0, dropped.1 ∙ ap (λ p. epoch_of p.state c.args.ticket.slot) c.self.view_is)

pub returns-clause-later : goal.returns-clause-later
returns-clause-later g c =
    let t = g.T.Technology in
    let told = tells t.meaning g.met.T.Technology.laws t.job_value c.self.view_is _ c.args.ticket c.self.invariant c.requires.stands in
    let dropped = rw told.pending at c.retire-since.ensures.dropped in
    (let later = dropped.2.later in later)
