use Rattle.std.proofs.Common.{refl, ap, ◌∙◌}
use Rattle.pl_plant.proofs.Stands.{stands-started, stands_in-started}
use Rattle.pl_plant.proofs.plant.Plant.start.Goals as goal

-- what a slot needs is present, so it is below 100, and it is Done
pub job-requires-clause-needed : goal.job-requires-clause-needed
job-requires-clause-needed g c =
    let starts = c.if-not-is_ready.ensures.0 refl in
    let laws = g.met.T.Technology.laws in
    rw c.applied.ensures
    (λ n need. c.self.invariant.keeps n (laws.present_below _ n (laws.needs_present _ c.args.slot n starts.can.ready.present need)) (starts.can.ready.needed n need))

pub invariant_of-self : goal.invariant_of-self
invariant_of-self g c =
    rw (c.begin-epoch.ensures.state, c.add.ensures, c.begin-epoch.ensures.epoch)
    (stands-started g.T.Technology.meaning c.self.inside.state c.self.inside.journal.items c.self.inside.kept _ c.args.actor c.args.slot _ (c.if-not-is_ready.ensures.0 refl) c.self.invariant)

pub returns-clause-stands : goal.returns-clause-stands
returns-clause-stands g c =
    rw (c.add.ensures, c.of.ensures)
    (stands_in-started g.T.Technology.meaning c.self.inside.state c.self.inside.journal.items c.self.inside.kept _ c.args.actor c.args.slot c.begin-epoch.result _ c.self.invariant
    (c.in_ok-job.ensures.value ∙ ap (λ p. g.T.Technology.meaning.value p c.args.slot) c.applied.ensures))
