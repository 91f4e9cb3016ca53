use Rattle.std.proofs.Common.{◌<◌, refl, ap, sym, subst, ◌∙◌}
use Rattle.pl_machine.specs.Machine.{Machine, Drops, pending_of, epoch_of, freed}
use Rattle.pl_machine.proofs.Sound.{coherent-freed, sound_still}
use Rattle.pl_machine.proofs.state.State.retire.Goals as goal

pub invariant_of-self : goal.invariant_of-self
invariant_of-self g c =
    let m = g.T.Technology.meaning in
    let st : Machine g.row.T-Plate.Denot = record { edited = c.self.inside.plates.edited; applied = c.self.inside.plates.applied; modes = c.self.inside.modes; epochs = c.self.inside.epochs; calls = c.self.inside.calls; left = c.self.inside.left; pending = c.self.inside.pending } in
    let p = c.in-Some.pending in
    let later : p.epoch < epoch_of c.args.self.now p.slot = rw (← c.in-Some.ensures) at c.requires.later in
    let drops : Drops st c.args.actor p.slot p.epoch (epoch_of st p.slot) = record {
      actor_is = c.requires.actor;
      pending = ap (λ s. pending_of s c.args.actor) c.self.view_is ∙ sym c.in-Some.ensures;
      current = refl;
      later = subst (λ s. p.epoch < epoch_of s p.slot) (sym c.self.view_is) later;
    } in
    rw c.seat_of.ensures.value (sound_still m st (freed st c.args.actor) refl refl c.self.invariant (coherent-freed m st c.args.actor p.slot p.epoch (epoch_of st p.slot) drops c.self.invariant.kept))
