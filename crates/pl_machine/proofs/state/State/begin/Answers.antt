use Rattle.std.proofs.Common.{refl, sym, subst}
use Rattle.pl_machine.specs.Machine.{IsSound, started, epoch_of}
use Rattle.pl_machine.proofs.Sound.{coherent-started, sound_still}
use Rattle.pl_machine.proofs.state.State.begin.Goals as goal

pub invariant_of-self : goal.invariant_of-self
invariant_of-self g c =
    let m = g.T.Technology.meaning in
    let st = c.args.self.now in
    let sound : IsSound m st = subst (IsSound m) c.self.view_is c.self.invariant in
    let epoch = epoch_of st c.args.slot in
    rw (c.number.ensures.value, c.seat_of.ensures.value, c.epoch-epoch.ensures)
    (subst (λ s. IsSound m (started s c.args.actor c.args.slot epoch)) (sym c.self.view_is)
    (sound_still m st (started st c.args.actor c.args.slot epoch) refl refl sound
    (coherent-started m st c.args.actor c.args.slot epoch (rw c.number.ensures.value at c.number.ensures.in_range) c.requires sound.kept)))
