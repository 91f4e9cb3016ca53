use Rattle.std.proofs.Common.{refl, sym, subst}
use Rattle.pl_machine.specs.Machine.{Machine, MayCall, without}
use Rattle.pl_machine.proofs.Sound.{coherent-without, sound_still}
use Rattle.pl_machine.proofs.state.State.leave.Goals as goal

pub invariant_of-self : goal.invariant_of-self
invariant_of-self g c =
    let m = g.T.Technology.meaning in
    let st : Machine g.row.T-Plate.Denot = record { edited = c.self.inside.plates.edited; applied = c.self.inside.plates.applied; modes = c.self.inside.modes; epochs = c.self.inside.epochs; calls = c.self.inside.calls; left = c.self.inside.left; pending = c.self.inside.pending } in
    sound_still m st (without st c.args.session) refl refl c.self.invariant
    (coherent-without m st c.args.session (subst (λ s. MayCall s c.args.session) (sym c.self.view_is) c.requires.may) c.self.invariant.kept)
