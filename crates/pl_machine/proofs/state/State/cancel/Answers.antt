use Rattle.std.proofs.Common.{◌≡◌, ℕ, ◌<◌, ap, sym, ◌∙◌, ◌-◌, ◌^◌, subst}
use Rattle.pl_tech.specs.Slots.{has}
use Rattle.pl_machine.specs.Machine.{Machine, calls_of, is_started, mode_of}
use Rattle.pl_machine.proofs.Sound.{sound-fallen, epochs_fit}
use Rattle.pl_machine.proofs.Applying.{cancel_is, cancel_ready}
use Rattle.pl_machine.proofs.state.State.cancel.Goals as goal

pub fall-requires : goal.fall-requires
fall-requires g c = λ k. epochs_fit g.T.Technology.meaning _ k c.self.invariant

pub invariant_of-self : goal.invariant_of-self
invariant_of-self g c =
    let m = g.T.Technology.meaning in
    let st : Machine g.row.T-Plate.Denot = record { edited = c.self.inside.plates.edited; applied = c.self.inside.plates.applied; modes = c.self.inside.modes; epochs = c.self.inside.epochs; calls = c.self.inside.calls; left = c.self.inside.left; pending = c.self.inside.pending } in
    let same : (k : ℕ) → has c.stoppable-hit.result k ≡ is_started (mode_of st k) = λ k. c.stoppable-hit.ensures k ∙ ap (λ s. is_started (mode_of s k)) (sym c.self.view_is) in
    rw (c.fall.ensures.modes, c.fall.ensures.epochs)
    (sound-fallen m st c.self.inside.plates.edited c.self.inside.plates.applied (has c.stoppable-hit.result) c.args.session c.requires.may.from_1 c.requires.may.to_16
    (subst (λ s. calls_of s c.args.session < 2 ^ 32 - 1) (sym c.self.view_is) c.requires.room)
    (cancel_ready m g.met.T.Technology.laws st (has c.stoppable-hit.result) same c.self.invariant.kept) c.self.invariant)

pub returns-clause-state : goal.returns-clause-state
returns-clause-state g c =
    let m = g.T.Technology.meaning in
    let st : Machine g.row.T-Plate.Denot = record { edited = c.self.inside.plates.edited; applied = c.self.inside.plates.applied; modes = c.self.inside.modes; epochs = c.self.inside.epochs; calls = c.self.inside.calls; left = c.self.inside.left; pending = c.self.inside.pending } in
    rw (← c.self.view_is, c.fall.ensures.modes, c.fall.ensures.epochs)
    (cancel_is m st c.stoppable-hit.result c.args.session (λ k. c.stoppable-hit.ensures k ∙ ap (λ s. is_started (mode_of s k)) (sym c.self.view_is)))
