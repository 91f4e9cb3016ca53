use Rattle.std.proofs.Common.{◌≡◌, ℕ, ◌&&◌, not, ◌<◌, ap, sym, ◌∙◌, ◌-◌, ◌^◌, subst}
use Rattle.pl_tech.specs.Slots.{has}
use Rattle.pl_machine.specs.Machine.{Machine, calls_of, Replies, is_invalid, is_hit, mode_of}
use Rattle.pl_machine.specs.declared.entry.Command.TheVariants.{Apply}
use Rattle.pl_machine.proofs.Sound.{sound-fallen, epochs_fit}
use Rattle.pl_machine.proofs.Looking.{looks_held}
use Rattle.pl_machine.proofs.Applying.{apply_is, applied_replies, apply_ready, hits}
use Rattle.pl_machine.proofs.state.State.apply.Goals as goal

pub fall-requires : goal.fall-requires
fall-requires g c = λ k. epochs_fit g.T.Technology.meaning _ k c.self.invariant

pub invariant_of-self : goal.invariant_of-self
invariant_of-self g c =
    let m = g.T.Technology.meaning in
    let st : Machine g.row.T-Plate.Denot = record { edited = c.self.inside.plates.edited; applied = c.self.inside.plates.applied; modes = c.self.inside.modes; epochs = c.self.inside.epochs; calls = c.self.inside.calls; left = c.self.inside.left; pending = c.self.inside.pending } in
    let same : (k : ℕ) → has c.found-hit.result k ≡ is_hit m st k =
    hits m st c.touched.result c.found-hit.result c.touched.ensures (λ k. c.found-hit.ensures k ∙ ap (λ b. has c.touched.result k && b) (looks_held (mode_of c.args.self.now k)) ∙ ap (λ s. has c.touched.result k && not (is_invalid (mode_of s k))) (sym c.self.view_is)) in
    rw (c.fall.ensures.modes, c.fall.ensures.epochs, c.settle.ensures, c.in_ok-copied.ensures)
    (sound-fallen m st c.self.inside.plates.edited c.self.inside.plates.edited (has c.found-hit.result) c.args.session c.requires.may.from_1 c.requires.may.to_16
    (subst (λ s. calls_of s c.args.session < 2 ^ 32 - 1) (sym c.self.view_is) c.requires.room)
    (apply_ready m g.met.T.Technology.laws st (has c.found-hit.result) same c.self.invariant.kept) c.self.invariant)

pub returns-clause-reply : goal.returns-clause-reply
returns-clause-reply g c =
    let m = g.T.Technology.meaning in
    let st : Machine g.row.T-Plate.Denot = record { edited = c.self.inside.plates.edited; applied = c.self.inside.plates.applied; modes = c.self.inside.modes; epochs = c.self.inside.epochs; calls = c.self.inside.calls; left = c.self.inside.left; pending = c.self.inside.pending } in
    subst (λ s. Replies m s Apply c.applied_reply.result) c.self.view_is
    (applied_replies m st c.applied_reply.result c.found-hit.result
    (hits m st c.touched.result c.found-hit.result c.touched.ensures (λ k. c.found-hit.ensures k ∙ ap (λ b. has c.touched.result k && b) (looks_held (mode_of c.args.self.now k)) ∙ ap (λ s. has c.touched.result k && not (is_invalid (mode_of s k))) (sym c.self.view_is)))
    (rw c.same-same.ensures at c.applied_reply.ensures))

pub returns-clause-state : goal.returns-clause-state
returns-clause-state g c =
    let m = g.T.Technology.meaning in
    let st : Machine g.row.T-Plate.Denot = record { edited = c.self.inside.plates.edited; applied = c.self.inside.plates.applied; modes = c.self.inside.modes; epochs = c.self.inside.epochs; calls = c.self.inside.calls; left = c.self.inside.left; pending = c.self.inside.pending } in
    rw (← c.self.view_is, c.fall.ensures.modes, c.fall.ensures.epochs, c.settle.ensures, c.in_ok-copied.ensures)
    (apply_is m st c.found-hit.result c.args.session (hits m st c.touched.result c.found-hit.result c.touched.ensures (λ k. c.found-hit.ensures k ∙ ap (λ b. has c.touched.result k && b) (looks_held (mode_of c.args.self.now k)) ∙ ap (λ s. has c.touched.result k && not (is_invalid (mode_of s k))) (sym c.self.view_is))))
