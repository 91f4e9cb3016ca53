use Rattle.std.proofs.Common.{◌≡◌, ◌≤◌, ap, sym, ◌∙◌, subst, Some, refl}
use Rattle.pl_machine.specs.Machine.{Machine, IsSound, Drops, pending_of, epoch_of, freed, finished}
use Rattle.pl_machine.proofs.Sound.{coherent-freed, coherent-finished, may_finish, sound_still}
use Rattle.pl_machine.proofs.state.State.publish.Goals as goal

pub invariant_of-self : goal.invariant_of-self
invariant_of-self g c =
    let m = g.T.Technology.meaning in
    let st : Machine g.row.T-Plate.Denot = record { edited = c.self.inside.plates.edited; applied = c.self.inside.plates.applied; modes = c.self.inside.modes; epochs = c.self.inside.epochs; calls = c.self.inside.calls; left = c.self.inside.left; pending = c.self.inside.pending } in
    let p = c.in-Some.pending in
    let drops : Drops st c.args.actor p.slot p.epoch (epoch_of st p.slot) = record {
      actor_is = c.requires.actor;
      pending = ap (λ s. pending_of s c.args.actor) c.self.view_is ∙ sym c.in-Some.ensures;
      current = refl;
      later = rw c.number-at.ensures.value at c.if-now-pending.true;
    } in
    rw c.seat_of.ensures.value (sound_still m st (freed st c.args.actor) refl refl c.self.invariant (coherent-freed m st c.args.actor p.slot p.epoch (epoch_of st p.slot) drops c.self.invariant.kept))

pub invariant_of-self-in-Some : goal.invariant_of-self-in-Some
invariant_of-self-in-Some g c =
    let m = g.T.Technology.meaning in
    let st : Machine g.row.T-Plate.Denot = record { edited = c.self.inside.plates.edited; applied = c.self.inside.plates.applied; modes = c.self.inside.modes; epochs = c.self.inside.epochs; calls = c.self.inside.calls; left = c.self.inside.left; pending = c.self.inside.pending } in
    let p = c.in-Some.pending in
    let may = may_finish m st c.args.actor p c.self.invariant c.requires.actor (ap (λ s. pending_of s c.args.actor) c.self.view_is ∙ sym c.in-Some.ensures) (rw c.number-at.ensures.value at c.if-now-pending.false) in
    rw (c.seat_of.ensures.value, c.number-at.ensures.value)
    (sound_still m st (finished st c.args.actor p.slot) refl refl c.self.invariant (coherent-finished m st c.args.actor p.slot may.0 c.self.invariant.kept))

pub returns-clause-published : goal.returns-clause-published
returns-clause-published g c =
    let is : pending_of c.args.self.now c.args.actor ≡ Some c.in-Some.pending = sym c.in-Some.ensures in
    let sound : IsSound g.T.Technology.meaning c.args.self.now = subst (IsSound g.T.Technology.meaning) c.self.view_is c.self.invariant in
    let low : epoch_of c.args.self.now c.in-Some.pending.slot ≤ c.in-Some.pending.epoch =
    subst (λ s. epoch_of s c.in-Some.pending.slot ≤ c.in-Some.pending.epoch) c.self.view_is (rw c.number-at.ensures.value at c.if-now-pending.false) in
    let may = may_finish g.T.Technology.meaning c.args.self.now c.args.actor c.in-Some.pending sound c.requires.actor is low in
    rw is (record { actor_is = c.requires.actor; pending = is; started_by = may.0; current = may.1 })

pub returns-clause-state : goal.returns-clause-state
returns-clause-state g c =
    let is : pending_of c.args.self.now c.args.actor ≡ Some c.in-Some.pending = sym c.in-Some.ensures in
    rw (is, ← c.self.view_is, c.number-at.ensures.value, c.seat_of.ensures.value) refl
