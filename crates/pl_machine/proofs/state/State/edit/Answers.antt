use Rattle.std.proofs.Common.{◌<◌, ◌-◌, ◌^◌, sym, subst}
use Rattle.pl_machine.specs.Machine.{calls_of}
use Rattle.pl_machine.proofs.Sound.{sound-edited}
use Rattle.pl_machine.proofs.state.State.edit.Goals as goal

pub invariant_of-self-2 : goal.invariant_of-self-2
invariant_of-self-2 g c =
    rw c.in_ok-reply.ensures.state
    (sound-edited g.T.Technology.meaning _ _ c.args.session c.requires.may.from_1 c.requires.may.to_16
    (subst (λ s. calls_of s c.args.session < 2 ^ 32 - 1) (sym c.self.view_is) c.requires.room) c.self.invariant)
