use Rattle.std.proofs.Common.{subst, rules}
use Rattle.std.specs.Arc.{arc_value}
use Rattle.pl_machine.specs.Machine.{IsSound}
use Rattle.pl_machine.proofs.Excluding.{excludes_if_ok}
use Rattle.pl_machine.proofs.Sound.{epochs_fit}
use Rattle.pl_machine.proofs.state.State.call.Goals as goal

pub returns-clause-exact : goal.returns-clause-exact
returns-clause-exact g c =
    let m = g.T.Technology.meaning in
    let sound : IsSound m c.args.self.now = subst (IsSound m) c.self.view_is c.self.invariant in
    excludes_if_ok m g.met.T.Technology.laws c.args.self.now sound.kept (arc_value c.args.command.now) c.make.result (search rules)

pub returns-clause-room : goal.returns-clause-room
returns-clause-room g c =
    let m = g.T.Technology.meaning in
    let sound : IsSound m c.args.self.now = subst (IsSound m) c.self.view_is c.self.invariant in
    λ k. epochs_fit m c.args.self.now k sound
