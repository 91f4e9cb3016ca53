use Rattle.std.proofs.Common.{◌≤◌, ◌+◌, ◌-◌, length, false, arith, sym, subst}
use Rattle.std.proofs.Math.ListN.{get_or-eq_default}
use Rattle.pl_machine.specs.Machine.{IsSound}
use Rattle.pl_machine.proofs.state.State.has_left.Goals as goal

pub returns-then-n-ge16 : goal.returns-then-n-ge16
returns-then-n-ge16 g c =
    let sound : IsSound g.T.Technology.meaning c.args.self.now = subst (IsSound g.T.Technology.meaning) c.self.view_is c.self.invariant in
    let far : length c.args.self.now.left ≤ c.args.n + 1 - 1 = omega (arith, sound.kept.left_long, c.if-n-ge16.true) in
    sym (get_or-eq_default c.args.self.now.left false far)
