use Rattle.std.proofs.Common.{ℕ, ◌==◌, ◌||◌, arith, ◌&&◌, ap, sym, ◌∙◌, subst}
use Rattle.pl_tech.specs.Slots.{has}
use Rattle.pl_machine.specs.Look.{looks}
use Rattle.pl_machine.specs.Machine.{mode_of, IsCoherent}
use Rattle.pl_machine.proofs.Looking.{found_yes, found_no, found_all}
use Rattle.pl_machine.proofs.state.State.found.Goals.{then-is_found, else-is_found}
use Rattle.pl_machine.proofs.state.State.found.Goals as goal

pub loop-n-preserved : goal.loop-n-preserved
loop-n-preserved g c =
    let passes : ℕ → _ = λ k. has c.args.set k && looks c.args.look (mode_of c.args.self.now k) in
    let here = c.is_found.ensures ∙ ap passes c.of-slot.ensures in
    elim c.if-is_found.branch [
      | then-is_found w ↦ rw w.found-is (found_yes passes c.loop-n.n c.loop-n.found w.with-found.result (sym here ∙ w.if-is_found.true) (λ k. w.with-found.ensures k ∙ ap (λ s. (k == s) || has c.loop-n.found k) c.of-slot.ensures) c.loop-n.invariant)
      | else-is_found w ↦ rw w.found-is (found_no passes c.loop-n.n c.loop-n.found (sym here ∙ w.if-is_found.false) c.loop-n.invariant)
    ]

pub returns : goal.returns
returns g c =
    let kept : IsCoherent g.T.Technology.meaning c.args.self.now = subst (IsCoherent g.T.Technology.meaning) c.self.view_is c.self.invariant.kept in
    found_all g.T.Technology.meaning c.args.self.now c.args.set c.args.look c.loop-n.n c.loop-n.found kept (omega (arith, c.loop-n-test.false)) c.loop-n.invariant
