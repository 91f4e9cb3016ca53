use Rattle.std.proofs.Common.{ap, ◌∙◌, ◌&&◌, subst}
use Rattle.pl_machine.specs.Machine.{mode_of, IsCoherent}
use Rattle.pl_machine.specs.Look.{looks}
use Rattle.pl_machine.specs.declared.look.Look.TheVariants.{Started}
use Rattle.pl_machine.proofs.Looking.{looks_started}
use Rattle.pl_machine.proofs.Applying.{started_present}
use Rattle.pl_machine.proofs.state.State.stoppable.Goals as goal

pub returns : goal.returns
returns g c =
    let m = g.T.Technology.meaning in
    let st = c.args.self.now in
    let kept : IsCoherent m st = subst (IsCoherent m) c.self.view_is c.self.invariant.kept in
    λ k. c.found.ensures k ∙ ap (λ b. b && looks Started (mode_of st k)) (c.present.ensures k ∙ (λ i. m.present (c.applied.ensures i) k) ∙ ap (λ s. m.present s.applied k) c.self.view_is)
    ∙ ap (λ b. m.present st.applied k && b) (looks_started (mode_of st k)) ∙ started_present m st k kept
