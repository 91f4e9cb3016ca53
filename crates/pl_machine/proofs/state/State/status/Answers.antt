use Rattle.std.proofs.Common.{◌≡◌, ℕ, ap, ◌∙◌, ◌&&◌}
use Rattle.pl_tech.specs.Slots.{has}
use Rattle.pl_machine.specs.Look.{looks}
use Rattle.pl_machine.specs.Machine.{mode_of}
use Rattle.pl_machine.specs.declared.look.Look.TheVariants.{Started, Done}
use Rattle.pl_machine.proofs.Looking.{looks_started, looks_done}
use Rattle.pl_machine.proofs.state.State.status.Goals as goal

pub returns : goal.returns
returns g c =
    let m = g.T.Technology.meaning in
    let st = c.args.self.now in
    let present : (k : ℕ) → has c.present-present.result k ≡ m.present st.applied k = λ k. c.present-present.ensures k ∙ (λ i. m.present (c.applied.ensures i) k) ∙ ap (λ s. m.present s.applied k) c.self.view_is in (
      present,
      (λ k. c.found.ensures k ∙ ap (λ b. b && looks Started (mode_of st k)) (present k) ∙ ap (λ b. m.present st.applied k && b) (looks_started (mode_of st k))),
      (λ k. c.found-2.ensures k ∙ ap (λ b. b && looks Done (mode_of st k)) (present k) ∙ ap (λ b. m.present st.applied k && b) (looks_done (mode_of st k))),
    )
