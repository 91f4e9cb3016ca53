use Rattle.std.proofs.Common.{ap, ◌∙◌}
use Rattle.pl_machine.proofs.Looking.{undone_is, least_undone}
use Rattle.pl_machine.proofs.state.State.undone.Goals as goal

pub returns : goal.returns
returns g c =
    let m = g.T.Technology.meaning in
    let st = c.args.self.now in
    least_undone m st c.minus.result c.least.result
    (undone_is m st c.present-present.result c.found.result c.minus.result (λ k. c.present-present.ensures k ∙ (λ i. m.present (c.applied.ensures i) k) ∙ ap (λ s. m.present s.applied k) c.self.view_is) c.found.ensures c.minus.ensures)
    c.least.ensures
