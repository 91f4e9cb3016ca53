use Rattle.std.proofs.Common.{arith, sym, ap, ◌∙◌}
use Rattle.pl_prints.specs.Layers.{Layers, layer_in}
use Rattle.pl_prints.proofs.TopLemmas.{layer_is, no_layer, past_layers}
use Rattle.pl_prints.proofs.layers.ObjectLayers.layer_with_top.Goals as goal

pub returns-in-Some-clause-layer : goal.returns-in-Some-clause-layer
returns-in-Some-clause-layer c =
    let seen : Layers = record { tool = c.self.inside.tool; heights = c.self.inside.heights; count = c.self.inside.count } in
    sym (layer_is seen c.in-Some.number c.args.top.now.0 c.self.invariant.heights c.in-Some.ensures (omega arith)) ∙ ap (λ (l : Layers). layer_in l c.args.top.now.0) c.self.view_is

pub returns-in_default-clause-layer : goal.returns-in_default-clause-layer
returns-in_default-clause-layer c =
    let seen : Layers = record { tool = c.self.inside.tool; heights = c.self.inside.heights; count = c.self.inside.count } in
    sym (past_layers seen c.in-Some.number c.args.top.now.0 c.self.invariant.heights c.in-Some.ensures (omega arith)) ∙ ap (λ (l : Layers). layer_in l c.args.top.now.0) c.self.view_is

pub returns-in_default-2-clause-layer : goal.returns-in_default-2-clause-layer
returns-in_default-2-clause-layer c =
    let seen : Layers = record { tool = c.self.inside.tool; heights = c.self.inside.heights; count = c.self.inside.count } in
    sym (no_layer seen c.args.top.now.0 (λ k _. c.in_default.ensures k)) ∙ ap (λ (l : Layers). layer_in l c.args.top.now.0) c.self.view_is
