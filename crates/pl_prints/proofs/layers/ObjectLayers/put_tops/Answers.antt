use Rattle.std.proofs.Common.{FitsSigned, w64, ◌≤◌, rules, ap, ◌∙◌, arith}
use Rattle.std.proofs.lemmas.Int.{to_z-of_z}
use Rattle.pl_layers.specs.Heights.{z_of}
use Rattle.pl_prints.specs.Layers.{Layers}
use Rattle.pl_prints.proofs.TopLemmas.{tops_more, few_more}
use Rattle.pl_prints.proofs.layers.ObjectLayers.put_tops.Goals as goal

pub loop-layer-preserved : goal.loop-layer-preserved
loop-layer-preserved c =
    let fits : FitsSigned w64 c.z_of.result.0 = search rules in
    tops_more c.args.self.now.heights c.loop-layer.layer c.args.tops.now.items c.loop-layer.tops.items c.push.new.self.items _ c.loop-layer.invariant (simp to_z-of_z (c.z_of.ensures ∙ ap (λ (l : Layers). z_of l.heights c.loop-layer.layer) c.self.view_is)) c.in_ok-push.ensures.items

pub returns-clause-few : goal.returns-clause-few
returns-clause-few c =
    let few : c.loop-layer.layer ≤ 100000 = omega (arith, c.self.invariant.few) in
    few_more c.args.self.now.heights c.loop-layer.layer c.args.tops.now.items c.loop-layer.tops.items c.loop-layer.invariant few
