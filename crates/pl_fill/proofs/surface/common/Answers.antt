use Rattle.std.proofs.Common.{◌≤◌, ◌∙◌, ap, length, arith}
use Rattle.std.proofs.lemmas.List.{take_all}
use Rattle.pl_grid.specs.Planes.{plane_of}
use Rattle.pl_fill.proofs.SurfaceLemmas.{kept_test, kept_none, kept_more}
use Rattle.pl_fill.proofs.surface.common.Goals as goal

pub loop-layer-init : goal.loop-layer-init
loop-layer-init c = kept_none c.args.plane c.bounds-bounds.ensures.full

pub loop-layer-preserved : goal.loop-layer-preserved
loop-layer-preserved c = kept_more c.args.plane c.args.layers.now c.loop-layer.layer-index c.loop-layer.kept c.in_ok-lost.lost c.in_ok-kept.kept c.layer-item.result c.loop-layer.invariant (omega arith) c.layer-item.is c.in_ok-lost.ensures c.in_ok-kept.ensures

pub returns : goal.returns
returns c =
    let all : length c.args.layers.now ≤ c.loop-layer.layer-index = omega arith in
    c.loop-layer.invariant ∙ ap (λ qs. plane_of c.args.plane.bounds (kept_test c.args.plane qs)) (take_all c.loop-layer.layer-index c.args.layers.now all)
