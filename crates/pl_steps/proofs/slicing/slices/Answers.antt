use Rattle.std.proofs.Common.{◌≡◌, ◌<◌, length, ap, ◌∙◌, arith}
use Rattle.std.proofs.lemmas.List.FromFn.{length-map-range_with_len}
use Rattle.pl_layers.specs.Heights.{layer_count_of}
use Rattle.pl_layers.specs.Slices.{slice_of}
use Rattle.pl_steps.proofs.Each.{each_more}
use Rattle.pl_steps.proofs.Sweeping.{layer_there, slice_there, stands_next}
use Rattle.pl_steps.proofs.slicing.slices.Goals as goal

pub next_layer-requires : goal.next_layer-requires
next_layer-requires c =
    let less : c.loop-layer._layer < layer_count_of c.args.heights c.args.mesh.now = omega arith in
    layer_there c.args.mesh.now c.args.quarter c.args.heights c.loop-layer._layer c.loop-layer.sweep c.loop-layer.invariant.stands less

pub loop-layer-preserved : goal.loop-layer-preserved
loop-layer-preserved c = record {
  stands = stands_next c.args.mesh.now c.args.quarter c.args.heights c.loop-layer._layer c.loop-layer.sweep c.loop-layer.invariant.stands _ c.in_ok-next_layer.ensures.next;
  made = each_more c.loop-layer._layer (slice_of c.args.mesh.now c.args.quarter c.args.heights) c.loop-layer.slices.items _ c.in_ok-next_layer.field-0 c.loop-layer.invariant.made (slice_there c.args.mesh.now c.args.quarter c.args.heights c.loop-layer._layer c.loop-layer.sweep c.loop-layer.invariant.stands _ c.in_ok-next_layer.ensures.layer) c.in_ok-push.ensures.items;
}

pub returns-clause-few : goal.returns-clause-few
returns-clause-few c =
    let count : length c.of-2.result ≡ c.loop-layer._layer = ap length (c.of-2.ensures ∙ c.loop-layer.invariant.made) ∙ length-map-range_with_len (slice_of c.args.mesh.now c.args.quarter c.args.heights) 0 c.loop-layer._layer in
    omega (arith, count, c.layer_count-layer-end.ensures.few)
