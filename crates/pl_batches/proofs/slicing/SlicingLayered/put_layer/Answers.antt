use Rattle.pl_layers.specs.Slices.{slice_of}
use Rattle.pl_steps.proofs.Each.{each_more}
use Rattle.pl_steps.proofs.Sweeping.{layer_there, slice_there, stands_next}
use Rattle.pl_batches.proofs.slicing.SlicingLayered.put_layer.Goals as goal

pub next_layer-requires : goal.next_layer-requires
next_layer-requires c = layer_there c.args.self.now.mesh.now c.args.self.now.quarter c.args.self.now.heights c.args._number c.args.made.now.sweep c.requires.before.0 c.requires.there

pub returns : goal.returns
returns c = (
  stands_next c.args.self.now.mesh.now c.args.self.now.quarter c.args.self.now.heights c.args._number c.args.made.now.sweep c.requires.before.0 _ c.in_ok-slice.ensures.next,
  each_more c.args._number (slice_of c.args.self.now.mesh.now c.args.self.now.quarter c.args.self.now.heights) c.args.made.now.slices.items _ c.in_ok-slice.slice c.requires.before.1
      (slice_there c.args.self.now.mesh.now c.args.self.now.quarter c.args.self.now.heights c.args._number c.args.made.now.sweep c.requires.before.0 _ c.in_ok-slice.ensures.layer) c.in_ok-push.ensures.items,
)
