use Rattle.std.proofs.Common.{◌≡◌}
use Rattle.pl_layers.specs.Slices.{slice_of}
use Rattle.pl_steps.specs.Layers.{each}
use Rattle.pl_steps.specs.Sweeps.{standing}
use Rattle.pl_steps.proofs.slicing.slices.Given as goal

abbrev pub invariant-loop-layer : goal.invariant-loop-layer
invariant-loop-layer l = record {
  stands : l.sweep ≡ standing l.mesh l.quarter l.fn.heights l._layer;
  made : l.slices.items ≡ each l._layer (slice_of l.mesh l.quarter l.fn.heights);
}
