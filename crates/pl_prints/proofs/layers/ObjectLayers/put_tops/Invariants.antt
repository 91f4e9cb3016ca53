use Rattle.std.proofs.Common.{◌≡◌, ◌++◌, map}
use Rattle.std.specs.List.{range_with_len}
use Rattle.pl_layers.specs.Heights.{z_of}
use Rattle.pl_prints.proofs.layers.ObjectLayers.put_tops.Given as goal

abbrev pub invariant-loop-layer : goal.invariant-loop-layer
invariant-loop-layer l = l.tops.items ≡ l.initial.tops.items ++ map (z_of l.self.heights) (range_with_len 0 l.layer)
