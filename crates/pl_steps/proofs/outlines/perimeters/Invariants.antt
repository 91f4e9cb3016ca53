use Rattle.std.proofs.Common.{◌≡◌, map, take}
use Rattle.pl_steps.specs.Layers.{loops_in, inner_of}
use Rattle.pl_steps.proofs.outlines.perimeters.Given as goal

abbrev pub invariant-loop-slice : goal.invariant-loop-slice
invariant-loop-slice l = (l.loops.items ≡ map (loops_in l.count) (take l.slice-index l.slice-items)) × (l.inner.items ≡ inner_of l.count (take l.slice-index l.slice-items))
