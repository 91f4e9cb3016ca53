use Rattle.std.proofs.Common.{◌≡◌, take}
use Rattle.pl_layers.specs.Slices.{inside_of}
use Rattle.pl_layers.proofs.slices.slice_facets.Given as goal

abbrev pub invariant-loop-facet : goal.invariant-loop-facet
invariant-loop-facet l = l.plane ≡ inside_of l.fn.bounds (take l.facet-index l.facets) l.corner
