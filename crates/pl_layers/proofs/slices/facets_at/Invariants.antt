use Rattle.std.proofs.Common.{◌≡◌, take}
use Rattle.std.specs.List.{filter}
use Rattle.pl_layers.specs.Turned.{turned_mesh}
use Rattle.pl_layers.specs.Filling.{spans}
use Rattle.pl_layers.proofs.slices.facets_at.Given as goal

abbrev pub invariant-loop-facet : goal.invariant-loop-facet
invariant-loop-facet l = l.spanning.items ≡ filter (spans l.z.0) (turned_mesh l.quarter (take l.facet-index l.facets))
