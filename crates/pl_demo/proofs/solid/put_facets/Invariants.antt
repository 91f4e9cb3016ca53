use Rattle.std.proofs.Common.{◌≡◌, ◌++◌, take}
use Rattle.std.specs.Prelude.{flat_map}
use Rattle.pl_demo.specs.Box.{facet_text, facets}
use Rattle.pl_demo.proofs.solid.put_facets.Given as goal

abbrev pub invariant-loop-corners : goal.invariant-loop-corners
invariant-loop-corners l = l.text ≡ l.initial.text ++ flat_map (facet_text l.size) (take l.corners-index facets)
