use Rattle.std.proofs.Common.{◌≡◌, take, Bool}
use Rattle.std.specs.List.{count_by, All}
use Rattle.pl_stl.specs.declared.mesh.Facet.{Facet}
use Rattle.pl_layers.specs.Turned.{turned_mesh}
use Rattle.pl_layers.specs.Sweeps.{facet_of, IsStart}
use Rattle.pl_layers.proofs.sweep.starts_of.Given as goal

abbrev pub invariant-loop-i : goal.invariant-loop-i
invariant-loop-i l = All (IsStart l.quarter l.facets l.heights l.floor.0) l.starts.items × ((p : Facet → Bool) → count_by (λ s. p (facet_of l.quarter l.facets s)) l.starts.items ≡ count_by p (turned_mesh l.quarter (take l.i l.facets)))
