-- A sweep that stands at a layer.
use Rattle.std.specs.Prelude.{ℕ, List}
use Rattle.pl_stl.specs.declared.mesh.Facet.{Facet}
use Rattle.pl_layers.specs.declared.heights.Heights.{Heights}
use Rattle.pl_layers.specs.Sweeps.{Swept}

-- the sweep of a mesh for which layer k comes next
abbrev pub standing : List Facet → ℕ → Heights → ℕ → Swept
standing mesh quarter heights k = record { mesh = mesh; quarter = quarter; heights = heights; layer = k }
