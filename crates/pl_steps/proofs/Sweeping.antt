-- What a sweep gives that stands at a layer.
use Rattle.std.proofs.Common.{◌≡◌, ℕ, ◌+◌, ◌<◌, List, sym, ap, subst, ◌∙◌}
use Rattle.pl_stl.specs.declared.mesh.Facet.{Facet}
use Rattle.pl_grid.specs.Planes.{Cells}
use Rattle.pl_layers.specs.declared.heights.Heights.{Heights}
use Rattle.pl_layers.specs.Heights.{layer_count_of}
use Rattle.pl_layers.specs.Slices.{slice_of}
use Rattle.pl_layers.specs.Sweeps.{Swept}
use Rattle.pl_steps.specs.Sweeps.{standing}

module _ (mesh : List Facet) (quarter : ℕ) (heights : Heights) (k : ℕ) (sweep : Swept) (stands : sweep ≡ standing mesh quarter heights k) where
  pub layer_there : k < layer_count_of heights mesh → sweep.layer < layer_count_of sweep.heights sweep.mesh
  layer_there less = subst (λ (s : Swept). s.layer < layer_count_of s.heights s.mesh) (sym stands) less

  pub slice_there : (slice : Cells) → slice ≡ slice_of sweep.mesh sweep.quarter sweep.heights sweep.layer → slice ≡ slice_of mesh quarter heights k
  slice_there slice is = is ∙ ap (λ (s : Swept). slice_of s.mesh s.quarter s.heights s.layer) stands

  pub stands_next : (after : Swept) → after ≡ standing sweep.mesh sweep.quarter sweep.heights (sweep.layer + 1) → after ≡ standing mesh quarter heights (k + 1)
  stands_next after next = next ∙ ap (λ (s : Swept). standing s.mesh s.quarter s.heights (s.layer + 1)) stands
