-- The passes over the layers that find the support: from the top down, and from the bottom up.
use Rattle.std.specs.Prelude.{◌≡◌, ℕ, ◌-◌, true, false, min, List, length}
use Rattle.pl_grid.specs.Planes.{Cells}
use Rattle.pl_grid.specs.Strokes.{strokes_of}
use Rattle.pl_grid.specs.declared.stroke.Stroke.{Stroke}
use Rattle.pl_fill.specs.Layers.{layer_axis}
use Rattle.pl_support.specs.Support.{covered_below, support_at}
use Rattle.pl_steps.specs.Layers.{each}

-- of n layers, what the one has that is i below the highest
abbrev pub from_top : {X : Type 0} → ℕ → (ℕ → X) → ℕ → X
from_top n layer i = layer (n - 1 - i)

-- the strokes along the support cells of layer k
abbrev pub strokes_at : (ℕ → Cells) → ℕ → List Stroke
strokes_at cells k = strokes_of (layer_axis k) 2 (cells k)

-- after so many steps of the two passes: each layer takes one step down and one step up
pub record AfterSteps (slices : List Cells) (steps : ℕ) (found cells : List Cells) (strokes : List (List Stroke)) (ground : Cells) : Type 0 where
  -- the cells that are found on the way down, the highest layer's first
  pub down : found ≡ each (min steps (length slices)) (from_top (length slices) (support_at true false slices))
  -- those that are kept on the way up, and their strokes
  pub up : cells ≡ each (steps - length slices) (support_at true true slices)
  pub along : strokes ≡ each (steps - length slices) (strokes_at (support_at true true slices))
  -- what the slices have that were passed on the way up
  pub under : ground ≡ covered_below slices (steps - length slices)
