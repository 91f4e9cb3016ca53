-- What the heights of a print have to know of an object: its tool, its heights, and how many layers it has.
use Rattle.std.specs.Prelude.{ℤ, ℕ, ◌<◌, ◌≤◌, ◌==◌, Bool, ◌&&◌, List, map, position, is_some, Option}
use Rattle.std.specs.Ordering.{int_eq}
use Rattle.std.specs.List.{range_with_len, list_any}
use Rattle.pl_options.specs.KeyMap.{KeyMap}
use Rattle.pl_layers.specs.declared.heights.Heights.{Heights}
use Rattle.pl_layers.specs.Heights.{AreHeights, z_of}
use Rattle.pl_model.specs.declared.object.Object.{Object}
use Rattle.pl_model.specs.Problem.{heights_for}
use Rattle.pl_values.specs.ObjectValues.{layers_for, tool_for}

pub record Layers : Type 0 where
  pub tool : ℕ
  pub heights : Heights
  pub count : ℕ

-- the tool is one of four, the heights are in the ranges of their options, and the layers are few
pub record AreLayers (layers : Layers) : Type 0 where
  pub tool : layers.tool < 4
  pub heights : AreHeights layers.heights
  pub few : layers.count ≤ 100000

-- those of an object
abbrev pub layers_in : KeyMap → Object → Layers
layers_in config object = record { tool = tool_for config object; heights = heights_for config object; count = layers_for config object }

-- the tops of the layers, from the lowest on
abbrev pub tops_in : Layers → List ℤ
tops_in layers = map (z_of layers.heights) (range_with_len 0 layers.count)

-- the layer with this top
abbrev pub layer_in : Layers → ℤ → Option ℕ
layer_in layers z = position (λ top. int_eq top z) (tops_in layers)

-- they are of this tool, and one of them has this top
abbrev pub is_printed : ℤ → ℕ → Layers → Bool
is_printed z tool layers = (layers.tool == tool) && is_some (layer_in layers z)

-- some of them is
abbrev pub has_printed : List Layers → ℤ → ℕ → Bool
has_printed objects z tool = list_any (is_printed z tool) objects
