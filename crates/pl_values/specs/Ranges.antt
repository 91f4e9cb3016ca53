-- Plates whose options are in their ranges, and what stands at a height of a print.
use Rattle.std.specs.Prelude.{◌≡◌, ℤ, ℕ, ◌<◌}
use Rattle.std.specs.List.{All}
use Rattle.std.specs.Option.{IfSome}
use Rattle.pl_options.specs.KeyMap.{IsConfig, IsOverrides}
use Rattle.pl_layers.specs.Heights.{z_of}
use Rattle.pl_model.specs.declared.object.Object.{Object}
use Rattle.pl_model.specs.Contents.{Contents}
use Rattle.pl_model.specs.Editing.{IsAt}
use Rattle.pl_model.specs.Problem.{heights_for}
use Rattle.pl_values.specs.ObjectValues.{layers_for, tool_for}

-- the configuration has a value of each option, and its values and those of the objects are in their ranges
pub record IsInRange (plate : Contents) : Type 0 where
  pub config : IsConfig plate.config
  pub overrides : All (λ place. IfSome place (λ object. IsOverrides object.overrides)) plate.places

-- a layer of some object has this top
pub record IsTop (plate : Contents) (z : ℤ) : Type 0 where
  pub place : ℕ
  pub object : Object
  pub layer : ℕ
  pub there : IsAt plate.places place object
  pub below : layer < layers_for plate.config object
  pub top : z ≡ z_of (heights_for plate.config object) layer

-- and this is the object's tool
pub record IsToolAt (plate : Contents) (z : ℤ) (tool : ℕ) : Type 0 where
  pub layer : IsTop plate z
  pub tool_is : tool ≡ tool_for plate.config layer.object
