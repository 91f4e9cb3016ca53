-- What the steps of an object need of the options that hold for it.
use Rattle.std.specs.Prelude.{◌<◌, ◌≤◌}
use Rattle.pl_keys.specs.declared.key.Key.TheVariants as key
use Rattle.pl_options.specs.KeyMap.{KeyMap}
use Rattle.pl_layers.specs.Heights.{AreHeights}
use Rattle.pl_model.specs.declared.object.Object.{Object}
use Rattle.pl_model.specs.Problem.{heights_for}
use Rattle.pl_values.specs.Options.{whole_for, flag_for}
use Rattle.pl_values.specs.ObjectValues.{tool_for}
use Rattle.pl_steps.specs.declared.options.ObjectOptions.{ObjectOptions}

abbrev pub options_for : KeyMap → Object → ObjectOptions
options_for config object = record {
  perimeters = whole_for config object key.Perimeters;
  top = whole_for config object key.TopSolidLayers;
  bottom = whole_for config object key.BottomSolidLayers;
  density = whole_for config object key.FillDensity;
  ironing = flag_for config object key.Ironing;
  support = flag_for config object key.SupportMaterial;
  plate_only = flag_for config object key.SupportMaterialBuildplateOnly;
  tool = tool_for config object;
  heights = heights_for config object;
}

-- each option is in its range, and the tool is one of four
pub record InRange (options : ObjectOptions) : Type 0 where
  pub perimeters : options.perimeters ≤ 32
  pub top : options.top ≤ 100
  pub bottom : options.bottom ≤ 100
  pub density : options.density ≤ 100
  pub tool : options.tool < 4
  pub heights : AreHeights options.heights
