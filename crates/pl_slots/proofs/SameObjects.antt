-- Objects with equal meshes, turns and options have equal results.
use Rattle.std.proofs.Common.{◌≡◌}
use Rattle.pl_keys.specs.declared.key.Key.TheVariants as key
use Rattle.pl_options.specs.KeyMap.{KeyMap}
use Rattle.pl_support.specs.Support.{support_of}
use Rattle.pl_model.specs.declared.object.Object.{Object}
use Rattle.pl_model.specs.Effective.{value_for}
use Rattle.pl_model.specs.Problem.{length_in}
use Rattle.pl_values.specs.Options.{flag_in}
use Rattle.pl_values.specs.ObjectValues.{supports_for}
use Rattle.pl_steps.specs.Layers.{slices_of}
use Rattle.pl_slots.specs.ObjectSteps.{sliced_for}

module _ (config later : KeyMap) (x y : Object) where
  pub same_slices : (x.mesh ≡ y.mesh) × (x.quarter ≡ y.quarter) → value_for config x key.FirstLayerHeight ≡ value_for later y key.FirstLayerHeight → value_for config x key.LayerHeight ≡ value_for later y key.LayerHeight → sliced_for config x ≡ sliced_for later y
  same_slices shape first height = λ i. record {
    heights = record { first = length_in (first i); height = length_in (height i) };
    planes = slices_of (shape.0 i) (shape.1 i) (record { first = length_in (first i); height = length_in (height i) });
  }

  pub same_supports : sliced_for config x ≡ sliced_for later y → value_for config x key.SupportMaterial ≡ value_for later y key.SupportMaterial → value_for config x key.SupportMaterialBuildplateOnly ≡ value_for later y key.SupportMaterialBuildplateOnly
      → supports_for config x ≡ supports_for later y
  same_supports sliced on only = λ i. support_of (flag_in (on i)) (flag_in (only i)) (sliced i).planes
