-- The value of an option that holds for an object: its own, else the configuration's.
use Rattle.std.specs.Prelude.{ℕ, Option}
use Rattle.std.specs.Option.{option_or, option_and_then}
use Rattle.std.specs.FinMap.{get}
use Rattle.pl_keys.specs.declared.key.Key.{Key}
use Rattle.pl_keys.specs.declared.value.Value.{Value}
use Rattle.pl_options.specs.KeyMap.{KeyMap}
use Rattle.pl_model.specs.declared.object.Object.{Object}
use Rattle.pl_model.specs.Places.{place_in}
use Rattle.pl_model.specs.Contents.{Contents}

abbrev pub value_for : KeyMap → Object → Key → Option Value
value_for config object key = option_or (get object.overrides key) (get config key)

abbrev pub effective : Contents → ℕ → Key → Option Value
effective plate place key = option_and_then (λ object. value_for plate.config object key) (place_in plate.places place)
