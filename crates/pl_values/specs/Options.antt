-- The options that hold for an object or for the plate, as numbers and truth values.
use Rattle.std.specs.Prelude.{ℕ, ◌/◌, unsigned_abs, Bool, false, Option, Some}
use Rattle.pl_units.specs.declared.Nm.{Nm}
use Rattle.pl_keys.specs.declared.key.Key.{Key}
use Rattle.pl_keys.specs.declared.value.Value.{Value}
use Rattle.pl_keys.specs.declared.value.Value.TheVariants.{Flag}
use Rattle.pl_options.specs.KeyMap.{KeyMap}
use Rattle.pl_gcode.specs.SettingsOf.{whole_in}
use Rattle.pl_model.specs.declared.object.Object.{Object}
use Rattle.pl_model.specs.Effective.{value_for}

-- whether a value is a yes
abbrev pub flag_in : Option Value → Bool
flag_in (Some (Flag flag)) = flag
flag_in _ = false

-- the number that holds for an object, and the yes or no
abbrev pub whole_for : KeyMap → Object → Key → ℕ
whole_for config object key = whole_in (value_for config object key)

abbrev pub flag_for : KeyMap → Object → Key → Bool
flag_for config object key = flag_in (value_for config object key)

-- how many whole cells of 400,000 nm a length has that is not below 0
abbrev pub cells_in : Nm → ℕ
cells_in length = unsigned_abs length.0 / 400000
