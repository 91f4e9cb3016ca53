-- What differs between two plates, before the cascade.
use Rattle.std.specs.Prelude.{ℕ, Bool, true, false, not, ◌==◌, ◌&&◌, ◌||◌, if◌then◌else◌, Option, Some, None}
use Rattle.std.specs.List.{list_any, range_with_len}
use Rattle.std.specs.FinMap.{get}
use Rattle.std.specs.Coded.{Coded, coded_option, coded_list}
use Rattle.pl_stl.specs.contracts.mesh.Facet.{the_row as facet_row}
use Rattle.pl_keys.specs.contracts.value.Value.{the_row as value_row}
use Rattle.pl_keys.specs.declared.key.Key.{Key}
use Rattle.pl_keys.specs.declared.value.Value.{Value}
use Rattle.pl_keys.specs.Keys.{keys, is_object_key}
use Rattle.pl_keys.specs.Table.{touches}
use Rattle.pl_keys.specs.Steps as steps
use Rattle.pl_options.specs.KeyMap.{KeyMap}
use Rattle.pl_model.specs.contracts.instances.Shift.{the_row as shift_row}
use Rattle.pl_model.specs.declared.object.Object.{Object}
use Rattle.pl_model.specs.Contents.{Contents}
use Rattle.pl_model.specs.Effective.{value_for}
use Rattle.pl_model.specs.Places.{place_in}
use Rattle.pl_model.specs.Same.{same_code}
use Rattle.pl_cascade.specs.Slots.{is_object_slot, place_of, step_of}

-- whether two values of a coded type differ
abbrev pub differ : {X : Type 0} → Coded X → X → X → Bool
differ coded one other = not (same_code (coded.code one) (coded.code other))

-- an option that directly touches a step has another value
abbrev pub option_touches : (Key → Option Value) → (Key → Option Value) → ℕ → Key → Bool
option_touches old new step key = touches key step && differ (coded_option value_row.coded) (old key) (new key)

-- one of the options that objects may have of their own does
unfoldable pub options_touch : (Key → Option Value) → (Key → Option Value) → ℕ → Bool
options_touch old new step = list_any (λ key. is_object_key key && option_touches old new step key) keys

-- one of the others does
unfoldable pub settings_touch : (Key → Option Value) → (Key → Option Value) → ℕ → Bool
settings_touch old new step = list_any (λ key. not (is_object_key key) && option_touches old new step key) keys

-- the mesh or its turn differs
abbrev pub shape_differs : Object → Object → Bool
shape_differs object changed = differ (coded_list facet_row.coded) object.mesh changed.mesh || not (object.quarter == changed.quarter)

abbrev pub instances_differ : Object → Object → Bool
instances_differ object changed = differ (coded_list shift_row.coded) object.instances changed.instances

-- of a place: a step of its object is directly touched, where the place is filled in both plates; all six are, where it is
-- filled in one alone
abbrev pub object_touched : KeyMap → Option Object → KeyMap → Option Object → ℕ → Bool
object_touched config (Some object) later (Some changed) step = options_touch (value_for config object) (value_for later changed) step || ((step == steps.slice) && shape_differs object changed)
object_touched config None later None step = false
object_touched config _ later _ step = true

-- of a place: a step of the print is directly touched, by an option of its object or by its instances, where the place is filled
-- in both plates; all four are, where it is filled in one alone
abbrev pub print_touched : KeyMap → Option Object → KeyMap → Option Object → ℕ → Bool
print_touched config (Some object) later (Some changed) step = options_touch (value_for config object) (value_for later changed) step || instances_differ object changed
print_touched config None later None step = false
print_touched config _ later _ step = true

-- a step of the print is directly touched: by an option of the print, or at one of the sixteen places
unfoldable pub print_is_direct : Contents → Contents → ℕ → Bool
print_is_direct old new step =
    settings_touch (get old.config) (get new.config) step || list_any (λ place. print_touched old.config (place_in old.places place) new.config (place_in new.places place) step) (range_with_len 0 16)

-- a slot is directly touched between two plates
abbrev pub is_direct : Contents → Contents → ℕ → Bool
is_direct old new slot =
    if is_object_slot slot
    then object_touched old.config (place_in old.places (place_of slot)) new.config (place_in new.places (place_of slot)) (step_of slot)
    else print_is_direct old new (step_of slot)
