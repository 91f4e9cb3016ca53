-- The ranges of options.
use Rattle.std.proofs.Common.{◌≡◌, ℤ, ℕ, pos, negsuc, ◌<◌, ◌≤◌, ◌≤ℤ◌, true, false, Option, Some, None, arith, refl, sym, ap, ◌∙◌}
use Rattle.std.specs.Option.{IfSome, IsSomeAnd, option_or}
use Rattle.std.specs.FinMap.{get}
use Rattle.std.proofs.lemmas.Int.{ints}
use Rattle.std.proofs.lemmas.Bool.Decides.{nat_tests}
use Rattle.pl_keys.specs.declared.key.Key.{Key}
use Rattle.pl_keys.specs.declared.key.Key.TheVariants as key
use Rattle.pl_keys.specs.declared.key.Kind.TheVariants as kind
use Rattle.pl_keys.specs.declared.value.Value.{Value}
use Rattle.pl_keys.specs.declared.value.Value.TheVariants.{Length, Whole, Flag, Words}
use Rattle.pl_keys.specs.Keys.{is_object_key}
use Rattle.pl_keys.specs.Table.{Row, row}
use Rattle.pl_keys.specs.Values.{in_range, is_whole, fits, IsValueOf}
use Rattle.pl_options.specs.KeyMap.{KeyMap, IsConfig, IsOverrides}
use Rattle.pl_layers.specs.Heights.{AreHeights}
use Rattle.pl_gcode.specs.SettingsOf.{whole_in}
use Rattle.pl_model.specs.declared.object.Object.{Object}
use Rattle.pl_model.specs.Effective.{value_for}
use Rattle.pl_model.specs.Problem.{length_in, heights_for}
use Rattle.pl_values.specs.ObjectValues.{tool_for}

own_or : (key : Key) (own other : Option Value) → IfSome own (λ value. (is_object_key key ≡ true) × IsValueOf key value) → IsSomeAnd other (IsValueOf key) → IsSomeAnd (option_or own other) (IsValueOf key)
own_or key None other h k = k
own_or key (Some value) other h k = h.1

-- an object has a value of each option, in its range
pub value_fits : (config : KeyMap) (object : Object) → IsConfig config → IsOverrides object.overrides → (key : Key) → IsSomeAnd (value_for config object key) (IsValueOf key)
value_fits config object c o key = own_or key (get object.overrides key) (get config key) (o key) (c key)

-- ---- lengths

length_ranges : (row : Row) (value : Option Value) → row.kind ≡ kind.Length → IsSomeAnd value (fits row) → in_range row.least row.greatest (length_in value).0 ≡ true
length_ranges row None k h = absurd h
length_ranges row (Some (Length length)) k h = h.1
length_ranges row (Some (Whole number)) k h = absurd (let w : is_whole kind.Length ≡ true = sym (ap is_whole k) ∙ h.0 in cc)
length_ranges row (Some (Flag flag)) k h = absurd (let w : kind.Length ≡ kind.Flag = sym k ∙ h in cc)
length_ranges row (Some (Words words)) k h = absurd (let w : kind.Length ≡ kind.Text = sym k ∙ h.0 in cc)

low_of : (a b : ℕ) (z : ℤ) → in_range a b z ≡ true → pos a ≤ℤ z
low_of a b (pos n) h = let l : a ≤ n = grind (arith, nat_tests) in omega (arith, ints)
low_of a b (negsuc n) h = absurd cc

high_of : (a b : ℕ) (z : ℤ) → in_range a b z ≡ true → z ≤ℤ pos b
high_of a b (pos n) h = let l : n ≤ b = grind (arith, nat_tests) in omega (arith, ints)
high_of a b (negsuc n) h = absurd cc

pub heights_fit : (config : KeyMap) (object : Object) → IsConfig config → IsOverrides object.overrides → AreHeights (heights_for config object)
heights_fit config object c o =
    let first = length_ranges (row key.FirstLayerHeight) (value_for config object key.FirstLayerHeight) refl (value_fits config object c o key.FirstLayerHeight) in
    let height = length_ranges (row key.LayerHeight) (value_for config object key.LayerHeight) refl (value_fits config object c o key.LayerHeight) in
    record {
      first_low = low_of 20000 1000000 _ first;
      first_high = high_of 20000 1000000 _ first;
      low = low_of 20000 1000000 _ height;
      high = high_of 20000 1000000 _ height;
    }

-- ---- whole numbers

whole_ranges : (row : Row) (value : Option Value) → row.kind ≡ kind.Whole → IsSomeAnd value (fits row) → whole_in value ≤ row.greatest
whole_ranges row None k h = absurd h
whole_ranges row (Some (Length length)) k h = absurd (let w : kind.Whole ≡ kind.Length = sym k ∙ h.0 in cc)
whole_ranges row (Some (Whole (pos n))) k h = grind (arith, nat_tests, h.1)
whole_ranges row (Some (Whole (negsuc n))) k h = absurd (let w : false ≡ true = h.1 in cc)
whole_ranges row (Some (Flag flag)) k h = absurd (let w : kind.Whole ≡ kind.Flag = sym k ∙ h in cc)
whole_ranges row (Some (Words words)) k h = absurd (let w : kind.Whole ≡ kind.Text = sym k ∙ h.0 in cc)

pub tool_low : (config : KeyMap) (object : Object) → IsConfig config → IsOverrides object.overrides → tool_for config object < 4
tool_low config object c o =
    let few : whole_in (value_for config object key.Extruder) ≤ 4 = whole_ranges (row key.Extruder) (value_for config object key.Extruder) refl (value_fits config object c o key.Extruder) in
    omega arith
