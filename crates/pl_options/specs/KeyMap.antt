-- Finite maps from options to values.
use Rattle.std.specs.Prelude.{◌≡◌, true, Some}
use Rattle.std.specs.Ordering.{nat_cmp}
use Rattle.std.specs.Option.{IfSome, IsSomeAnd}
use Rattle.std.specs.Coded.{Coded}
use Rattle.std.specs.FinMap.{FinMap, code, get}
use Rattle.std.specs.declared.cmp.Ordering.{Ordering}
use Rattle.pl_keys.specs.contracts.key.Key.{the_row as key_row}
use Rattle.pl_keys.specs.contracts.value.Value.{the_row as value_row}
use Rattle.pl_keys.specs.declared.key.Key.{Key}
use Rattle.pl_keys.specs.declared.value.Value.{Value}
use Rattle.pl_keys.specs.Keys.{place, is_object_key}
use Rattle.pl_keys.specs.Values.{IsValueOf, default_of}

-- options in the order of the table
abbrev pub key_cmp : Key → Key → Ordering
key_cmp a b = nat_cmp (place a) (place b)

abbrev pub KeyMap : Type 0
KeyMap = FinMap key_cmp Value

abbrev pub key_map_code : Coded KeyMap
key_map_code = code key_row.coded value_row.coded

-- each value is of the right kind and in range
abbrev pub Fits : KeyMap → Type 0
Fits values = (key : Key) → IfSome (get values key) (IsValueOf key)

-- values of all options
abbrev pub IsConfig : KeyMap → Type 0
IsConfig values = (key : Key) → IsSomeAnd (get values key) (IsValueOf key)

-- values of object keys alone
abbrev pub IsOverrides : KeyMap → Type 0
IsOverrides values = (key : Key) → IfSome (get values key) (λ value. (is_object_key key ≡ true) × IsValueOf key value)

abbrev pub IsDefaults : KeyMap → Type 0
IsDefaults values = (key : Key) → get values key ≡ Some (default_of key)
