-- What an edit names, or why it is refused.
use Rattle.std.specs.Prelude.{ℕ, ◌==◌, nat_lt, if◌then◌else◌, Option, Result, Ok, Err, List, length, slice_get, position}
use Rattle.std.specs.Option.{ok_or, is_none}
use Rattle.pl_stl.specs.declared.mesh.Facet.{Facet}
use Rattle.pl_stl.specs.Reading.{Breach, mesh_of}
use Rattle.pl_stl.specs.Reading as stl
use Rattle.pl_keys.specs.declared.key.Key.{Key}
use Rattle.pl_keys.specs.declared.value.Value.{Value}
use Rattle.pl_keys.specs.declared.value.ValueFault.{ValueFault}
use Rattle.pl_keys.specs.declared.value.ValueFault.TheVariants as fault
use Rattle.pl_keys.specs.Keys.{is_object_key}
use Rattle.pl_keys.specs.Table.{named}
use Rattle.pl_keys.specs.Values.{value_of}
use Rattle.pl_options.specs.Settings.{Settings}
use Rattle.pl_model.specs.declared.instances.Shift.{Shift}
use Rattle.pl_model.specs.declared.object.Object.{Object}
use Rattle.pl_edit.specs.declared.reply.EditRefusal.{EditRefusal}
use Rattle.pl_edit.specs.declared.reply.EditRefusal.TheVariants.{NoObject, NoInstance, UnknownKey, NotObjectKey, BadValue, OutOfRange, BadStl, BadIni, FullObjects, FullInstances, LastInstance}
use Rattle.pl_model.specs.Places.{place_in}
use Rattle.pl_model.specs.Settings.{IniBreach, breach, ini_of}

abbrev pub object_at : List (Option Object) → ℕ → Result Object EditRefusal
object_at places place = ok_or (place_in places place) NoObject

abbrev pub instance_at : Object → ℕ → Result Shift EditRefusal
instance_at object instance = ok_or (slice_get object.instances instance) NoInstance

abbrev pub key_in : List ℕ → Result Key EditRefusal
key_in text = ok_or (named text) UnknownKey

abbrev pub object_key : Key → Result Key EditRefusal
object_key key = if is_object_key key then Ok key else Err NotObjectKey

abbrev pub value_read : Result Value ValueFault → Result Value EditRefusal
value_read (Ok value) = Ok value
value_read (Err fault.BadValue) = Err BadValue
value_read (Err fault.OutOfRange) = Err OutOfRange

abbrev pub value_in : Key → List ℕ → Result Value EditRefusal
value_in key text = value_read (value_of key text)

abbrev pub mesh_read : Result (List Facet) Breach → Result (List Facet) EditRefusal
mesh_read (Ok mesh) = Ok mesh
mesh_read (Err (stl.breach line fault)) = Err (BadStl line fault)

abbrev pub mesh_in : List ℕ → Result (List Facet) EditRefusal
mesh_in bytes = mesh_read (mesh_of bytes)

abbrev pub ini_read : Result Settings IniBreach → Result Settings EditRefusal
ini_read (Ok settings) = Ok settings
ini_read (Err (breach line fault)) = Err (BadIni line fault)

abbrev pub ini_in : List ℕ → Result Settings EditRefusal
ini_in bytes = ini_read (ini_of bytes)

-- the least free place
abbrev pub free_place : List (Option Object) → Result ℕ EditRefusal
free_place places = ok_or (position is_none places) FullObjects

-- how many instances an object has, where there may be one more
abbrev pub room_in : Object → Result ℕ EditRefusal
room_in object = if nat_lt (length object.instances) 16 then Ok (length object.instances) else Err FullInstances

-- how many instances an object has, where there is another one
abbrev pub others_in : Object → Result ℕ EditRefusal
others_in object = if length object.instances == 1 then Err LastInstance else Ok (length object.instances)
