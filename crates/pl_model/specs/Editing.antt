-- What each edit makes of a plate, and what it answers.
use Rattle.std.specs.Prelude.{◌≡◌, ℕ, ◌<◌, ◌≤◌, ◌%◌, true, false, Option, Some, None, Ok, Err, List, [], ◌∷◌, ◌++◌, ◌⊎◌, length, slice_get, slice_set, remove}
use Rattle.std.specs.FinMap as map
use Rattle.pl_units.specs.declared.Nm.{Nm}
use Rattle.pl_stl.specs.declared.mesh.Facet.{Facet}
use Rattle.pl_stl.specs.declared.fault.StlFault.{StlFault}
use Rattle.pl_stl.specs.Grammar.{IsMeshText}
use Rattle.pl_stl.specs.Grammar as stl
use Rattle.pl_keys.specs.declared.key.Key.{Key}
use Rattle.pl_keys.specs.declared.value.Value.{Value}
use Rattle.pl_keys.specs.declared.value.ValueFault.TheVariants as fault
use Rattle.pl_keys.specs.Keys.{is_object_key}
use Rattle.pl_keys.specs.Table.{named}
use Rattle.pl_keys.specs.Values.{value_of}
use Rattle.pl_options.specs.declared.fault.IniFault.{IniFault}
use Rattle.pl_options.specs.Settings.{Settings, IsSettingsText, IsFirstBreach}
use Rattle.pl_edit.specs.Data.{Data}
use Rattle.pl_edit.specs.declared.edit.Edit.{Edit}
use Rattle.pl_edit.specs.declared.edit.Edit.TheVariants.{Load, Reload, Delete, Copy, Move, Drop, Turn, Set, Override, Unset, Ini}
use Rattle.pl_edit.specs.declared.reply.EditReply.{EditReply}
use Rattle.pl_edit.specs.declared.reply.EditReply.TheVariants.{Done, Refused}
use Rattle.pl_edit.specs.declared.reply.EditReply.TheVariants as reply
use Rattle.pl_edit.specs.declared.reply.EditRefusal.TheVariants.{NoObject, NoInstance, UnknownKey, NotObjectKey, BadValue, OutOfRange, BadStl, BadIni, FullObjects, FullInstances, LastInstance}
use Rattle.pl_model.specs.declared.object.Object.{Object}
use Rattle.pl_model.specs.Shifts.{shift_of}
use Rattle.pl_model.specs.Contents.{Contents, with_place, fresh}
use Rattle.pl_model.specs.Settings.{put_over}

-- this object stands at the place
abbrev pub IsAt : List (Option Object) → ℕ → Object → Type 0
IsAt places place object = slice_get places place ≡ Some (Some object)

-- the place is empty
abbrev pub IsEmpty : List (Option Object) → ℕ → Type 0
IsEmpty places place = slice_get places place ≡ Some None

-- the place is empty or above 15
abbrev pub HasNone : List (Option Object) → ℕ → Type 0
HasNone places place = IsEmpty places place ⊎ (15 < place)

-- an object stands at each of the first so many places
abbrev pub AreFilled : List (Option Object) → ℕ → Type 0
AreFilled places count = (place : ℕ) → place < count → (object : Object) × IsAt places place object

-- the place is empty, and all smaller ones are filled
pub record IsLeastEmpty (places : List (Option Object)) (place : ℕ) : Type 0 where
  pub empty : IsEmpty places place
  pub filled : AreFilled places place

-- the place that an edit names
abbrev pub place_named : Edit → Option ℕ
place_named (Reload place block) = Some place
place_named (Delete place) = Some place
place_named (Copy place x y) = Some place
place_named (Move place instance x y) = Some place
place_named (Drop place instance) = Some place
place_named (Turn place quarter) = Some place
place_named (Override place key text) = Some place
place_named (Unset place key) = Some place
place_named _ = None

-- an edit of a plate, what it answers, and the plate after it
pub data IsEdited (old : Contents) : Edit → EditReply → Contents → Type 0 where
  -- every edit of an object: there has to be one
  no_object : (edit : Edit) (place : ℕ) → place_named edit ≡ Some place → HasNone old.places place → IsEdited old edit (Refused NoObject) old
  -- a load puts the mesh of a text into the least empty place; a bad text comes before full places
  loaded : (name : List ℕ) (block : Data) (mesh : List Facet) (place : ℕ) → IsMeshText block.bytes mesh → IsLeastEmpty old.places place
      → IsEdited old (Load name block) (reply.Object place) (with_place old place (Some (fresh name mesh)))
  load_bad : (name : List ℕ) (block : Data) (line : ℕ) (why : StlFault) → stl.IsFirstBreach block.bytes line why → IsEdited old (Load name block) (Refused (BadStl line why)) old
  load_full : (name : List ℕ) (block : Data) (mesh : List Facet) → IsMeshText block.bytes mesh → AreFilled old.places 16 → IsEdited old (Load name block) (Refused FullObjects) old
  -- a reload keeps all of the object but its mesh
  reloaded : (place : ℕ) (block : Data) (object : Object) (mesh : List Facet) → IsAt old.places place object → IsMeshText block.bytes mesh
      → IsEdited old (Reload place block) Done (with_place old place (Some (record object { mesh = mesh })))
  reload_bad : (place : ℕ) (block : Data) (object : Object) (line : ℕ) (why : StlFault) → IsAt old.places place object → stl.IsFirstBreach block.bytes line why
      → IsEdited old (Reload place block) (Refused (BadStl line why)) old
  deleted : (place : ℕ) (object : Object) → IsAt old.places place object → IsEdited old (Delete place) Done (with_place old place None)
  -- a copy is one more instance, behind the others
  copied : (place : ℕ) (x y : Nm) (object : Object) → IsAt old.places place object → length object.instances < 16
      → IsEdited old (Copy place x y) (reply.Instance (length object.instances)) (with_place old place (Some (record object { instances = object.instances ++ shift_of x y ∷ [] })))
  copy_full : (place : ℕ) (x y : Nm) (object : Object) → IsAt old.places place object → 16 ≤ length object.instances → IsEdited old (Copy place x y) (Refused FullInstances) old
  moved : (place instance : ℕ) (x y : Nm) (object : Object) → IsAt old.places place object → instance < length object.instances
      → IsEdited old (Move place instance x y) Done (with_place old place (Some (record object { instances = slice_set object.instances instance (shift_of x y) })))
  move_missing : (place instance : ℕ) (x y : Nm) (object : Object) → IsAt old.places place object → length object.instances ≤ instance → IsEdited old (Move place instance x y) (Refused NoInstance) old
  -- a drop leaves another instance
  dropped : (place instance : ℕ) (object : Object) → IsAt old.places place object → instance < length object.instances → 1 < length object.instances
      → IsEdited old (Drop place instance) Done (with_place old place (Some (record object { instances = remove object.instances instance })))
  drop_missing : (place instance : ℕ) (object : Object) → IsAt old.places place object → length object.instances ≤ instance → IsEdited old (Drop place instance) (Refused NoInstance) old
  drop_last : (place instance : ℕ) (object : Object) → IsAt old.places place object → instance < length object.instances → length object.instances ≡ 1
      → IsEdited old (Drop place instance) (Refused LastInstance) old
  -- four quarter turns are none
  turned : (place quarter : ℕ) (object : Object) → IsAt old.places place object → IsEdited old (Turn place quarter) Done (with_place old place (Some (record object { quarter = quarter % 4 })))
  -- a set changes the configuration alone
  set : (key text : List ℕ) (option : Key) (value : Value) → named key ≡ Some option → value_of option text ≡ Ok value
      → IsEdited old (Set key text) Done (record old { config = map.insert old.config option value })
  set_unknown : (key text : List ℕ) → named key ≡ None → IsEdited old (Set key text) (Refused UnknownKey) old
  set_bad : (key text : List ℕ) (option : Key) → named key ≡ Some option → value_of option text ≡ Err fault.BadValue → IsEdited old (Set key text) (Refused BadValue) old
  set_far : (key text : List ℕ) (option : Key) → named key ≡ Some option → value_of option text ≡ Err fault.OutOfRange → IsEdited old (Set key text) (Refused OutOfRange) old
  -- an override changes one object's own values alone
  overridden : (place : ℕ) (key text : List ℕ) (object : Object) (option : Key) (value : Value) → IsAt old.places place object → named key ≡ Some option → is_object_key option ≡ true
      → value_of option text ≡ Ok value → IsEdited old (Override place key text) Done (with_place old place (Some (record object { overrides = map.insert object.overrides option value })))
  override_unknown : (place : ℕ) (key text : List ℕ) (object : Object) → IsAt old.places place object → named key ≡ None → IsEdited old (Override place key text) (Refused UnknownKey) old
  override_whole : (place : ℕ) (key text : List ℕ) (object : Object) (option : Key) → IsAt old.places place object → named key ≡ Some option → is_object_key option ≡ false
      → IsEdited old (Override place key text) (Refused NotObjectKey) old
  override_bad : (place : ℕ) (key text : List ℕ) (object : Object) (option : Key) → IsAt old.places place object → named key ≡ Some option → is_object_key option ≡ true
      → value_of option text ≡ Err fault.BadValue → IsEdited old (Override place key text) (Refused BadValue) old
  override_far : (place : ℕ) (key text : List ℕ) (object : Object) (option : Key) → IsAt old.places place object → named key ≡ Some option → is_object_key option ≡ true
      → value_of option text ≡ Err fault.OutOfRange → IsEdited old (Override place key text) (Refused OutOfRange) old
  -- an unset is done also where the object has no value of its own
  unset : (place : ℕ) (key : List ℕ) (object : Object) (option : Key) → IsAt old.places place object → named key ≡ Some option → is_object_key option ≡ true
      → IsEdited old (Unset place key) Done (with_place old place (Some (record object { overrides = map.remove object.overrides option })))
  unset_unknown : (place : ℕ) (key : List ℕ) (object : Object) → IsAt old.places place object → named key ≡ None → IsEdited old (Unset place key) (Refused UnknownKey) old
  unset_whole : (place : ℕ) (key : List ℕ) (object : Object) (option : Key) → IsAt old.places place object → named key ≡ Some option → is_object_key option ≡ false
      → IsEdited old (Unset place key) (Refused NotObjectKey) old
  -- the values of a settings text go over the configuration's
  configured : (block : Data) (settings : Settings) → IsSettingsText block.bytes settings
      → IsEdited old (Ini block) (reply.Set settings.taken settings.passed) (record old { config = put_over settings.values old.config })
  ini_bad : (block : Data) (line : ℕ) (why : IniFault) → IsFirstBreach block.bytes line why → IsEdited old (Ini block) (Refused (BadIni line why)) old
