-- What an edit makes of a plate and what it answers, or why it is refused.
use Rattle.std.specs.Prelude.{ℕ, ◌%◌, Some, None, Result, Ok, Err, List, [], ◌∷◌, ◌++◌, slice_set, remove}
use Rattle.std.specs.FinMap as map
use Rattle.pl_model.specs.declared.instances.Shift.{Shift}
use Rattle.pl_model.specs.declared.object.Object.{Object}
use Rattle.pl_edit.specs.declared.edit.Edit.{Edit}
use Rattle.pl_edit.specs.declared.edit.Edit.TheVariants.{Load, Reload, Delete, Copy, Move, Drop, Turn, Set, Override, Unset, Ini}
use Rattle.pl_edit.specs.declared.reply.EditReply.{EditReply}
use Rattle.pl_edit.specs.declared.reply.EditReply.TheVariants as reply
use Rattle.pl_edit.specs.declared.reply.EditRefusal.{EditRefusal}
use Rattle.pl_model.specs.Shifts.{shift_of}
use Rattle.pl_model.specs.Contents.{Contents, with_place, fresh}
use Rattle.pl_edit.specs.Data.{Data}
use Rattle.pl_model.specs.Settings.{put_over}
use Rattle.pl_model.specs.Finding.{object_at, instance_at, key_in, object_key, value_in, mesh_in, ini_in, free_place, room_in, others_in}

pub record Outcome : Type 0 where
  pub plate : Contents
  pub reply : EditReply

-- what is found goes on; a refusal stays
abbrev pub given : {X Y : Type 0} → Result X EditRefusal → (X → Result Y EditRefusal) → Result Y EditRefusal
given (Ok x) next = next x
given (Err refusal) next = Err refusal

abbrev pub done : Contents → Result Outcome EditRefusal
done plate = Ok (record { plate = plate; reply = reply.Done })

abbrev pub loaded : Contents → List ℕ → Data → Result Outcome EditRefusal
loaded plate name block =
    given (mesh_in block.bytes) (λ mesh. given (free_place plate.places) (λ place. Ok (record { plate = with_place plate place (Some (fresh name mesh)); reply = reply.Object place })))

-- what becomes of an object, and what is answered
pub record Changed : Type 0 where
  pub object : Object
  pub reply : EditReply

abbrev pub as_done : Object → Result Changed EditRefusal
as_done object = Ok (record { object = object; reply = reply.Done })

abbrev pub reloaded : Data → Object → Result Changed EditRefusal
reloaded block object = given (mesh_in block.bytes) (λ mesh. as_done (record object { mesh = mesh }))

abbrev pub copied : Shift → Object → Result Changed EditRefusal
copied shift object = given (room_in object) (λ count. Ok (record { object = record object { instances = object.instances ++ shift ∷ [] }; reply = reply.Instance count }))

abbrev pub moved : ℕ → Shift → Object → Result Changed EditRefusal
moved instance shift object = given (instance_at object instance) (λ _. as_done (record object { instances = slice_set object.instances instance shift }))

abbrev pub dropped : ℕ → Object → Result Changed EditRefusal
dropped instance object = given (instance_at object instance) (λ _. given (others_in object) (λ _. as_done (record object { instances = remove object.instances instance })))

-- four quarter turns are none
abbrev pub turned : ℕ → Object → Result Changed EditRefusal
turned quarter object = as_done (record object { quarter = quarter % 4 })

abbrev pub overridden : List ℕ → List ℕ → Object → Result Changed EditRefusal
overridden key text object =
    given (key_in key) (λ key. given (object_key key) (λ key. given (value_in key text) (λ value.
    as_done (record object { overrides = map.insert object.overrides key value }))))

abbrev pub unset : List ℕ → Object → Result Changed EditRefusal
unset key object = given (key_in key) (λ key. given (object_key key) (λ key. as_done (record object { overrides = map.remove object.overrides key })))

-- the object at a place, changed
abbrev pub in_object : Contents → ℕ → (Object → Result Changed EditRefusal) → Result Outcome EditRefusal
in_object plate place change =
    given (object_at plate.places place) (λ object. given (change object) (λ changed. Ok (record { plate = with_place plate place (Some changed.object); reply = changed.reply })))

abbrev pub deleted : Contents → ℕ → Result Outcome EditRefusal
deleted plate place = given (object_at plate.places place) (λ object. done (with_place plate place None))

abbrev pub set : Contents → List ℕ → List ℕ → Result Outcome EditRefusal
set plate key text = given (key_in key) (λ key. given (value_in key text) (λ value. done (record plate { config = map.insert plate.config key value })))

abbrev pub configured : Contents → Data → Result Outcome EditRefusal
configured plate block = given (ini_in block.bytes) (λ set. Ok (record { plate = record plate { config = put_over set.values plate.config }; reply = reply.Set set.taken set.passed }))

abbrev pub outcome : Contents → Edit → Result Outcome EditRefusal
outcome plate (Load name block) = loaded plate name block
outcome plate (Reload place block) = in_object plate place (reloaded block)
outcome plate (Delete place) = deleted plate place
outcome plate (Copy place x y) = in_object plate place (copied (shift_of x y))
outcome plate (Move place instance x y) = in_object plate place (moved instance (shift_of x y))
outcome plate (Drop place instance) = in_object plate place (dropped instance)
outcome plate (Turn place quarter) = in_object plate place (turned quarter)
outcome plate (Set key text) = set plate key text
outcome plate (Override place key text) = in_object plate place (overridden key text)
outcome plate (Unset place key) = in_object plate place (unset key)
outcome plate (Ini block) = configured plate block

-- a refused edit leaves the plate
abbrev pub plate_after : Contents → Result Outcome EditRefusal → Contents
plate_after plate (Ok outcome) = outcome.plate
plate_after plate (Err refusal) = plate

abbrev pub reply_of : Result Outcome EditRefusal → EditReply
reply_of (Ok outcome) = outcome.reply
reply_of (Err refusal) = reply.Refused refusal

-- the plate after an edit, and the edit's reply
abbrev pub edited : Contents → Edit → Contents
edited plate edit = plate_after plate (outcome plate edit)

abbrev pub edit_reply : Contents → Edit → EditReply
edit_reply plate edit = reply_of (outcome plate edit)
