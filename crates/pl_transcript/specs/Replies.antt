-- The words of replies.
use Rattle.std.specs.Prelude.{ℕ, if◌then◌else◌, List, [], ◌∷◌, ◌++◌, length, map, codes}
use Rattle.std.specs.Fmt.{decimal}
use Rattle.pl_stl.specs.declared.fault.StlFault.{StlFault}
use Rattle.pl_options.specs.declared.fault.IniFault.{IniFault}
use Rattle.pl_edit.specs.declared.edit.Edit.{Edit}
use Rattle.pl_edit.specs.declared.reply.EditRefusal.{EditRefusal}
use Rattle.pl_edit.specs.declared.reply.EditRefusal.TheVariants as refusal
use Rattle.pl_edit.specs.declared.reply.EditReply.{EditReply}
use Rattle.pl_edit.specs.declared.reply.EditReply.TheVariants as edited
use Rattle.pl_tech.specs.Technology.{Meaning}
use Rattle.pl_tech.specs.Slots.{has, members}
use Rattle.pl_tech.specs.declared.problem.Problem.{Problem}
use Rattle.pl_machine.specs.declared.entry.Reply.{Reply}
use Rattle.pl_machine.specs.declared.entry.Reply.TheVariants as reply

abbrev pub stl_fault_word : StlFault → List ℕ
stl_fault_word StlFault.BadToken = codes "BadToken"
stl_fault_word StlFault.BadNumber = codes "BadNumber"
stl_fault_word StlFault.TooFar = codes "TooFar"
stl_fault_word StlFault.TooManyFacets = codes "TooManyFacets"
stl_fault_word StlFault.Cut = codes "Cut"
stl_fault_word StlFault.NoFacet = codes "NoFacet"

abbrev pub ini_fault_word : IniFault → List ℕ
ini_fault_word IniFault.NoEquals = codes "NoEquals"
ini_fault_word IniFault.BadValue = codes "BadValue"
ini_fault_word IniFault.OutOfRange = codes "OutOfRange"

-- why an edit was refused; a fault of a block stands after its line in the block
abbrev pub refusal_words : EditRefusal → List (List ℕ)
refusal_words refusal.NoObject = codes "NoObject" ∷ []
refusal_words refusal.NoInstance = codes "NoInstance" ∷ []
refusal_words refusal.UnknownKey = codes "UnknownKey" ∷ []
refusal_words refusal.NotObjectKey = codes "NotObjectKey" ∷ []
refusal_words refusal.BadValue = codes "BadValue" ∷ []
refusal_words refusal.OutOfRange = codes "OutOfRange" ∷ []
refusal_words (refusal.BadStl line fault) = codes "BadStl" ∷ decimal line ∷ stl_fault_word fault ∷ []
refusal_words (refusal.BadIni line fault) = codes "BadIni" ∷ decimal line ∷ ini_fault_word fault ∷ []
refusal_words refusal.FullObjects = codes "FullObjects" ∷ []
refusal_words refusal.FullInstances = codes "FullInstances" ∷ []
refusal_words refusal.LastInstance = codes "LastInstance" ∷ []

abbrev pub edit_reply_words : EditReply → List (List ℕ)
edit_reply_words edited.Done = codes "ok" ∷ []
edit_reply_words (edited.Object place) = codes "object" ∷ decimal place ∷ []
edit_reply_words (edited.Instance number) = codes "instance" ∷ decimal number ∷ []
edit_reply_words (edited.Set taken passed) = codes "set" ∷ decimal taken ∷ decimal passed ∷ []
edit_reply_words (edited.Refused why) = codes "refused" ∷ refusal_words why

-- a problem with the place and the instance that have it
abbrev pub problem_words : Problem → List (List ℕ)
problem_words Problem.Empty = codes "Empty" ∷ []
problem_words (Problem.OutOfBed place instance) = codes "OutOfBed" ∷ decimal place ∷ decimal instance ∷ []
problem_words (Problem.TooManyCells place) = codes "TooManyCells" ∷ decimal place ∷ []

-- how a slot stands that is in the set of started slots, in that of finished ones, or in none
abbrev pub mode_text : ℕ → ℕ → ℕ → List ℕ
mode_text started finished slot = if has finished slot then codes "=done" else (if has started slot then codes "=started" else codes "=invalid")

-- a G-code after its length and a line end
abbrev pub gcode_text : List ℕ → List ℕ
gcode_text bytes = decimal (length bytes) ++ 10 ∷ bytes

module _ {P O : Type 0} (m : Meaning P Edit EditReply O) where
  -- a slot and how it stands
  abbrev pub slot_word : ℕ → ℕ → ℕ → List ℕ
  slot_word started finished slot = m.name slot ++ mode_text started finished slot

  -- the slots of a set, in order
  abbrev pub names : ℕ → List (List ℕ)
  names set = map m.name (members set)

  -- the present slots and how they stand, in order
  abbrev pub modes : ℕ → ℕ → ℕ → List (List ℕ)
  modes present started finished = map (slot_word started finished) (members present)

  module _ {T J B : Type 0} where
    abbrev pub reply_words : Reply T P Edit EditReply O J B → List (List ℕ)
    reply_words (reply.Edited answer) = edit_reply_words answer
    reply_words reply.Unchanged = codes "unchanged" ∷ []
    reply_words reply.Changed = codes "changed" ∷ []
    reply_words (reply.Invalidated set) = codes "invalidated" ∷ names set
    reply_words (reply.Cancelled count) = codes "cancelled" ∷ decimal count ∷ []
    reply_words (reply.Modes present started finished) = modes present started finished
    reply_words (reply.Gcode output) = codes "gcode" ∷ gcode_text (m.bytes output) ∷ []
    reply_words (reply.Refused problem) = codes "refused" ∷ problem_words problem
    reply_words reply.Passed = codes "ok" ∷ []
