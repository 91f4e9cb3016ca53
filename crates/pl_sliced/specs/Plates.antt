-- The plate that a text for slicing means, or the first fault.
use Rattle.std.specs.Prelude.{ℕ, ◌+◌, Option, Some, None, Result, Ok, Err, List, codes}
use Rattle.std.specs.Option.{option_map_or}
use Rattle.pl_edit.specs.declared.edit.Edit.{Edit}
use Rattle.pl_edit.specs.declared.edit.Edit.TheVariants.{Load, Ini}
use Rattle.pl_edit.specs.declared.reply.EditReply.{EditReply}
use Rattle.pl_edit.specs.declared.reply.EditReply.TheVariants.{Refused}
use Rattle.pl_edit.specs.declared.reply.EditRefusal.TheVariants.{BadStl, BadIni}
use Rattle.pl_model.specs.Contents.{Contents, blank}
use Rattle.pl_model.specs.Outcomes.{edited, edit_reply}
use Rattle.pl_model.specs.Problem.{problem_of}
use Rattle.pl_script.specs.Outcomes.{and_then}
use Rattle.pl_script.specs.Script.{Breach}
use Rattle.pl_sliced.specs.declared.text.Part.{Part}
use Rattle.pl_sliced.specs.declared.text.SliceText.{SliceText}
use Rattle.pl_sliced.specs.declared.fault.SliceFault.{SliceFault}
use Rattle.pl_sliced.specs.declared.fault.SliceFault.TheVariants as fault
use Rattle.pl_sliced.specs.Text.{slice_text_of}

-- a fault at a line of the text, counted from 1
pub record SliceBreach : Type 0 where
  pub line : ℕ
  pub fault : SliceFault

abbrev pub broken : {X : Type 0} → ℕ → SliceFault → Result X SliceBreach
broken number fault = Err (record { line = number; fault = fault })

abbrev pub of_script : {X : Type 0} → Result X Breach → Result X SliceBreach
of_script (Ok x) = Ok x
of_script (Err breach) = broken breach.line (fault.Script breach.fault)

-- the fault of a block that a reply tells, and its line in the block
abbrev pub block_fault : EditReply → Option (ℕ × SliceFault)
block_fault (Refused (BadIni line why)) = Some (line, fault.Ini why)
block_fault (Refused (BadStl line why)) = Some (line, fault.Stl why)
block_fault _ = None

-- the plate after an edit with the block whose data line has this number
abbrev pub made : Contents → ℕ → Edit → Result Contents SliceBreach
made plate number edit = option_map_or (λ told. broken (number + told.0) told.1) (block_fault (edit_reply plate edit)) (Ok (edited plate edit))

-- the blank plate with the settings
abbrev pub configured : Option Part → Result Contents SliceBreach
configured None = Ok blank
configured (Some part) = made blank part.line (Ini part.block)

-- a plate with the mesh
abbrev pub loaded : Part → Contents → Result Contents SliceBreach
loaded part plate = made plate part.line (Load (codes "mesh") part.block)

-- a plate that can be printed; its problem is told at the line of this number
abbrev pub sound : ℕ → Contents → Result Contents SliceBreach
sound number plate = option_map_or (λ problem. broken number (fault.Problem problem)) (problem_of plate) (Ok plate)

abbrev pub plate_of : SliceText → Result Contents SliceBreach
plate_of text = and_then (configured text.settings) (λ plate. and_then (loaded text.mesh plate) (sound text.mesh.line))

-- the plate of a text, or the first fault: of its lines, of the settings, of the mesh, and the plate's problem
abbrev pub sliced_of : List ℕ → Result Contents SliceBreach
sliced_of bytes = and_then (of_script (slice_text_of bytes)) plate_of
