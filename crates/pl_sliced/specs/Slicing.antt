-- Texts that mean a plate that can be printed, and the first fault of any other text.
use Rattle.std.specs.Prelude.{◌≡◌, ℕ, ◌+◌, Option, Some, None, List, codes}
use Rattle.pl_stl.specs.declared.fault.StlFault.{StlFault}
use Rattle.pl_stl.specs.Grammar as stl
use Rattle.pl_options.specs.declared.fault.IniFault.{IniFault}
use Rattle.pl_options.specs.Settings as ini
use Rattle.pl_edit.specs.declared.edit.Edit.TheVariants.{Load, Ini}
use Rattle.pl_edit.specs.declared.reply.EditReply.TheVariants.{Object, Set}
use Rattle.pl_tech.specs.declared.problem.Problem.{Problem}
use Rattle.pl_model.specs.Contents.{Contents, blank}
use Rattle.pl_model.specs.Editing.{IsEdited}
use Rattle.pl_model.specs.Printable.{HasProblem, CanBePrinted}
use Rattle.pl_script.specs.declared.fault.ScriptFault.{ScriptFault}
use Rattle.pl_script.specs.Lines.{lines_of}
use Rattle.pl_sliced.specs.declared.text.Part.{Part}
use Rattle.pl_sliced.specs.declared.text.SliceText.{SliceText}
use Rattle.pl_sliced.specs.declared.fault.SliceFault.{SliceFault}
use Rattle.pl_sliced.specs.declared.fault.SliceFault.TheVariants as fault
use Rattle.pl_sliced.specs.Grammar.{IsSliceText, IsFirstBreach}

-- the blank plate with the settings, if there are any
pub data IsConfigured : Option Part → Contents → Type 0 where
  none : IsConfigured None blank
  put : (part : Part) (taken passed : ℕ) (plate : Contents) → IsEdited blank (Ini part.block) (Set taken passed) plate → IsConfigured (Some part) plate

-- that plate with the mesh
pub record IsLoaded (text : SliceText) (plate : Contents) : Type 0 where
  pub configured : Contents
  pub settings : IsConfigured text.settings configured
  pub place : ℕ
  pub mesh : IsEdited configured (Load (codes "mesh") text.mesh.block) (Object place) plate

-- the bytes mean the plate, and it can be printed
pub record IsSliced (bytes : List ℕ) (plate : Contents) : Type 0 where
  pub text : SliceText
  pub lines : IsSliceText (lines_of bytes) text
  pub loaded : IsLoaded text plate
  pub printable : CanBePrinted plate

-- The bytes mean no plate that can be printed, for this fault at the line of this number, counted from 1: wherever the blocks stand,
-- faults of lines come first, then one of the settings, then one of the mesh, and then the plate's problem. A line of a block is
-- counted on from the block's data line; the problem is told at that of the mesh.
pub data IsFirstFault (bytes : List ℕ) : ℕ → SliceFault → Type 0 where
  line : (number : ℕ) (why : ScriptFault) → IsFirstBreach (lines_of bytes) number why → IsFirstFault bytes number (fault.Script why)
  settings : (text : SliceText) (part : Part) (number : ℕ) (why : IniFault) → IsSliceText (lines_of bytes) text → text.settings ≡ Some part
      → ini.IsFirstBreach part.block.bytes number why → IsFirstFault bytes (part.line + number) (fault.Ini why)
  mesh : (text : SliceText) (plate : Contents) (number : ℕ) (why : StlFault) → IsSliceText (lines_of bytes) text → IsConfigured text.settings plate
      → stl.IsFirstBreach text.mesh.block.bytes number why → IsFirstFault bytes (text.mesh.line + number) (fault.Stl why)
  problem : (text : SliceText) (plate : Contents) (why : Problem) → IsSliceText (lines_of bytes) text → IsLoaded text plate
      → HasProblem plate why → IsFirstFault bytes text.mesh.line (fault.Problem why)
