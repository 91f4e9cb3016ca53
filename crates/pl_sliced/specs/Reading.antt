-- What a reader has found, and what it answers.
use Rattle.std.specs.Prelude.{◌≡◌, ◌≤◌, ◌^◌, ◌+◌, Result, Err, length}
use Rattle.std.specs.Option.{IfSome}
use Rattle.pl_units.specs.declared.Refusal.{Refusal}
use Rattle.pl_units.specs.declared.Refusal.TheVariants.{Fault, NoMemory}
use Rattle.pl_script.specs.declared.lines.LinesLeft.{LinesLeft}
use Rattle.pl_script.specs.Reading.{lines_left, number_left}
use Rattle.pl_model.specs.Contents.{Contents}
use Rattle.pl_sliced.specs.declared.text.Part.{Part}
use Rattle.pl_sliced.specs.declared.text.Found.{Found}
use Rattle.pl_sliced.specs.declared.text.SliceText.{SliceText}
use Rattle.pl_sliced.specs.declared.fault.SliceFault.{SliceFault}
use Rattle.pl_sliced.specs.Plates.{SliceBreach}

-- a block of a text of at most 2^28 bytes
pub record IsPart (part : Part) : Type 0 where
  pub early : part.line ≤ 2 ^ 28 + 2
  pub short : length part.block.bytes ≤ 2 ^ 28

pub record AreParts (found : Found) : Type 0 where
  pub settings : IfSome found.settings IsPart
  pub mesh : IfSome found.mesh IsPart

pub record HasParts (text : SliceText) : Type 0 where
  pub settings : IfSome text.settings IsPart
  pub mesh : IsPart text.mesh

-- the last line that is left has the same number
abbrev pub IsSameEnd : LinesLeft → LinesLeft → Type 0
IsSameEnd before after = number_left after + length (lines_left after) ≡ number_left before + length (lines_left before)

-- a refusal is what the text says, unless memory ran out
abbrev pub Refuses : Result Contents SliceBreach → Refusal SliceFault → Type 0
Refuses said (Fault number fault) = said ≡ Err (record { line = number; fault = fault })
Refuses said NoMemory = Unit {0}
