-- What the commands promise of their input and their output.
use Rattle.std.specs.Prelude.{◌≡◌, ◌<◌, ◌≤◌, ◌^◌, ℕ, List, length, Option, Result, Ok, Err, ⊤, ◌⊎◌}
use Rattle.std.specs.Io.KnownBytes.{Appends}
use Rattle.pl_ports.specs.Causes.{AppendsFront}
use Rattle.pl_edit.specs.declared.edit.Edit.{Edit}
use Rattle.pl_edit.specs.declared.reply.EditReply.{EditReply}
use Rattle.pl_script.specs.declared.fault.ScriptFault.{ScriptFault}
use Rattle.pl_script.specs.Script.{Script, script_of}
use Rattle.pl_sliced.specs.declared.fault.SliceFault.{SliceFault}
use Rattle.pl_sliced.specs.declared.fault.SliceFault.TheVariants.{Script as OfScript}
use Rattle.pl_sliced.specs.Plates.{SliceBreach, of_script, sliced_of}
use Rattle.pl_values.specs.Whole.{plate_gcode}
use Rattle.pl_plater.specs.declared.status.Status.{Status}
use Rattle.pl_plater.specs.declared.status.Status.TheVariants.{Done, Refused, NoMemory}
use Rattle.pl_plater.specs.declared.words.Task.{Task}
use Rattle.pl_plater.specs.declared.words.Task.TheVariants.{Run, Slice}
use Rattle.pl_machine.specs.declared.entry.Entry.{Entry}
use Rattle.pl_session.specs.Complete.{IsComplete, runs_of}
use Rattle.pl_model.specs.Contents.{Contents}
use Rattle.pl_slots.specs.declared.output.FffOutput.{FffOutput}
use Rattle.pl_slots.specs.Fff.{fff_meaning}
use Rattle.pl_fff.specs.declared.fff.Fff.{Fff}
use Rattle.pl_fff.specs.declared.fff.FffBench.{FffBench}
use Rattle.pl_fff.specs.declared.job.FffJob.{FffJob}
use Rattle.pl_transcript.specs.Entries.{transcript}
use Rattle.pl_scripted.specs.Commands.{session_commands, IsOfOne}
use Rattle.pl_demo.specs.Summary.{summary}

-- ---- input

-- the most bytes of an input
abbrev pub limit : ℕ
limit = 2 ^ 28

-- what the input of a command means: a script, or the plate that is sliced
abbrev pub Meaning : Task → Type 0
Meaning Run = Script
Meaning Slice = Contents

-- what bytes mean to a command, or why it refuses them: a script, or a plate that can be printed
abbrev pub meaning_of : (task : Task) → List ℕ → Result (Meaning task) SliceBreach
meaning_of Run bytes = of_script (script_of bytes)
meaning_of Slice bytes = sliced_of bytes

-- the bytes are an input of the command, and not too long
abbrev pub IsInput : Task → List ℕ → Type 0
IsInput task bytes = (length bytes ≤ limit) × (meaning : Meaning task) × (meaning_of task bytes ≡ Ok meaning)

-- the input is longer than the limit
pub record IsTooLong (line : ℕ) (fault : SliceFault) (bytes : List ℕ) : Type 0 where
  pub line_is : line ≡ 0
  pub fault_is : fault ≡ OfScript ScriptFault.TooLong
  pub long : limit < length bytes

-- it is not, and this is its first breach
pub record IsBreach (task : Task) (line : ℕ) (fault : SliceFault) (bytes : List ℕ) : Type 0 where
  pub short : length bytes ≤ limit
  pub reading : meaning_of task bytes ≡ Err (record { line = line; fault = fault })

-- what a refusal says of the input
abbrev pub IsCause : Task → ℕ → SliceFault → List ℕ → Type 0
IsCause task line fault bytes = IsTooLong line fault bytes ⊎ IsBreach task line fault bytes

-- what a status says of the input
abbrev pub Answers : Task → Status → List ℕ → Type 0
Answers task Done bytes = IsInput task bytes
Answers task (Refused line fault) bytes = IsCause task line fault bytes
Answers task _ bytes = ⊤

-- ---- output

-- histories of plates that are printed layer by layer of molten plastic
abbrev pub History : Type 0
History = List (Entry Fff Contents Edit EditReply FffOutput FffJob FffBench)

-- a legal history of all sessions and workers of the script, with each session's commands once and in order
abbrev pub IsHistoryOf : Script → History → Type 0
IsHistoryOf script history = IsComplete fff_meaning (session_commands script.lines) script.workers history

-- the text is the transcript of one history of the script, and of its runs
pub record IsTranscript (script : Script) (text : List ℕ) : Type 0 where
  pub history : History
  pub complete : IsHistoryOf script history
  -- of session 1 alone, without workers, there is no other
  pub alone : IsOfOne script → (other : History) → IsHistoryOf script other → other ≡ history
  pub is : text ≡ transcript fff_meaning history (runs_of history)

-- what a command writes: a transcript of the script, or the G-code of the plate
abbrev pub IsOutput : (task : Task) → Meaning task → List ℕ → Type 0
IsOutput Run script text = IsTranscript script text
IsOutput Slice plate text = text ≡ plate_gcode plate

-- an output was written, and nothing else
pub record Wrote (task : Task) (meaning : Meaning task) (before after : Option (List ℕ)) : Type 0 where
  pub text : List ℕ
  pub output : IsOutput task meaning text
  pub written : Appends before after text

-- a front of an output was written, and nothing else
pub record WroteFront (task : Task) (meaning : Meaning task) (before after : Option (List ℕ)) : Type 0 where
  pub text : List ℕ
  pub output : IsOutput task meaning text
  pub written : AppendsFront before after text

-- the bytes are an input of the command, and an output for it was written
pub record Writes (task : Task) (bytes : List ℕ) (before after : Option (List ℕ)) : Type 0 where
  pub meaning : Meaning task
  pub reading : meaning_of task bytes ≡ Ok meaning
  pub wrote : Wrote task meaning before after

-- the bytes are an input of the command, and a front of an output for it was written
pub record WritesFront (task : Task) (bytes : List ℕ) (before after : Option (List ℕ)) : Type 0 where
  pub meaning : Meaning task
  pub reading : meaning_of task bytes ≡ Ok meaning
  pub wrote : WroteFront task meaning before after

-- the summary of demo n: of each session, how long the G-code is of the plate after its edits and those of the sessions before it
abbrev pub demo_summary : ℕ → List ℕ
demo_summary n = summary fff_meaning n

abbrev pub EndsWell : Status → Type 0
EndsWell status = (status ≡ Done) ⊎ (status ≡ NoMemory)
