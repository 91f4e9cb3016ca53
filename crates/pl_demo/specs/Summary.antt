-- The summary of a demo.
use Rattle.std.specs.Prelude.{ℕ, zero, suc, List, [], ◌∷◌, ◌++◌, length, codes}
use Rattle.std.specs.Prelude.{Option, None, Some}
use Rattle.std.specs.Fmt.{decimal}
use Rattle.pl_edit.specs.declared.edit.Edit.{Edit}
use Rattle.pl_tech.specs.declared.problem.Problem.{Problem}
use Rattle.pl_tech.specs.Technology.{Meaning}
use Rattle.pl_machine.specs.declared.entry.Reply.{Reply}
use Rattle.pl_machine.specs.declared.entry.Reply.TheVariants as reply
use Rattle.pl_demo.specs.Lines.{line_of}
use Rattle.pl_demo.specs.Numbers.{sessions_of, calls_of, each_of}
use Rattle.pl_demo.specs.Commands.{edits_of}

-- what is told of an export: how long its G-code is, or that there is none
abbrev pub told_words : Option ℕ → List (List ℕ)
told_words (Some bytes) = codes "gcode" ∷ decimal bytes ∷ []
told_words None = codes "refused" ∷ []

-- the line of session i, whose export gave a G-code of so many bytes, or none
abbrev pub session_line : ℕ → Option ℕ → List ℕ
session_line i told = line_of (codes "session" ∷ decimal i ∷ codes "calls" ∷ decimal (calls_of i) ∷ told_words told)

-- the summary of demo n where the export of session i gave `told i`
abbrev pub summary_by : ℕ → (ℕ → Option ℕ) → List ℕ
summary_by n told =
    line_of (codes "demo" ∷ decimal n ∷ []) ++ (each_of (λ i. session_line i (told i)) (sessions_of n) ++ line_of (codes "ok" ∷ []))

module _ {P R O : Type 0} (m : Meaning P Edit R O) where
  -- a plate after edits, in order
  abbrev pub after_edits : P → List Edit → P
  after_edits plate [] = plate
  after_edits plate (edit ∷ edits) = after_edits (m.edited plate edit) edits

  -- the plate after the edits of sessions 1 to i, session by session, from the blank plate on
  abbrev pub plate_after : ℕ → ℕ → P
  plate_after n zero = m.blank
  plate_after n (suc i) = after_edits (plate_after n i) (edits_of n (suc i))

  abbrev pub length_by : Option Problem → O → Option ℕ
  length_by None output = Some (length (m.bytes output))
  length_by (Some problem) output = None

  -- how long the G-code of a plate is, where it has no problem
  abbrev pub gcode_length : P → Option ℕ
  gcode_length plate = length_by (m.problem plate) (m.value plate 99)

  -- the summary of demo n: of each session, how many commands it has, and how long the G-code is of the plate after its edits and those
  -- of the sessions before it
  abbrev pub summary : ℕ → List ℕ
  summary n = summary_by n (λ i. gcode_length (plate_after n i))

  module _ {T J B : Type 0} where
    -- how long the G-code is that a reply gives
    abbrev pub reply_length : Reply T P Edit R O J B → Option ℕ
    reply_length (reply.Gcode output) = Some (length (m.bytes output))
    reply_length (reply.Refused problem) = None
    reply_length (reply.Edited answer) = None
    reply_length reply.Unchanged = None
    reply_length reply.Changed = None
    reply_length (reply.Invalidated set) = None
    reply_length (reply.Cancelled count) = None
    reply_length (reply.Modes present started finished) = None
    reply_length reply.Passed = None

    -- how long the G-code of the first of some exports is
    abbrev pub first_length : List (Reply T P Edit R O J B) → Option ℕ
    first_length [] = None
    first_length (reply ∷ replies) = reply_length reply
