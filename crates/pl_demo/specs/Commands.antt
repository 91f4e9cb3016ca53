-- The commands of a demo.
use Rattle.std.specs.Prelude.{ℕ, ◌-◌, ◌*◌, ◌==◌, pos, if◌then◌else◌, List, [], ◌∷◌, ◌++◌, map, codes}
use Rattle.std.specs.List.{range_with_len}
use Rattle.std.specs.Fmt.{decimal}
use Rattle.pl_units.specs.declared.Nm.{Nm}
use Rattle.pl_edit.specs.Data.{Data}
use Rattle.pl_edit.specs.declared.edit.Edit.{Edit}
use Rattle.pl_edit.specs.declared.edit.Edit.TheVariants.{Load, Move, Set}
use Rattle.pl_machine.specs.declared.entry.Command.{Command}
use Rattle.pl_machine.specs.declared.entry.Command.TheVariants as command
use Rattle.pl_demo.specs.Numbers.{sessions_of, calls_of, right_of, back_of, density_of}
use Rattle.pl_demo.specs.Box.{box_text}
use Rattle.pl_demo.specs.Script.{size_of, percent_of}

-- a length in whole millimetres
abbrev pub mm_of : ℕ → Nm
mm_of k = record { 0 = pos (k * 1000000) }

abbrev pub block_of : ℕ → ℕ → Data
block_of n i = record { name = codes "b" ++ decimal i; bytes = box_text (size_of n i) }

-- session i above 1 waits for all commands of the session before it
abbrev pub wait_commands : ℕ → List (Command Edit)
wait_commands i = if i == 1 then [] else command.After (i - 1) (calls_of (i - 1)) ∷ []

-- what it edits: it loads its box, moves it, and sets how dense its inside is
abbrev pub edits_of : ℕ → ℕ → List Edit
edits_of n i =
    Load (codes "o" ++ decimal i) (block_of n i)
    ∷ Move (i - 1) 0 (mm_of (right_of i)) (mm_of (back_of n i))
    ∷ Set (codes "fill_density") (percent_of (density_of n i)) ∷ []

abbrev pub edit_commands : ℕ → ℕ → List (Command Edit)
edit_commands n i = map command.Edit (edits_of n i)

-- then it edits, applies and exports
abbrev pub session_commands : ℕ → ℕ → List (Command Edit)
session_commands n i = wait_commands i ++ (edit_commands n i ++ command.Apply ∷ command.Export ∷ [])

-- the commands of each session, in order
abbrev pub demo_commands : ℕ → List (List (Command Edit))
demo_commands n = map (session_commands n) (range_with_len 1 (sessions_of n))
