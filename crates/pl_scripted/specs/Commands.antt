-- The commands of a script.
use Rattle.std.specs.Prelude.{◌≡◌, ℕ, ◌==◌, List, map, filter, All}
use Rattle.pl_edit.specs.declared.edit.Edit.{Edit}
use Rattle.pl_machine.specs.declared.entry.Command.{Command}
use Rattle.pl_script.specs.declared.script.Line.{Line}
use Rattle.pl_script.specs.Script.{Script}

-- the commands of a session's lines, in order
abbrev pub session_commands : List Line → ℕ → List (Command Edit)
session_commands lines i = map (λ (line : Line). line.command) (filter (λ (line : Line). line.session == i) lines)

-- a script of session 1 alone, without workers
pub record IsOfOne (script : Script) : Type 0 where
  pub workers : script.workers ≡ 0
  pub lines : All (λ (line : Line). line.session ≡ 1) script.lines
