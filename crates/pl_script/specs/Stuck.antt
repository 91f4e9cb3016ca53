-- Whether the sessions of a script wait for one another.
use Rattle.std.specs.Prelude.{◌≡◌, ℕ, ◌<◌, ◌≤◌, ◌==◌, Some, List, [], ◌∷◌, ◌++◌, length}
use Rattle.std.specs.List.{filter, count_by, slice_get}
use Rattle.pl_machine.specs.declared.entry.Command.TheVariants as command
use Rattle.pl_script.specs.declared.script.Line.{Line}
use Rattle.pl_script.specs.Orders.{Order}

-- the lines of a session, in order
abbrev pub session_lines : List Line → ℕ → List Line
session_lines lines session = filter (λ (line : Line). line.session == session) lines

-- how many commands of a session stand in an order that tells each command by its session
abbrev pub count_of : List ℕ → ℕ → ℕ
count_of order session = count_by (λ s. s == session) order

-- A part is a number of commands for each session: that many of its first ones.
abbrev pub Part : Type 0
Part = ℕ → ℕ

abbrev pub all_of : List Line → Part
all_of lines session = length (session_lines lines session)

-- a command can come behind a part: `after S N` only behind N commands of S
abbrev pub CanCome : Part → Order → Type 0
CanCome part (command.After session calls) = calls ≤ part session
CanCome part order = Unit {0}

-- An order in which commands can come, which tells each by its session: it is the next command of that session, in the order of
-- the lines, and it can come behind those before it.
pub data IsCourse (lines : List Line) : List ℕ → Type 0 where
  start : IsCourse lines []
  next : (course : List ℕ) (session : ℕ) (line : Line) → IsCourse lines course
      → slice_get (session_lines lines session) (count_of course session) ≡ Some line → CanCome (count_of course) line.command
      → IsCourse lines (course ++ session ∷ [])

-- a part is possible: its commands can come in some order
pub record IsPossible (lines : List Line) (part : Part) : Type 0 where
  pub course : List ℕ
  pub is : IsCourse lines course
  pub counts : (session : ℕ) → count_of course session ≡ part session

-- all commands can come
abbrev pub IsFree : List Line → Type 0
IsFree lines = IsPossible lines (all_of lines)

-- a session's command of a number, counted from 0, stands in a possible part
pub record StandsInOne (lines : List Line) (session number : ℕ) : Type 0 where
  pub part : Part
  pub possible : IsPossible lines part
  pub stands : number < part session

-- a session's first command that stands in no possible part
pub record IsFirstLeft (lines : List Line) (session : ℕ) (line : Line) : Type 0 where
  pub number : ℕ
  pub is : slice_get (session_lines lines session) number ≡ Some line
  pub none : StandsInOne lines session number → ⊥
  pub before : (earlier : ℕ) → earlier < number → StandsInOne lines session earlier

-- the least line number among each session's first command that stands in no possible part, where there is one
pub record IsStuckAt (lines : List Line) (number : ℕ) : Type 0 where
  pub session : ℕ
  pub line : Line
  pub left : IsFirstLeft lines session line
  pub number_is : line.number ≡ number
  pub least : (other : ℕ) (later : Line) → IsFirstLeft lines other later → number ≤ later.number
