-- Where going on in rotation ends.
use Rattle.std.specs.Prelude.{◌≡◌, ℕ, zero, suc, ◌≤◌, ◌==◌, nat_le, min, Bool, true, Option, Some, None, List, length, take, slice_index}
use Rattle.std.specs.List.{count_by, slice_get, prefix_len}
use Rattle.std.specs.Option.{option_map}
use Rattle.pl_machine.specs.declared.entry.Command.TheVariants as command
use Rattle.pl_script.specs.declared.script.Line.{Line}
use Rattle.pl_script.specs.declared.stuck.Progress.{Progress}
use Rattle.pl_script.specs.Orders.{Order}
use Rattle.pl_script.specs.Stuck.{session_lines, count_of, Part, IsCourse}

abbrev pub can_come : Part → Order → Bool
can_come part (command.After session calls) = nat_le calls (part session)
can_come part order = true

-- how many of its commands each session has gone through after so many rounds: in each round it goes on as far as what the others
-- had gone through before lets it
abbrev pub gone_through : List Line → ℕ → Part
gone_through lines zero session = 0
gone_through lines (suc rounds) session = prefix_len (λ (line : Line). can_come (gone_through lines rounds) line.command) (session_lines lines session)

abbrev pub lesser : Option ℕ → Option ℕ → Option ℕ
lesser None b = b
lesser (Some a) None = Some a
lesser (Some a) (Some b) = Some (min a b)

-- the least number among the lines of the first sessions that come next behind a part
unfoldable pub least_left : List Line → Part → ℕ → Option ℕ
least_left lines part zero = None
least_left lines part (suc sessions) = lesser (least_left lines part sessions) (option_map (λ (line : Line). line.number) (slice_get (session_lines lines (suc sessions)) (part (suc sessions))))

-- the number of the line at which lines are stuck, if they are
unfoldable pub stuck_line : List Line → Option ℕ
stuck_line lines = least_left lines (gone_through lines (length lines)) 16

-- ---- on the way

-- so many commands of each session
abbrev pub part_of : Progress → Part
part_of progress session = slice_index progress.passed session

-- so many lines are gone over, and so many of them are the session's
pub record IsNextPlace (lines : List Line) (session next passed : ℕ) : Type 0 where
  pub within : next ≤ length lines
  pub passed_is : passed ≡ count_by (λ (line : Line). line.session == session) (take next lines)

-- the commands that are passed make a course, and each session is at its place
pub record IsOnTheWay (lines : List Line) (progress : Progress) : Type 0 where
  pub course : List ℕ
  pub is : IsCourse lines course
  pub counts : (session : ℕ) → count_of course session ≡ part_of progress session
  pub sessions : length progress.passed ≡ 17
  pub places : (session : ℕ) → session ≤ 16 → IsNextPlace lines session (slice_index progress.next session) (part_of progress session)

-- the next command of a session, if there is one, can't come
abbrev pub Rests : List Line → Part → ℕ → Type 0
Rests lines part session = (line : Line) → slice_get (session_lines lines session) (part session) ≡ Some line → can_come part line.command ≡ true → ⊥
