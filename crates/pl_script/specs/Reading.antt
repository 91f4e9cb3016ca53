-- What a reader has left to read, and what it answers.
use Rattle.std.specs.Prelude.{◌≡◌, ℕ, Bool, true, false, drop, ◌+◌, ◌≤◌, ◌^◌, ◌==◌, Result, Ok, Err, List, [], length}
use Rattle.std.specs.Option.{option_map_or}
use Rattle.std.specs.List.{slice_split, position_or_len}
use Rattle.pl_units.specs.declared.Refusal.{Refusal}
use Rattle.pl_units.specs.declared.Refusal.TheVariants.{Fault, NoMemory}
use Rattle.pl_script.specs.declared.lines.LinesLeft.{LinesLeft}
use Rattle.pl_script.specs.declared.fault.ScriptFault.{ScriptFault}
use Rattle.pl_script.specs.declared.fault.LineStop.{LineStop}
use Rattle.pl_script.specs.declared.fault.LineStop.TheVariants as stop
use Rattle.pl_script.specs.Script.{Breach, is_block_end}

-- the lines that are left
abbrev pub lines_left : LinesLeft → List (List ℕ)
lines_left lines = option_map_or (λ rest. slice_split (λ b. b == 10) rest.now) lines.rest []

-- the bytes of the lines that are left, with one more for each
abbrev pub size_left : LinesLeft → ℕ
size_left lines = option_map_or (λ rest. length rest.now + 1) lines.rest 0

-- What a call returned is what a line or a text says, unless memory ran out.
abbrev pub Stops : {Y : Type 0} → LineStop → Result Y ScriptFault → Type 0
Stops (stop.Fault fault) said = said ≡ Err fault
Stops stop.NoMemory said = Unit {0}

abbrev pub Answers : {X : Type 0} → Result X LineStop → Result X ScriptFault → Type 0
Answers (Ok x) said = said ≡ Ok x
Answers (Err e) said = Stops e said

abbrev pub Refuses : {Y : Type 0} → Refusal ScriptFault → Result Y Breach → Type 0
Refuses (Fault number fault) said = said ≡ Err (record { line = number; fault = fault })
Refuses NoMemory said = Unit {0}

abbrev pub Gives : {X : Type 0} → Result X (Refusal ScriptFault) → Result X Breach → Type 0
Gives (Ok x) said = said ≡ Ok x
Gives (Err e) said = Refuses e said

abbrev pub number_left : LinesLeft → ℕ
number_left lines = lines.number

abbrev pub at_line : ℕ → LineStop → Refusal ScriptFault
at_line number (stop.Fault fault) = Fault number fault
at_line number stop.NoMemory = NoMemory

-- what is left is that of a text of at most 2^28 bytes
pub record HasRoom (lines : LinesLeft) : Type 0 where
  pub first : 1 ≤ number_left lines
  pub last : number_left lines + size_left lines ≤ 2 ^ 28 + 2

-- what is left after the lines of a block and its line `.end`
pub record IsAfterBlock (before after : LinesLeft) : Type 0 where
  pub lines : lines_left after ≡ drop (position_or_len is_block_end (lines_left before) + 1) (lines_left before)
  pub number : number_left after ≡ number_left before + (position_or_len is_block_end (lines_left before) + 1)
  pub room : HasRoom after

-- the same, where a line was taken, and where it was not
abbrev pub IsTaken : {X : Type 0} → Bool → X → X → Type 0
IsTaken true x y = x ≡ y
IsTaken false x y = Unit {0}

abbrev pub IsOther : {X : Type 0} → Bool → X → X → Type 0
IsOther true x y = Unit {0}
IsOther false x y = x ≡ y
