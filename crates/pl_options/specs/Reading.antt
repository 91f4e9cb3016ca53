-- Reading a settings text line by line.
use Rattle.std.specs.Prelude.{◌≡◌, ℕ, ◌+◌, Ok, Err, Result, List}
use Rattle.std.specs.FinMap.{insert}
use Rattle.pl_units.specs.declared.Refusal.{Refusal}
use Rattle.pl_units.specs.declared.Refusal.TheVariants.{Fault, NoMemory}
use Rattle.pl_options.specs.declared.fault.IniFault.{IniFault}
use Rattle.pl_options.specs.declared.line.Line.{Line}
use Rattle.pl_options.specs.declared.line.Line.TheVariants.{Nothing, Unknown, Put}
use Rattle.pl_options.specs.Lines.{Refuses}
use Rattle.pl_options.specs.Settings.{Settings, IsFirstBreach}

-- settings with a further line
abbrev pub with_line : Settings → Line → Settings
with_line s Nothing = s
with_line s Unknown = record s { passed = s.passed + 1 }
with_line s (Put key value) = record s { values = insert s.values key value; taken = s.taken + 1 }

-- the settings have what the line of this number says, or the refusal is that line's
abbrev pub Takes : ℕ → Result Line IniFault → Settings → Settings → Result (Unit {0}) (Refusal IniFault) → Type 0
Takes number said old new (Ok _) = (line : Line) × (said ≡ Ok line) × (new ≡ with_line old line)
Takes number said old new (Err refusal) = Refuses number said refusal

-- the refusal is the text's first breach, or memory was wanted
abbrev pub IsRefusal : List ℕ → Refusal IniFault → Type 0
IsRefusal text (Fault line fault) = IsFirstBreach text line fault
IsRefusal text NoMemory = Unit {0}
