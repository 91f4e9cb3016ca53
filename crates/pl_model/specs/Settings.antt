-- How a settings text is read: its settings, or its first breach.
use Rattle.std.specs.Prelude.{ℕ, ◌+◌, Result, Ok, Err, List, [], ◌∷◌, ◌++◌, map}
use Rattle.std.specs.FinMap.{from_entries, entries}
use Rattle.pl_options.specs.declared.fault.IniFault.{IniFault}
use Rattle.pl_options.specs.KeyMap.{KeyMap}
use Rattle.pl_options.specs.Lines.{lines_of, line_of}
use Rattle.pl_options.specs.Settings.{Settings, settings_of}

-- a fault at a line, counted from 1
pub data IniBreach : Type 0 where
  breach : ℕ → IniFault → IniBreach

abbrev pub before : {X : Type 0} → X → Result (List X) IniBreach → Result (List X) IniBreach
before line (Ok lines) = Ok (line ∷ lines)
before line (Err fault) = Err fault

-- what all lines say, or the first one that breaks, where the first line has this number
abbrev pub said_from : {X : Type 0} → ℕ → List (Result X IniFault) → Result (List X) IniBreach
said_from number [] = Ok []
said_from number (Ok line ∷ rest) = before line (said_from (number + 1) rest)
said_from number (Err fault ∷ rest) = Err (breach number fault)

abbrev pub settings_by : {X : Type 0} → (List X → Settings) → Result (List X) IniBreach → Result Settings IniBreach
settings_by settings (Ok lines) = Ok (settings lines)
settings_by settings (Err fault) = Err fault

-- the settings of a text, or its first breach
abbrev pub ini_of : List ℕ → Result Settings IniBreach
ini_of text = settings_by settings_of (said_from 1 (map line_of (lines_of text)))

-- the values of a map over those of another
abbrev pub put_over : KeyMap → KeyMap → KeyMap
put_over new old = from_entries (entries new ++ entries old)
