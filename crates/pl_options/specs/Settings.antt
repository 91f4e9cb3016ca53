-- Settings texts, and the first breach of any other text.
use Rattle.std.specs.Prelude.{◌≡◌, ℕ, ◌+◌, Bool, true, false, Option, Some, None, Ok, Err, List, ◌∷◌, ◌++◌, length, map, reverse, count_by, All, refl}
use Rattle.std.specs.Result.{IsOk}
use Rattle.std.specs.List.{filter_map}
use Rattle.std.specs.Coded.{Coded, code_by, coded×, coded_ℕ}
use Rattle.std.specs.FinMap.{from_entries}
use Rattle.pl_keys.specs.declared.key.Key.{Key}
use Rattle.pl_keys.specs.declared.value.Value.{Value}
use Rattle.pl_options.specs.declared.fault.IniFault.{IniFault}
use Rattle.pl_options.specs.declared.line.Line.{Line}
use Rattle.pl_options.specs.declared.line.Line.TheVariants.{Unknown, Put}
use Rattle.pl_options.specs.KeyMap.{KeyMap, key_map_code}
use Rattle.pl_options.specs.Lines.{lines_of, line_of}

pub record Settings : Type 0 where
  pub values : KeyMap
  -- how many lines have a key of the table, and how many another key
  pub taken : ℕ
  pub passed : ℕ

abbrev pub settings_code : Coded Settings
settings_code =
    code_by (KeyMap × (ℕ × ℕ)) (coded× key_map_code (coded× coded_ℕ coded_ℕ)) (λ s. (s.values, (s.taken, s.passed))) (λ p. record { values = p.0; taken = p.1.0; passed = p.1.1 }) (λ _. refl)

abbrev pub put_of : Line → Option (Key × Value)
put_of (Put key value) = Some (key, value)
put_of _ = None

abbrev pub is_unknown : Line → Bool
is_unknown Unknown = true
is_unknown _ = false

-- the settings of lines; of a key that is put more than once, the last value stands
abbrev pub settings_of : List Line → Settings
settings_of lines = record {
  values = from_entries (reverse (filter_map put_of lines));
  taken = length (filter_map put_of lines);
  passed = count_by is_unknown lines;
}

-- no line breaks, and these are the settings of what the lines say
pub record Sets (texts : List (List ℕ)) (settings : Settings) : Type 0 where
  pub lines : List Line
  pub said : map line_of texts ≡ map Ok lines
  pub same : settings ≡ settings_of lines

-- the line of this number, counted from 1, breaks, and no earlier one does
pub record Breaks (texts : List (List ℕ)) (number : ℕ) (fault : IniFault) : Type 0 where
  pub before : List (List ℕ)
  pub line : List ℕ
  pub after : List (List ℕ)
  pub all : texts ≡ before ++ line ∷ after
  pub whole : All (λ earlier. IsOk (line_of earlier)) before
  pub broken : line_of line ≡ Err fault
  pub place : number ≡ length before + 1

abbrev pub IsSettingsText : List ℕ → Settings → Type 0
IsSettingsText text settings = Sets (lines_of text) settings

abbrev pub IsFirstBreach : List ℕ → ℕ → IniFault → Type 0
IsFirstBreach text number fault = Breaks (lines_of text) number fault
