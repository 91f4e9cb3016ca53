-- Command lines.
use Rattle.std.specs.Prelude.{ℕ, if◌then◌else◌, Option, Some, None, Result, Err, List, [], ◌∷◌, codes}
use Rattle.std.specs.List.{find}
use Rattle.std.specs.Option.{option_map, option_map_or, option_and_then, ok_or}
use Rattle.std.specs.Str.{bytes_eq}
use Rattle.pl_script.specs.declared.verb.Verb.{Verb}
use Rattle.pl_script.specs.declared.verb.Verb.TheVariants as verb
use Rattle.pl_edit.specs.Data.{Data}
use Rattle.pl_edit.specs.declared.edit.Edit.{Edit}
use Rattle.pl_edit.specs.declared.edit.Edit.TheVariants as edit
use Rattle.pl_machine.specs.declared.entry.Command.{Command}
use Rattle.pl_machine.specs.declared.entry.Command.TheVariants as command
use Rattle.pl_script.specs.declared.fault.ScriptFault.{ScriptFault}
use Rattle.pl_script.specs.declared.fault.ScriptFault.TheVariants.{BadLine, UnknownCommand, BadSession, NoData}
use Rattle.pl_script.specs.Outcomes.{mapped}
use Rattle.pl_script.specs.Lines.{after_word, trimmed}
use Rattle.pl_script.specs.Forms.{is_name, is_whole, whole_of, session_of, byte_of, nm_of}

-- what a session asks for
abbrev pub Order : Type 0
Order = Command Edit

-- how a command is called
abbrev pub verb_text : Verb → List ℕ
verb_text verb.Load = codes "load"
verb_text verb.Reload = codes "reload"
verb_text verb.Delete = codes "delete"
verb_text verb.Copy = codes "copy"
verb_text verb.Move = codes "move"
verb_text verb.Drop = codes "drop"
verb_text verb.Turn = codes "turn"
verb_text verb.Set = codes "set"
verb_text verb.Override = codes "override"
verb_text verb.Unset = codes "unset"
verb_text verb.Ini = codes "ini"
verb_text verb.Apply = codes "apply"
verb_text verb.Export = codes "export"
verb_text verb.Status = codes "status"
verb_text verb.Cancel = codes "cancel"
verb_text verb.After = codes "after"

abbrev pub verbs : List Verb
verbs = verb.Load ∷ verb.Reload ∷ verb.Delete ∷ verb.Copy ∷ verb.Move ∷ verb.Drop ∷ verb.Turn ∷ verb.Set ∷ verb.Override ∷ verb.Unset ∷ verb.Ini ∷ verb.Apply ∷ verb.Export ∷ verb.Status ∷ verb.Cancel ∷ verb.After ∷ []

-- the command that a word calls
abbrev pub verb_of : List ℕ → Option Verb
verb_of word = find (λ verb. bytes_eq (verb_text verb) word) verbs

-- the block of a name
abbrev pub block_named : List Data → List ℕ → Option Data
block_named blocks name = find (λ block. bytes_eq block.name name) blocks

-- the words, where there are just so many

abbrev pub one_of : List (List ℕ) → Option (List ℕ)
one_of (a ∷ []) = Some a
one_of _ = None

abbrev pub two_of : List (List ℕ) → Option (List ℕ × List ℕ)
two_of (a ∷ b ∷ []) = Some (a, b)
two_of _ = None

abbrev pub three_of : List (List ℕ) → Option (List ℕ × List ℕ × List ℕ)
three_of (a ∷ b ∷ c ∷ []) = Some (a, b, c)
three_of _ = None

abbrev pub four_of : List (List ℕ) → Option (List ℕ × List ℕ × List ℕ × List ℕ)
four_of (a ∷ b ∷ c ∷ d ∷ []) = Some (a, b, c, d)
four_of _ = None

-- the first words, where there are at least so many

abbrev pub first_of : List (List ℕ) → Option (List ℕ)
first_of [] = None
first_of (a ∷ words) = Some a

abbrev pub first_two_of : List (List ℕ) → Option (List ℕ × List ℕ)
first_two_of (a ∷ b ∷ words) = Some (a, b)
first_two_of _ = None

-- the orders of the words after a command: none where their number or their form is another

abbrev pub alone : Order → List (List ℕ) → Option Order
alone order [] = Some order
alone order (word ∷ words) = None

-- PLACE
abbrev pub delete_in : List (List ℕ) → Option Order
delete_in words = option_and_then (λ place. option_map (λ p. command.Edit (edit.Delete p)) (byte_of place)) (one_of words)

-- PLACE X Y
abbrev pub copy_in : List (List ℕ) → Option Order
copy_in words = option_and_then (λ w. option_and_then (λ p. option_and_then (λ x. option_map (λ y. command.Edit (edit.Copy p x y)) (nm_of w.2)) (nm_of w.1)) (byte_of w.0)) (three_of words)

-- PLACE INSTANCE X Y
abbrev pub move_in : List (List ℕ) → Option Order
move_in words =
    option_and_then (λ w. option_and_then (λ p. option_and_then (λ i. option_and_then (λ x. option_map (λ y. command.Edit (edit.Move p i x y)) (nm_of w.3)) (nm_of w.2)) (byte_of w.1)) (byte_of w.0)) (four_of words)

-- PLACE INSTANCE
abbrev pub drop_in : List (List ℕ) → Option Order
drop_in words = option_and_then (λ w. option_and_then (λ p. option_map (λ i. command.Edit (edit.Drop p i)) (byte_of w.1)) (byte_of w.0)) (two_of words)

-- PLACE QUARTER
abbrev pub turn_in : List (List ℕ) → Option Order
turn_in words = option_and_then (λ w. option_and_then (λ p. option_map (λ q. command.Edit (edit.Turn p q)) (whole_of 3 w.1)) (byte_of w.0)) (two_of words)

-- KEY VALUE, where the value is the rest of the text
abbrev pub set_in : List (List ℕ) → List ℕ → Option Order
set_in words text = option_map (λ key. command.Edit (edit.Set key (trimmed (after_word text)))) (first_of words)

-- PLACE KEY VALUE, likewise
abbrev pub override_in : List (List ℕ) → List ℕ → Option Order
override_in words text = option_and_then (λ w. option_map (λ p. command.Edit (edit.Override p w.1 (trimmed (after_word (after_word text))))) (byte_of w.0)) (first_two_of words)

-- PLACE KEY
abbrev pub unset_in : List (List ℕ) → Option Order
unset_in words = option_and_then (λ w. option_map (λ p. command.Edit (edit.Unset p w.1)) (byte_of w.0)) (two_of words)

-- the block that a word names
abbrev pub block_of : List Data → List ℕ → Result Data ScriptFault
block_of blocks name = if is_name name then ok_or (block_named blocks name) NoData else Err BadLine

-- NAME BLOCK
abbrev pub load_words : List Data → Option (List ℕ × List ℕ) → Result Order ScriptFault
load_words blocks None = Err BadLine
load_words blocks (Some w) = if is_name w.0 then mapped (λ block. command.Edit (edit.Load w.0 block)) (block_of blocks w.1) else Err BadLine

abbrev pub load_in : List Data → List (List ℕ) → Result Order ScriptFault
load_in blocks words = load_words blocks (two_of words)

-- PLACE BLOCK
abbrev pub reload_words : List Data → Option (List ℕ × List ℕ) → Result Order ScriptFault
reload_words blocks None = Err BadLine
reload_words blocks (Some w) = option_map_or (λ p. mapped (λ block. command.Edit (edit.Reload p block)) (block_of blocks w.1)) (byte_of w.0) (Err BadLine)

abbrev pub reload_in : List Data → List (List ℕ) → Result Order ScriptFault
reload_in blocks words = reload_words blocks (two_of words)

-- BLOCK
abbrev pub ini_in : List Data → List (List ℕ) → Result Order ScriptFault
ini_in blocks words = option_map_or (λ name. mapped (λ block. command.Edit (edit.Ini block)) (block_of blocks name)) (one_of words) (Err BadLine)

-- a whole number and a number of calls, and then whether the first is a session
abbrev pub after_calls : List ℕ → ℕ → Result Order ScriptFault
after_calls session calls = if is_whole session then ok_or (option_map (λ s. command.After s calls) (session_of session)) BadSession else Err BadLine

abbrev pub after_words : Option (List ℕ × List ℕ) → Result Order ScriptFault
after_words None = Err BadLine
after_words (Some w) = option_map_or (λ calls. after_calls w.0 calls) (whole_of 10000 w.1) (Err BadLine)

abbrev pub after_in : List (List ℕ) → Result Order ScriptFault
after_in words = after_words (two_of words)

-- the order of a command, by the words after it, and the text that they stand in
abbrev pub order_in : List Data → Verb → List (List ℕ) → List ℕ → Result Order ScriptFault
order_in blocks verb.Load words text = load_in blocks words
order_in blocks verb.Reload words text = reload_in blocks words
order_in blocks verb.Delete words text = ok_or (delete_in words) BadLine
order_in blocks verb.Copy words text = ok_or (copy_in words) BadLine
order_in blocks verb.Move words text = ok_or (move_in words) BadLine
order_in blocks verb.Drop words text = ok_or (drop_in words) BadLine
order_in blocks verb.Turn words text = ok_or (turn_in words) BadLine
order_in blocks verb.Set words text = ok_or (set_in words text) BadLine
order_in blocks verb.Override words text = ok_or (override_in words text) BadLine
order_in blocks verb.Unset words text = ok_or (unset_in words) BadLine
order_in blocks verb.Ini words text = ini_in blocks words
order_in blocks verb.Apply words text = ok_or (alone command.Apply words) BadLine
order_in blocks verb.Export words text = ok_or (alone command.Export words) BadLine
order_in blocks verb.Status words text = ok_or (alone command.Status words) BadLine
order_in blocks verb.Cancel words text = ok_or (alone command.Cancel words) BadLine
order_in blocks verb.After words text = after_in words

-- the order of the words after a session, and of the text that they stand in
abbrev pub order_of : List Data → List (List ℕ) → List ℕ → Result Order ScriptFault
order_of blocks [] text = Err UnknownCommand
order_of blocks (word ∷ words) text = option_map_or (λ verb. order_in blocks verb words (after_word text)) (verb_of word) (Err UnknownCommand)
