-- The words of commands, as they were read.
use Rattle.std.specs.Prelude.{ℕ, List, [], ◌∷◌, codes}
use Rattle.std.specs.Fmt.{decimal}
use Rattle.pl_edit.specs.declared.edit.Edit.{Edit}
use Rattle.pl_edit.specs.declared.edit.Edit.TheVariants as edit
use Rattle.pl_machine.specs.declared.entry.Command.{Command}
use Rattle.pl_machine.specs.declared.entry.Command.TheVariants as command
use Rattle.pl_transcript.specs.Words.{mm_word}

-- a value as it stands; an empty one is left out
abbrev pub value_words : List ℕ → List (List ℕ)
value_words [] = []
value_words value = value ∷ []

abbrev pub edit_words : Edit → List (List ℕ)
edit_words (edit.Load name block) = codes "load" ∷ name ∷ block.name ∷ []
edit_words (edit.Reload place block) = codes "reload" ∷ decimal place ∷ block.name ∷ []
edit_words (edit.Delete place) = codes "delete" ∷ decimal place ∷ []
edit_words (edit.Copy place x y) = codes "copy" ∷ decimal place ∷ mm_word x ∷ mm_word y ∷ []
edit_words (edit.Move place instance x y) = codes "move" ∷ decimal place ∷ decimal instance ∷ mm_word x ∷ mm_word y ∷ []
edit_words (edit.Drop place instance) = codes "drop" ∷ decimal place ∷ decimal instance ∷ []
edit_words (edit.Turn place quarter) = codes "turn" ∷ decimal place ∷ decimal quarter ∷ []
edit_words (edit.Set key value) = codes "set" ∷ key ∷ value_words value
edit_words (edit.Override place key value) = codes "override" ∷ decimal place ∷ key ∷ value_words value
edit_words (edit.Unset place key) = codes "unset" ∷ decimal place ∷ key ∷ []
edit_words (edit.Ini block) = codes "ini" ∷ block.name ∷ []

abbrev pub command_words : Command Edit → List (List ℕ)
command_words (command.Edit change) = edit_words change
command_words command.Apply = codes "apply" ∷ []
command_words command.Export = codes "export" ∷ []
command_words command.Status = codes "status" ∷ []
command_words command.Cancel = codes "cancel" ∷ []
command_words (command.After session calls) = codes "after" ∷ decimal session ∷ decimal calls ∷ []
