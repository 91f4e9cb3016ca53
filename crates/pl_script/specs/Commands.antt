-- What a command line says, and why one may not stand where it stands.
use Rattle.std.specs.Prelude.{◌≡◌, ℕ, ◌≤◌, true, Some, None, List, [], ◌∷◌, codes}
use Rattle.pl_units.specs.declared.Nm.{Nm}
use Rattle.pl_edit.specs.Data.{Data}
use Rattle.pl_edit.specs.declared.edit.Edit.{Edit}
use Rattle.pl_edit.specs.declared.edit.Edit.TheVariants as edit
use Rattle.pl_machine.specs.declared.entry.Command.TheVariants as command
use Rattle.pl_script.specs.declared.fault.ScriptFault.{ScriptFault}
use Rattle.pl_script.specs.declared.fault.ScriptFault.TheVariants.{BadLine, UnknownCommand, BadSession, NoData, TooMany}
use Rattle.pl_script.specs.Lines.{words_of, after_word, trimmed}
use Rattle.pl_script.specs.Forms.{is_name, is_whole, whole_of, session_of, byte_of, nm_of}
use Rattle.pl_script.specs.Orders.{Order, block_named, verb_of}

-- what the words of a command ask for: an order; an edit with the block of a name; to wait for so many commands of the session that
-- a word names
pub data Asked : Type 0 where
  plain : Order → Asked
  with_block : List ℕ → (Data → Edit) → Asked
  behind : List ℕ → ℕ → Asked

abbrev pub changed : Edit → Asked
changed change = plain (command.Edit change)

-- The words have a form of the table of commands, and ask for this. A VALUE is the rest of the text behind the words before it.
pub data Asks : List (List ℕ) → List ℕ → Asked → Type 0 where
  asks_load : (name block text : List ℕ) → is_name name ≡ true → is_name block ≡ true → Asks (codes "load" ∷ name ∷ block ∷ []) text (with_block block (λ found. edit.Load name found))
  asks_reload : (place block text : List ℕ) (p : ℕ) → byte_of place ≡ Some p → is_name block ≡ true → Asks (codes "reload" ∷ place ∷ block ∷ []) text (with_block block (λ found. edit.Reload p found))
  asks_delete : (place text : List ℕ) (p : ℕ) → byte_of place ≡ Some p → Asks (codes "delete" ∷ place ∷ []) text (changed (edit.Delete p))
  asks_copy : (place east north text : List ℕ) (p : ℕ) (x y : Nm) → byte_of place ≡ Some p → nm_of east ≡ Some x → nm_of north ≡ Some y → Asks (codes "copy" ∷ place ∷ east ∷ north ∷ []) text (changed (edit.Copy p x y))
  asks_move : (place instance east north text : List ℕ) (p i : ℕ) (x y : Nm) → byte_of place ≡ Some p → byte_of instance ≡ Some i → nm_of east ≡ Some x → nm_of north ≡ Some y
      → Asks (codes "move" ∷ place ∷ instance ∷ east ∷ north ∷ []) text (changed (edit.Move p i x y))
  asks_drop : (place instance text : List ℕ) (p i : ℕ) → byte_of place ≡ Some p → byte_of instance ≡ Some i → Asks (codes "drop" ∷ place ∷ instance ∷ []) text (changed (edit.Drop p i))
  asks_turn : (place quarter text : List ℕ) (p q : ℕ) → byte_of place ≡ Some p → whole_of 3 quarter ≡ Some q → Asks (codes "turn" ∷ place ∷ quarter ∷ []) text (changed (edit.Turn p q))
  asks_set : (key text : List ℕ) (words : List (List ℕ)) → Asks (codes "set" ∷ key ∷ words) text (changed (edit.Set key (trimmed (after_word (after_word text)))))
  asks_override : (place key text : List ℕ) (words : List (List ℕ)) (p : ℕ) → byte_of place ≡ Some p → Asks (codes "override" ∷ place ∷ key ∷ words) text (changed (edit.Override p key (trimmed (after_word (after_word (after_word text))))))
  asks_unset : (place key text : List ℕ) (p : ℕ) → byte_of place ≡ Some p → Asks (codes "unset" ∷ place ∷ key ∷ []) text (changed (edit.Unset p key))
  asks_ini : (block text : List ℕ) → is_name block ≡ true → Asks (codes "ini" ∷ block ∷ []) text (with_block block (λ found. edit.Ini found))
  asks_apply : (text : List ℕ) → Asks (codes "apply" ∷ []) text (plain command.Apply)
  asks_export : (text : List ℕ) → Asks (codes "export" ∷ []) text (plain command.Export)
  asks_status : (text : List ℕ) → Asks (codes "status" ∷ []) text (plain command.Status)
  asks_cancel : (text : List ℕ) → Asks (codes "cancel" ∷ []) text (plain command.Cancel)
  asks_after : (session calls text : List ℕ) (n : ℕ) → is_whole session ≡ true → whole_of 10000 calls ≡ Some n → Asks (codes "after" ∷ session ∷ calls ∷ []) text (behind session n)

-- the order that is asked for
pub data IsAsked (blocks : List Data) : Asked → Order → Type 0 where
  order : (order : Order) → IsAsked blocks (plain order) order
  found : (name : List ℕ) (edit_of : Data → Edit) (block : Data) → block_named blocks name ≡ Some block → IsAsked blocks (with_block name edit_of) (command.Edit (edit_of block))
  named : (word : List ℕ) (calls session : ℕ) → session_of word ≡ Some session → IsAsked blocks (behind word calls) (command.After session calls)

-- the line, behind these blocks, says this command of this session: a session's number, and the words of a command
pub record IsCommandLine (blocks : List Data) (text : List ℕ) (session : ℕ) (order : Order) : Type 0 where
  pub first : List ℕ
  pub words : List (List ℕ)
  pub all : words_of text ≡ first ∷ words
  pub session_is : session_of first ≡ Some session
  pub asked : Asked
  pub asks : Asks words (after_word text) asked
  pub is : IsAsked blocks asked order

-- whether the first word is a session, and whether the first word is a command

abbrev pub HasNoSession : List (List ℕ) → Type 0
HasNoSession [] = Unit {0}
HasNoSession (word ∷ words) = session_of word ≡ None

abbrev pub HasNoCommand : List (List ℕ) → Type 0
HasNoCommand [] = Unit {0}
HasNoCommand (word ∷ words) = verb_of word ≡ None

-- the words are a session and those
pub record IsOfSession (text : List ℕ) (words : List (List ℕ)) : Type 0 where
  pub first : List ℕ
  pub session : ℕ
  pub all : words_of text ≡ first ∷ words
  pub is : session_of first ≡ Some session

-- why a line may not stand behind these blocks and so many command lines; of several causes the first
pub data IsLineFault (blocks : List Data) (before : ℕ) (text : List ℕ) : ScriptFault → Type 0 where
  -- its first word is no session
  no_session : HasNoSession (words_of text) → IsLineFault blocks before text BadSession
  -- its second word is no command
  no_command : (words : List (List ℕ)) → IsOfSession text words → HasNoCommand words → IsLineFault blocks before text UnknownCommand
  -- the other words are not of the command's number and form
  no_form : (words : List (List ℕ)) → IsOfSession text words → (HasNoCommand words → ⊥) → ((asked : Asked) → Asks words (after_word text) asked → ⊥) → IsLineFault blocks before text BadLine
  -- it waits for what is no session
  no_such_session : (words : List (List ℕ)) (word : List ℕ) (calls : ℕ) → IsOfSession text words → Asks words (after_word text) (behind word calls) → session_of word ≡ None → IsLineFault blocks before text BadSession
  -- a block that it names is not there
  no_block : (words : List (List ℕ)) (name : List ℕ) (edit_of : Data → Edit) → IsOfSession text words → Asks words (after_word text) (with_block name edit_of) → block_named blocks name ≡ None → IsLineFault blocks before text NoData
  -- it is a command line, and 10,000 stand before it
  too_many : (session : ℕ) (order : Order) → IsCommandLine blocks text session order → 10000 ≤ before → IsLineFault blocks before text TooMany
