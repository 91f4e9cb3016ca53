-- What holds of the commands of one script, and of the calls of a history that was made of them.
use Rattle.std.specs.Prelude.{◌≡◌, ◌≢◌, ℕ, ◌<◌, ◌^◌, true, List, [], Option, Some, None, All, Contains}
use Rattle.pl_units.specs.declared.Nm.{Nm}
use Rattle.pl_units.specs.Within.{Within}
use Rattle.pl_script.specs.Forms.{is_name}
use Rattle.pl_edit.specs.Data.{Data}
use Rattle.pl_edit.specs.declared.edit.Edit.{Edit}
use Rattle.pl_edit.specs.declared.edit.Edit.TheVariants as edit
use Rattle.pl_machine.specs.declared.entry.Command.{Command}
use Rattle.pl_machine.specs.declared.entry.Command.TheVariants as command
use Rattle.pl_machine.specs.declared.entry.What.{What}
use Rattle.pl_machine.specs.declared.entry.What.TheVariants.{Call}
use Rattle.pl_machine.specs.declared.entry.Entry.{Entry}

-- 1 to 64 ASCII letters, digits, `_`, `-` and `.`
abbrev pub IsName : List ℕ → Type 0
IsName text = is_name text ≡ true

-- no space, tab or line end
abbrev pub IsNoBlank : ℕ → Type 0
IsNoBlank b = (b ≢ 32) × (b ≢ 9) × (b ≢ 10)

-- not empty, and without such bytes
pub record IsWord (text : List ℕ) : Type 0 where
  pub some : text ≢ []
  pub solid : All IsNoBlank text

-- without line end
abbrev pub IsLine : List ℕ → Type 0
IsLine text = All (λ b. b ≢ 10) text

-- a place or an instance
abbrev pub IsPlace : ℕ → Type 0
IsPlace n = n < 256

-- at most a metre in size
abbrev pub IsNear : Nm → Type 0
IsNear length = Within 1000000000 length.0

-- each part of the edit is of its form and in its range
abbrev pub IsSpelledEdit : Edit → Type 0
IsSpelledEdit (edit.Load name block) = IsName name × IsName block.name
IsSpelledEdit (edit.Reload place block) = IsPlace place × IsName block.name
IsSpelledEdit (edit.Delete place) = IsPlace place
IsSpelledEdit (edit.Copy place x y) = IsPlace place × IsNear x × IsNear y
IsSpelledEdit (edit.Move place instance x y) = IsPlace place × IsPlace instance × IsNear x × IsNear y
IsSpelledEdit (edit.Drop place instance) = IsPlace place × IsPlace instance
IsSpelledEdit (edit.Turn place quarter) = IsPlace place × (quarter < 4)
IsSpelledEdit (edit.Set key value) = IsWord key × IsLine value
IsSpelledEdit (edit.Override place key value) = IsPlace place × IsWord key × IsLine value
IsSpelledEdit (edit.Unset place key) = IsPlace place × IsWord key
IsSpelledEdit (edit.Ini block) = IsName block.name

-- and of the command
abbrev pub IsSpelled : Command Edit → Type 0
IsSpelled (command.Edit change) = IsSpelledEdit change
IsSpelled (command.After session calls) = (session < 2 ^ 32) × (calls < 2 ^ 32)
IsSpelled c = Unit {0}

-- the block that a command names
abbrev pub block_of : Command Edit → Option Data
block_of (command.Edit (edit.Load name block)) = Some block
block_of (command.Edit (edit.Reload place block)) = Some block
block_of (command.Edit (edit.Ini block)) = Some block
block_of c = None

-- commands that stand in one script
pub record AreOfOneScript (commands : List (Command Edit)) : Type 0 where
  pub spelled : All IsSpelled commands
  -- two blocks of one name are one block
  pub one_block : (c d : Command Edit) (a b : Data) → Contains commands c → Contains commands d → block_of c ≡ Some a → block_of d ≡ Some b → a.name ≡ b.name → a ≡ b

module _ {T P E R O J B : Type 0} where
  -- a call's command is one of these
  abbrev pub IsCallAmong : List (Command E) → What T P E R O J B → Type 0
  IsCallAmong commands (Call c reply) = Contains commands c
  IsCallAmong commands what = Unit {0}

  abbrev pub CallsAmong : List (Command E) → List (Entry T P E R O J B) → Type 0
  CallsAmong commands history = All (λ entry. IsCallAmong commands entry.what) history
