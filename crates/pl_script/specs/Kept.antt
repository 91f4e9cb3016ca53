-- What the blocks and the command lines of a script keep.
use Rattle.std.specs.Prelude.{◌≡◌, ◌≢◌, ℕ, ◌≤◌, true, false, Option, Some, None, List, length}
use Rattle.std.specs.List.{All}
use Rattle.std.specs.Option.{IfSome}
use Rattle.pl_units.specs.declared.Nm.{Nm}
use Rattle.pl_units.specs.Within.{Within}
use Rattle.pl_edit.specs.Data.{Data}
use Rattle.pl_edit.specs.declared.edit.Edit.{Edit}
use Rattle.pl_edit.specs.declared.edit.Edit.TheVariants as edit
use Rattle.pl_machine.specs.declared.entry.Command.TheVariants as command
use Rattle.pl_script.specs.declared.script.Line.{Line}
use Rattle.pl_script.specs.Lines.{is_word, is_blank}
use Rattle.pl_script.specs.Forms.{is_name}
use Rattle.pl_script.specs.Orders.{Order, block_named}
use Rattle.pl_script.specs.Script.{Script}

-- without a line end
abbrev pub IsInLine : List ℕ → Type 0
IsInLine text = All (λ b. b ≢ 10) text

-- one byte or more, no blank and no line end among them
pub record IsWord (word : List ℕ) : Type 0 where
  pub some : is_word word ≡ true
  pub whole : All (λ b. is_blank b ≡ false) word
  pub line : IsInLine word

-- at most a metre in size
abbrev pub IsShort : Nm → Type 0
IsShort nm = Within 1000000000 nm.0

-- a place on the plate, or an instance at a place
abbrev pub IsPlace : ℕ → Type 0
IsPlace n = n ≤ 255

-- an edit's words are of their forms and in their ranges
abbrev pub IsEdit : Edit → Type 0
IsEdit (edit.Load name block) = is_name name ≡ true
IsEdit (edit.Reload place block) = IsPlace place
IsEdit (edit.Delete place) = IsPlace place
IsEdit (edit.Copy place x y) = IsPlace place × IsShort x × IsShort y
IsEdit (edit.Move place instance x y) = IsPlace place × IsPlace instance × IsShort x × IsShort y
IsEdit (edit.Drop place instance) = IsPlace place × IsPlace instance
IsEdit (edit.Turn place quarter) = IsPlace place × (quarter ≤ 3)
IsEdit (edit.Set key value) = IsWord key × IsInLine value
IsEdit (edit.Override place key value) = IsPlace place × IsWord key × IsInLine value
IsEdit (edit.Unset place key) = IsPlace place × IsWord key
IsEdit (edit.Ini block) = Unit {0}

-- a session, from 1 to 16
abbrev pub IsSession : ℕ → Type 0
IsSession s = (1 ≤ s) × (s ≤ 16)

abbrev pub IsOrder : Order → Type 0
IsOrder (command.Edit edit) = IsEdit edit
IsOrder (command.After session calls) = IsSession session × (calls ≤ 10000)
IsOrder _ = Unit {0}

pub record IsLine (line : Line) : Type 0 where
  pub session : IsSession line.session
  pub order : IsOrder line.command

-- the command lines of a script
pub record AreLines (lines : List Line) : Type 0 where
  pub few : length lines ≤ 10000
  pub each : All IsLine lines

-- the blocks of a script: each has a name of the form of names, and is found by it
pub record IsBlocks (blocks : List Data) : Type 0 where
  pub named : All (λ block. is_name block.name ≡ true) blocks
  pub apart : All (λ block. block_named blocks block.name ≡ Some block) blocks

-- each entry of a map has the name of its block for its key
abbrev pub IsKeyed : {K : Type 0} → List (K × Data) → (K → List ℕ) → Type 0
IsKeyed entries name = All (λ entry. name entry.0 ≡ entry.1.name) entries

-- the block that an order carries
abbrev pub edit_block : Edit → Option Data
edit_block (edit.Load name block) = Some block
edit_block (edit.Reload place block) = Some block
edit_block (edit.Ini block) = Some block
edit_block _ = None

abbrev pub order_block : Order → Option Data
order_block (command.Edit edit) = edit_block edit
order_block _ = None

-- a block that an order carries is one of these, found by its name
abbrev pub HasBlock : List Data → Order → Type 0
HasBlock blocks order = IfSome (order_block order) (λ block. block_named blocks block.name ≡ Some block)

abbrev pub HaveBlocks : List Data → List Line → Type 0
HaveBlocks blocks lines = All (λ line. HasBlock blocks line.command) lines

pub record IsScript (script : Script) : Type 0 where
  pub few : script.workers ≤ 8
  pub blocks : HaveBlocks script.blocks script.lines
