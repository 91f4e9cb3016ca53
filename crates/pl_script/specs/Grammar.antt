-- Script texts line by line, and the first breach of any other text.
use Rattle.std.specs.Prelude.{◌≡◌, ℕ, ◌+◌, ◌<◌, ◌==◌, ◌&&◌, Bool, true, false, not, Some, None, Ok, Err, List, [], ◌∷◌, ◌++◌, length, count_by, All, codes}
use Rattle.std.specs.Str.{bytes_eq}
use Rattle.pl_edit.specs.Data.{Data}
use Rattle.pl_script.specs.declared.script.Line.{Line}
use Rattle.pl_script.specs.declared.fault.ScriptFault.{ScriptFault}
use Rattle.pl_script.specs.declared.fault.ScriptFault.TheVariants.{NoHead, Stuck}
use Rattle.pl_script.specs.Lines.{line_text, line_words, is_passed_over}
use Rattle.pl_script.specs.Orders.{Order, block_named}
use Rattle.pl_script.specs.Stuck.{IsFree, IsStuckAt}
use Rattle.pl_script.specs.Script.{Script, is_head, is_data, data_name, is_block_end, with_ends, block_in, workers_in}
use Rattle.pl_script.specs.Commands.{IsCommandLine, IsLineFault}

-- a line that is not passed over
abbrev pub counts : List ℕ → Bool
counts line = not (is_passed_over (line_words line))

abbrev pub is_workers : List (List ℕ) → Bool
is_workers [] = false
is_workers (word ∷ words) = bytes_eq word (codes "workers")

-- a line of these words, behind these lines, gives the number of workers: of the lines before it only the head counts
abbrev pub sets_workers : List (List ℕ) → List (List ℕ) → Bool
sets_workers before words = count_by counts before == 1 && is_workers words

abbrev pub is_empty : List Line → Bool
is_empty [] = true
is_empty (line ∷ lines) = false

-- a line of these words, behind the lines of this script, begins a block: no command stands before it
abbrev pub begins_block : Script → List (List ℕ) → Bool
begins_block script words = is_empty script.lines && is_data words

-- the lines of a block: its data line, lines of which none is `.end`, and a line `.end`
pub record IsBlock (part : List (List ℕ)) (block : Data) : Type 0 where
  pub first : List ℕ
  pub body : List (List ℕ)
  pub last : List ℕ
  pub all : part ≡ first ∷ (body ++ last ∷ [])
  pub data_line : is_data (line_words first) ≡ true
  pub name : data_name (line_words first) ≡ Ok block.name
  pub inner : All (λ line. is_block_end line ≡ false) body
  pub end : is_block_end last ≡ true
  pub bytes : block.bytes ≡ with_ends body

-- any other line that counts
pub record IsOther (before : List (List ℕ)) (script : Script) (line : List ℕ) : Type 0 where
  pub counts_too : counts line ≡ true
  pub no_workers : sets_workers before (line_words line) ≡ false
  pub no_block : begins_block script (line_words line) ≡ false

-- a script with one more command line
abbrev pub with_line : Script → Line → Script
with_line script line = record { workers = script.workers; blocks = script.blocks; lines = script.lines ++ line ∷ [] }

-- The lines begin a script: all that they say is so far these workers, blocks and command lines. A line that is passed over changes
-- nothing.
pub data IsBeginning : List (List ℕ) → Script → Type 0 where
  head : (line : List ℕ) → is_head (line_words line) ≡ true → IsBeginning (line ∷ []) (record { workers = 0; blocks = []; lines = [] })
  passed : (before : List (List ℕ)) (script : Script) (line : List ℕ) → IsBeginning before script → counts line ≡ false → IsBeginning (before ++ line ∷ []) script
  workers : (before : List (List ℕ)) (script : Script) (line : List ℕ) (number : ℕ)
      → IsBeginning before script → sets_workers before (line_words line) ≡ true → workers_in (line_words line) ≡ Ok (Some number)
      → IsBeginning (before ++ line ∷ []) (record { workers = number; blocks = script.blocks; lines = script.lines })
  block : (before : List (List ℕ)) (script : Script) (part : List (List ℕ)) (block : Data)
      → IsBeginning before script → is_empty script.lines ≡ true → IsBlock part block → block_named script.blocks block.name ≡ None
      → IsBeginning (before ++ part) (record { workers = script.workers; blocks = script.blocks ++ block ∷ []; lines = script.lines })
  command : (before : List (List ℕ)) (script : Script) (line : List ℕ) (session : ℕ) (order : Order)
      → IsBeginning before script → IsOther before script line → IsCommandLine script.blocks (line_text line) session order → length script.lines < 10000
      → IsBeginning (before ++ line ∷ []) (with_line script (record { number = length before + 1; session = session; command = order }))

-- the lines are those of a script: all its commands have an order in which they can come
pub record IsScriptText (lines : List (List ℕ)) (script : Script) : Type 0 where
  pub says : IsBeginning lines script
  pub free : IsFree script.lines

-- The lines are no script's, and the first breach is this fault at the line of this number, counted from 1: the lines before
-- it begin a script, and the line, with those after it, does not go on; or else all lines say a script that is stuck there.
pub data IsFirstBreach : List (List ℕ) → ℕ → ScriptFault → Type 0 where
  nothing : IsFirstBreach [] 1 NoHead
  no_head : (line : List ℕ) (rest : List (List ℕ)) → is_head (line_words line) ≡ false → IsFirstBreach (line ∷ rest) 1 NoHead
  bad_workers : (before : List (List ℕ)) (script : Script) (line : List ℕ) (rest : List (List ℕ)) (fault : ScriptFault)
      → IsBeginning before script → sets_workers before (line_words line) ≡ true → workers_in (line_words line) ≡ Err fault
      → IsFirstBreach (before ++ line ∷ rest) (length before + 1) fault
  bad_block : (before : List (List ℕ)) (script : Script) (line : List ℕ) (rest : List (List ℕ)) (fault : ScriptFault)
      → IsBeginning before script → begins_block script (line_words line) ≡ true → block_in script.blocks (line_words line) rest ≡ Err fault
      → IsFirstBreach (before ++ line ∷ rest) (length before + 1) fault
  bad_command : (before : List (List ℕ)) (script : Script) (line : List ℕ) (rest : List (List ℕ)) (fault : ScriptFault)
      → IsBeginning before script → IsOther before script line → IsLineFault script.blocks (length script.lines) (line_text line) fault
      → IsFirstBreach (before ++ line ∷ rest) (length before + 1) fault
  stuck : (lines : List (List ℕ)) (script : Script) (number : ℕ) → IsBeginning lines script → IsStuckAt script.lines number → IsFirstBreach lines number Stuck
