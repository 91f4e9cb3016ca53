-- What a script is, and the first breach of a text that is none.
use Rattle.std.specs.Prelude.{ℕ, zero, suc, ◌+◌, nat_lt, Bool, false, ◌&&◌, if◌then◌else◌, Option, Some, None, is_some, Result, Ok, Err, List, [], ◌∷◌, ◌++◌, take, codes}
use Rattle.std.specs.List.{position, position_or_len, flat_map}
use Rattle.std.specs.Option.{option_map, option_map_or, option_and_then, ok_or}
use Rattle.std.specs.Str.{bytes_eq}
use Rattle.pl_edit.specs.Data.{Data}
use Rattle.pl_script.specs.declared.script.Line.{Line}
use Rattle.pl_script.specs.declared.fault.ScriptFault.{ScriptFault}
use Rattle.pl_script.specs.declared.fault.ScriptFault.TheVariants.{NoHead, BadLine, BadSession, SameData, CutData, TooMany, Stuck}
use Rattle.pl_script.specs.Outcomes.{and_then, mapped}
use Rattle.pl_script.specs.Lines.{lines_of, line_text, words_of, line_words, after_word, is_passed_over}
use Rattle.pl_script.specs.Forms.{is_name, whole_of, session_of}
use Rattle.pl_script.specs.Orders.{one_of, two_of, block_named, order_of}
use Rattle.pl_script.specs.Rotation.{stuck_line}

-- what a text says: the number of workers, the blocks in order, and the command lines in order
pub record Script : Type 0 where
  pub workers : ℕ
  pub blocks : List Data
  pub lines : List Line

-- a fault at a line, counted from 1
pub record Breach : Type 0 where
  pub line : ℕ
  pub fault : ScriptFault

abbrev pub breach : {X : Type 0} → ℕ → ScriptFault → Result X Breach
breach number fault = Err (record { line = number; fault = fault })

-- at the line of this number
abbrev pub at : {X : Type 0} → ℕ → Result X ScriptFault → Result X Breach
at number (Ok x) = Ok x
at number (Err fault) = breach number fault

-- the 10,001st command is one too many
abbrev pub counted : ℕ → Line → Result Line ScriptFault
counted before line = if nat_lt before 10000 then Ok line else Err TooMany

-- the command line of a number, after so many others
abbrev pub command_in : List Data → ℕ → ℕ → List (List ℕ) → List ℕ → Result Line ScriptFault
command_in blocks before number [] text = Err BadSession
command_in blocks before number (word ∷ words) text =
    option_map_or (λ s. and_then (order_of blocks words (after_word text)) (λ o. counted before (record { number = number; session = s; command = o }))) (session_of word) (Err BadSession)

abbrev pub command_of : List Data → ℕ → ℕ → List ℕ → Result Line ScriptFault
command_of blocks before number text = command_in blocks before number (words_of text) text

-- the command lines from the line of a number on, after so many others
abbrev pub commands_in : List Data → ℕ → ℕ → List (List ℕ) → Result (List Line) Breach
commands_in blocks before number [] = Ok []
commands_in blocks before number (line ∷ lines) =
    if is_passed_over (line_words line) then commands_in blocks before (number + 1) lines
    else and_then (at number (command_of blocks before number (line_text line))) (λ first. mapped (λ more. first ∷ more) (commands_in blocks (before + 1) (number + 1) lines))

-- `.end`, and perhaps one byte 13
abbrev pub is_block_end : List ℕ → Bool
is_block_end line = bytes_eq (line_text line) (codes ".end")

-- the lines with a line end after each
abbrev pub with_ends : List (List ℕ) → List ℕ
with_ends lines = flat_map (λ line. line ++ 10 ∷ []) lines

-- whether the words are those of a data line
abbrev pub is_data : List (List ℕ) → Bool
is_data [] = false
is_data (word ∷ words) = bytes_eq word (codes "data")

-- the name in the words of a data line
abbrev pub name_in : Option (List ℕ × List ℕ) → Result (List ℕ) ScriptFault
name_in None = Err BadLine
name_in (Some w) = if is_name w.1 then Ok w.1 else Err BadLine

abbrev pub data_name : List (List ℕ) → Result (List ℕ) ScriptFault
data_name words = name_in (two_of words)

-- the lines before the first `.end`, if one comes
abbrev pub body_of : List (List ℕ) → Option (List (List ℕ))
body_of lines = option_map (λ n. take n lines) (position is_block_end lines)

-- the block of a name whose lines come next
abbrev pub block_after : List (List ℕ) → List ℕ → Result Data ScriptFault
block_after lines name = ok_or (option_map (λ body. record { name = name; bytes = with_ends body }) (body_of lines)) CutData

-- the same after these blocks
abbrev pub named_block : List Data → List (List ℕ) → List ℕ → Result Data ScriptFault
named_block blocks lines name = if is_some (block_named blocks name) then Err SameData else block_after lines name

-- the block of a data line's words and of the lines after it
abbrev pub block_in : List Data → List (List ℕ) → List (List ℕ) → Result Data ScriptFault
block_in blocks words lines = and_then (data_name words) (named_block blocks lines)

-- blocks and then command lines, from the line of a number on, where so many lines are still those of the last block
abbrev pub body_in : ℕ → ℕ → List Data → List (List ℕ) → Result (List Data × List Line) Breach
body_in within number blocks [] = Ok (blocks, [])
body_in (suc within) number blocks (line ∷ lines) = body_in within (number + 1) blocks lines
body_in zero number blocks (line ∷ lines) =
    if is_passed_over (line_words line) then body_in 0 (number + 1) blocks lines
    else (if is_data (line_words line) then and_then (at number (block_in blocks (line_words line) lines)) (λ block. body_in (position_or_len is_block_end lines + 1) (number + 1) (blocks ++ block ∷ []) lines)
    else mapped (λ found. (blocks, found)) (commands_in blocks 0 number (line ∷ lines)))

abbrev pub with_workers : ℕ → Result (List Data × List Line) Breach → Result Script Breach
with_workers workers body = mapped (λ found. record { workers = workers; blocks = found.0; lines = found.1 }) body

-- the number in the words of a line after the word `workers`
abbrev pub workers_number : List (List ℕ) → Result (Option ℕ) ScriptFault
workers_number words = mapped (λ n. Some n) (ok_or (option_and_then (λ word. whole_of 8 word) (one_of words)) BadLine)

-- the number of workers in a line's words, or that they are those of another line
abbrev pub workers_in : List (List ℕ) → Result (Option ℕ) ScriptFault
workers_in [] = Ok None
workers_in (word ∷ words) = if bytes_eq word (codes "workers") then workers_number words else Ok None

-- behind the line of a number, which has a number of workers or is another one
abbrev pub at_workers : Option ℕ → ℕ → List ℕ → List (List ℕ) → Result Script Breach
at_workers None number line lines = with_workers 0 (body_in 0 number [] (line ∷ lines))
at_workers (Some workers) number line lines = with_workers workers (body_in 0 (number + 1) [] lines)

-- the script in the lines after the head, from the line of a number on
abbrev pub after_head : ℕ → List (List ℕ) → Result Script Breach
after_head number [] = with_workers 0 (Ok ([], []))
after_head number (line ∷ lines) =
    if is_passed_over (line_words line) then after_head (number + 1) lines
    else and_then (at number (workers_in (line_words line))) (λ found. at_workers found number line lines)

abbrev pub is_version : Option (List ℕ × List ℕ) → Bool
is_version None = false
is_version (Some w) = bytes_eq w.0 (codes "plater") && bytes_eq w.1 (codes "1")

abbrev pub is_head : List (List ℕ) → Bool
is_head words = is_version (two_of words)

-- the script in all lines, before it is looked whether its sessions wait for one another
abbrev pub beginning_in : List (List ℕ) → Result Script Breach
beginning_in [] = breach 1 NoHead
beginning_in (head ∷ lines) = if is_head (line_words head) then after_head 2 lines else breach 1 NoHead

abbrev pub unless_at : Option ℕ → Script → Result Script Breach
unless_at None script = Ok script
unless_at (Some number) script = breach number Stuck

-- a script, unless it is stuck
abbrev pub unless_stuck : Result Script Breach → Result Script Breach
unless_stuck said = and_then said (λ script. unless_at (stuck_line script.lines) script)

abbrev pub script_in : List (List ℕ) → Result Script Breach
script_in lines = unless_stuck (beginning_in lines)

-- the script of a text, or its first breach
abbrev pub script_of : List ℕ → Result Script Breach
script_of bytes = script_in (lines_of bytes)
