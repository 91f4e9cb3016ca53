-- What a text for slicing has, and the first breach of any other text.
use Rattle.std.specs.Prelude.{ℕ, zero, suc, ◌+◌, if◌then◌else◌, Option, Some, None, is_some, Result, Ok, Err, List, [], ◌∷◌, length, codes}
use Rattle.std.specs.List.{position_or_len}
use Rattle.std.specs.Option.{option_map_or}
use Rattle.std.specs.Str.{bytes_eq}
use Rattle.pl_script.specs.declared.fault.ScriptFault.{ScriptFault}
use Rattle.pl_script.specs.declared.fault.ScriptFault.TheVariants.{NoHead, BadLine, SameData, NoData}
use Rattle.pl_script.specs.Outcomes.{and_then, mapped}
use Rattle.pl_script.specs.Lines.{lines_of, line_words, is_passed_over}
use Rattle.pl_script.specs.Script.{Breach, breach, at, is_head, is_data, data_name, block_after, is_block_end}
use Rattle.pl_sliced.specs.declared.text.Kind.{Kind}
use Rattle.pl_sliced.specs.declared.text.Kind.TheVariants.{Settings, Mesh}
use Rattle.pl_sliced.specs.declared.text.Part.{Part}
use Rattle.pl_sliced.specs.declared.text.Found.{Found}
use Rattle.pl_sliced.specs.declared.text.SliceText.{SliceText}

-- what a block of this name is
abbrev pub kind_of : List ℕ → Option Kind
kind_of name = if bytes_eq name (codes "mesh") then Some Mesh else (if bytes_eq name (codes "settings") then Some Settings else None)

abbrev pub nothing : Found
nothing = record { settings = None; mesh = None }

abbrev pub part_of : Found → Kind → Option Part
part_of found Settings = found.settings
part_of found Mesh = found.mesh

abbrev pub with_part : Found → Kind → Part → Found
with_part found Settings part = record found { settings = Some part }
with_part found Mesh part = record found { mesh = Some part }

-- with the block of a name and a kind, whose data line has this number and whose lines come next
abbrev pub with_block : Found → ℕ → List (List ℕ) → List ℕ → Kind → Result Found ScriptFault
with_block found number lines name kind =
    if is_some (part_of found kind) then Err SameData else mapped (λ block. with_part found kind (record { line = number; block = block })) (block_after lines name)

abbrev pub with_named : Found → ℕ → List (List ℕ) → List ℕ → Result Found ScriptFault
with_named found number lines name = option_map_or (with_block found number lines name) (kind_of name) (Err BadLine)

-- with the block that the words of a line begin, by the line's number and the lines after it
abbrev pub with_line : Found → ℕ → List (List ℕ) → List (List ℕ) → Result Found ScriptFault
with_line found number words lines = if is_data words then and_then (data_name words) (with_named found number lines) else Err BadLine

-- all blocks, from the line of a number on, where so many lines are still those of the last block
abbrev pub blocks_in : ℕ → ℕ → Found → List (List ℕ) → Result Found Breach
blocks_in within number found [] = Ok found
blocks_in (suc within) number found (line ∷ lines) = blocks_in within (number + 1) found lines
blocks_in zero number found (line ∷ lines) =
    if is_passed_over (line_words line) then blocks_in 0 (number + 1) found lines
    else and_then (at number (with_line found number (line_words line) lines)) (λ more. blocks_in (position_or_len is_block_end lines + 1) (number + 1) more lines)

-- a text whose last line has this number, with a mesh or without one
abbrev pub ended : ℕ → Option Part → Option Part → Result SliceText Breach
ended last settings None = breach last NoData
ended last settings (Some mesh) = Ok (record { settings = settings; mesh = mesh })

abbrev pub slice_text_in : List (List ℕ) → Result SliceText Breach
slice_text_in [] = breach 1 NoHead
slice_text_in (head ∷ lines) =
    if is_head (line_words head) then and_then (blocks_in 0 2 nothing lines) (λ found. ended (length lines + 1) found.settings found.mesh)
    else breach 1 NoHead

-- the settings and the mesh of a text, or its first breach
abbrev pub slice_text_of : List ℕ → Result SliceText Breach
slice_text_of bytes = slice_text_in (lines_of bytes)
