-- Texts for slicing line by line, and the first breach of any other text.
use Rattle.std.specs.Prelude.{◌≡◌, ℕ, ◌+◌, true, false, Some, None, Ok, Err, List, [], ◌∷◌, ◌++◌, length, All}
use Rattle.pl_edit.specs.Data.{Data}
use Rattle.pl_script.specs.declared.fault.ScriptFault.{ScriptFault}
use Rattle.pl_script.specs.declared.fault.ScriptFault.TheVariants.{NoHead, BadLine, SameData, CutData, NoData}
use Rattle.pl_script.specs.Lines.{line_words}
use Rattle.pl_script.specs.Script.{is_head, is_data, data_name, is_block_end}
use Rattle.pl_script.specs.Grammar.{counts, IsBlock}
use Rattle.pl_sliced.specs.declared.text.Kind.{Kind}
use Rattle.pl_sliced.specs.declared.text.Part.{Part}
use Rattle.pl_sliced.specs.declared.text.Found.{Found}
use Rattle.pl_sliced.specs.declared.text.SliceText.{SliceText}
use Rattle.pl_sliced.specs.Text.{kind_of, nothing, part_of, with_part}

-- The lines begin a text for slicing: the head comes first, and then blocks and lines that are passed over, in any order. Each
-- block is a mesh or settings, and no two are the same; it has the number of its data line, counted from 1.
pub data IsBeginning : List (List ℕ) → Found → Type 0 where
  head : (line : List ℕ) → is_head (line_words line) ≡ true → IsBeginning (line ∷ []) nothing
  passed : (before : List (List ℕ)) (found : Found) (line : List ℕ) → IsBeginning before found → counts line ≡ false → IsBeginning (before ++ line ∷ []) found
  block : (before : List (List ℕ)) (found : Found) (part : List (List ℕ)) (block : Data) (kind : Kind)
      → IsBeginning before found → IsBlock part block → kind_of block.name ≡ Some kind → part_of found kind ≡ None
      → IsBeginning (before ++ part) (with_part found kind (record { line = length before + 1; block = block }))

-- the lines are a text for slicing: they have a mesh, and perhaps settings
abbrev pub IsSliceText : List (List ℕ) → SliceText → Type 0
IsSliceText lines text = IsBeginning lines (record { settings = text.settings; mesh = Some text.mesh })

-- why a line that counts may not stand behind these blocks, with those lines after it
pub data IsFault (found : Found) (line : List ℕ) (rest : List (List ℕ)) : ScriptFault → Type 0 where
  -- no block begins there
  no_block : is_data (line_words line) ≡ false → IsFault found line rest BadLine
  -- one begins whose name is missing or bad, or one with more words
  bad_name : (fault : ScriptFault) → is_data (line_words line) ≡ true → data_name (line_words line) ≡ Err fault → IsFault found line rest fault
  -- one begins that is neither a mesh nor settings
  other_name : (name : List ℕ) → is_data (line_words line) ≡ true → data_name (line_words line) ≡ Ok name → kind_of name ≡ None → IsFault found line rest BadLine
  -- there is such a block before it
  same : (name : List ℕ) (kind : Kind) (part : Part) → is_data (line_words line) ≡ true → data_name (line_words line) ≡ Ok name → kind_of name ≡ Some kind
      → part_of found kind ≡ Some part → IsFault found line rest SameData
  -- there is none, and the block does not end
  cut : (name : List ℕ) (kind : Kind) → is_data (line_words line) ≡ true → data_name (line_words line) ≡ Ok name → kind_of name ≡ Some kind
      → part_of found kind ≡ None → All (λ other. is_block_end other ≡ false) rest → IsFault found line rest CutData

-- The lines are no text for slicing, and the first breach is this fault at the line of this number, counted from 1: a line that
-- may not stand behind those before it, or else, where the mesh is missing, the last line.
pub data IsFirstBreach : List (List ℕ) → ℕ → ScriptFault → Type 0 where
  no_lines : IsFirstBreach [] 1 NoHead
  no_head : (line : List ℕ) (rest : List (List ℕ)) → is_head (line_words line) ≡ false → IsFirstBreach (line ∷ rest) 1 NoHead
  bad_line : (before : List (List ℕ)) (found : Found) (line : List ℕ) (rest : List (List ℕ)) (fault : ScriptFault)
      → IsBeginning before found → counts line ≡ true → IsFault found line rest fault → IsFirstBreach (before ++ line ∷ rest) (length before + 1) fault
  no_mesh : (lines : List (List ℕ)) (found : Found) → IsBeginning lines found → found.mesh ≡ None → IsFirstBreach lines (length lines) NoData
