-- The script of a demo.
use Rattle.std.specs.Prelude.{ℕ, ◌-◌, ◌==◌, if◌then◌else◌, List, [], ◌∷◌, ◌++◌, codes}
use Rattle.std.specs.Fmt.{decimal}
use Rattle.pl_demo.specs.declared.solid.Size.{Size}
use Rattle.pl_demo.specs.Lines.{line_of, text_of}
use Rattle.pl_demo.specs.Numbers.{sessions_of, calls_of, width_of, depth_of, height_of, right_of, back_of, density_of, each_of}
use Rattle.pl_demo.specs.Box.{box_text}

abbrev pub size_of : ℕ → ℕ → Size
size_of n i = record { x = width_of n i; y = depth_of n i; z = height_of n i }

-- the block of session i: a box
abbrev pub block_text : ℕ → ℕ → List ℕ
block_text n i = line_of (codes "data" ∷ (codes "b" ++ decimal i) ∷ []) ++ (box_text (size_of n i) ++ line_of (codes ".end" ∷ []))

-- session i above 1 waits for all commands of the session before it
abbrev pub wait_text : ℕ → List ℕ
wait_text i = if i == 1 then [] else line_of (decimal i ∷ codes "after" ∷ decimal (i - 1) ∷ decimal (calls_of (i - 1)) ∷ [])

abbrev pub percent_of : ℕ → List ℕ
percent_of k = decimal k ++ codes "%"

-- then it loads its box, moves it, sets how dense its inside is, applies and exports; the words of these lines, of which the first is the session's number
abbrev pub load_words : List ℕ → List (List ℕ)
load_words session = session ∷ codes "load" ∷ (codes "o" ++ session) ∷ (codes "b" ++ session) ∷ []

abbrev pub move_words : ℕ → ℕ → List (List ℕ)
move_words n i = decimal i ∷ codes "move" ∷ decimal (i - 1) ∷ codes "0" ∷ decimal (right_of i) ∷ decimal (back_of n i) ∷ []

abbrev pub set_words : List ℕ → List ℕ → List (List ℕ)
set_words session density = session ∷ codes "set" ∷ codes "fill_density" ∷ density ∷ []

abbrev pub export_lines : List ℕ → List (List (List ℕ))
export_lines session = (session ∷ codes "apply" ∷ []) ∷ (session ∷ codes "export" ∷ []) ∷ []

abbrev pub print_text : ℕ → ℕ → List ℕ
print_text n i = text_of (load_words (decimal i) ∷ move_words n i ∷ set_words (decimal i) (percent_of (density_of n i)) ∷ export_lines (decimal i))

abbrev pub session_text : ℕ → ℕ → List ℕ
session_text n i = wait_text i ++ print_text n i

-- the script: its head, the blocks, and the commands of each session
abbrev pub demo_text : ℕ → List ℕ
demo_text n =
    text_of ((codes "plater" ∷ codes "1" ∷ []) ∷ (codes "workers" ∷ codes "2" ∷ []) ∷ [])
    ++ (each_of (block_text n) (sessions_of n) ++ each_of (session_text n) (sessions_of n))
