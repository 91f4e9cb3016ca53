-- Lines of words.
use Rattle.std.specs.Prelude.{ℕ, List, [], ◌∷◌, ◌++◌, flat_map}

-- words with a space before each, and a line end
abbrev pub rest_of : List (List ℕ) → List ℕ
rest_of [] = 10 ∷ []
rest_of (word ∷ words) = 32 ∷ (word ++ rest_of words)

-- words with a space between two of them, and a line end
abbrev pub line_of : List (List ℕ) → List ℕ
line_of [] = 10 ∷ []
line_of (first ∷ words) = first ++ rest_of words

-- the text of lines
abbrev pub text_of : List (List (List ℕ)) → List ℕ
text_of lines = flat_map line_of lines
