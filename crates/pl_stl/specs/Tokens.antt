-- The tokens of a text: its maximal runs of bytes that are no white space.
use Rattle.std.specs.Prelude.{◌==◌, nat_le, ◌&&◌, ◌||◌, ◌+◌, ◌-◌, ℕ, Bool, List, [], ◌∷◌, ◌++◌, length, take, sum_by, if◌then◌else◌}

-- a run of bytes that are no white space, and its line
pub record Token : Type 0 where
  pub word : List ℕ
  pub line : ℕ

abbrev pub is_white_space : ℕ → Bool
is_white_space b = (nat_le 9 b && nat_le b 13) || b == 32

-- 1 for a line end
abbrev pub line_end : ℕ → ℕ
line_end b = if b == 10 then 1 else 0

-- a word that has ended, if there is one
abbrev pub ended : ℕ → List ℕ → List Token
ended line [] = []
ended line (b ∷ bs) = record { word = b ∷ bs; line = line } ∷ []

-- the tokens of a text on from a line and the word that has begun there
abbrev pub tokens_from : ℕ → List ℕ → List ℕ → List Token
tokens_from line word [] = ended line word
tokens_from line word (b ∷ bs) = if is_white_space b then ended line word ++ tokens_from (line + line_end b) [] bs else tokens_from line (word ++ b ∷ []) bs

abbrev pub tokens : List ℕ → List Token
tokens bytes = tokens_from 1 [] bytes

-- the line of the last byte, and 1 for no byte
abbrev pub last_line : List ℕ → ℕ
last_line bytes = 1 + sum_by line_end (take (length bytes - 1) bytes)
