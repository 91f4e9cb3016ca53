-- A byte more of a word.
use Rattle.std.proofs.Common.{◌≡◌, ◌==◌, ℕ, Bool, true, false, List, [], ◌∷◌, ◌++◌, refl}
use Rattle.std.proofs.lemmas.Bool.{eqb-true}
use Rattle.pl_stl.specs.Tokens.{tokens_from, is_white_space, line_end}

-- a word goes on at any byte but white space
pub dark : (line : ℕ) (word bs : List ℕ) (b : ℕ) → is_white_space b ≡ false → tokens_from line word (b ∷ bs) ≡ tokens_from line (word ++ b ∷ []) bs
dark line word bs b is = rw is refl

-- no line ends at it
pub dark_line : (b : ℕ) → is_white_space b ≡ false → line_end b ≡ 0
dark_line b is = go (b == 10) refl
  where
    go : (t : Bool) → b == 10 ≡ t → line_end b ≡ 0
    go false e = rw e refl
    go true e = let ten : b ≡ 10 = eqb-true b 10 e in let no : true ≡ false = rw ten at is in cc
