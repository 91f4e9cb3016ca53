-- Words of a line.
use Rattle.std.specs.Prelude.{ℕ, List, ◌∷◌, flat_map}
use Rattle.pl_units.specs.Decimal.{fixed}
use Rattle.pl_units.specs.declared.Nm.{Nm}

-- words, a space before each
abbrev pub spaced : List (List ℕ) → List ℕ
spaced words = flat_map (λ word. 32 ∷ word) words

-- a length in millimetres, with six decimals
abbrev pub mm_word : Nm → List ℕ
mm_word length = fixed length.0 6
