-- The numbers of a list, ascending and each once.
use Rattle.std.specs.Prelude.{ℤ, ℕ, ◌<◌, ◌<ℤ◌, List, [], ◌∷◌, length, slice_index_or}
use Rattle.std.specs.Ordering.{int_cmp}
use Rattle.std.specs.FinMap.Entries.{by_order}

-- a number put before the first greater one, unless it is there
abbrev pub put_in_order : ℤ → List ℤ → List ℤ
put_in_order z [] = z ∷ []
put_in_order z (y ∷ ys) = by_order (int_cmp z y) (z ∷ y ∷ ys) (y ∷ ys) (y ∷ put_in_order z ys)

unfoldable pub ascending : List ℤ → List ℤ
ascending [] = []
ascending (z ∷ zs) = put_in_order z (ascending zs)

-- each number is below those after it
abbrev pub Ascend : List ℤ → Type 0
Ascend zs = (i j : ℕ) (d : ℤ) → i < j → j < length zs → slice_index_or zs i d <ℤ slice_index_or zs j d
