-- A set of slots is kept as a number, of which bit k says whether slot k is in the set.
use Rattle.std.specs.Prelude.{ℕ, ◌==◌, Bool, List, filter}
use Rattle.std.specs.List.{range_with_len}
use Rattle.std.specs.Int.{bit_at}

-- whether the set has the slot
abbrev pub has : ℕ → ℕ → Bool
has set slot = bit_at set slot == 1

-- the slots of the set, in order
unfoldable pub members : ℕ → List ℕ
members set = filter (has set) (range_with_len 0 100)
