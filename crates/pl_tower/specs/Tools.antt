-- The tools of a height, in order.
use Rattle.std.specs.Prelude.{◌≡◌, ℕ, ◌≤◌, ◌==◌, Bool, false, not, List, ◌++◌, filter}
use Rattle.std.specs.List.{range_with_len}
use Rattle.std.specs.Int.{bit_at}

-- whether the set has the tool: it is kept as a number, of which bit k says whether tool k is in the set
abbrev pub has : ℕ → ℕ → Bool
has set tool = bit_at set tool == 1

-- there are four tools: no number from 4 on is in the set
abbrev pub IsToolSet : ℕ → Type 0
IsToolSet set = (tool : ℕ) → 4 ≤ tool → has set tool ≡ false

-- the tools of a set, ascending
unfoldable pub members : ℕ → List ℕ
members set = filter (has set) (range_with_len 0 4)

-- the tools of a list but this one, in their order
abbrev pub others : ℕ → List ℕ → List ℕ
others tool tools = filter (λ t. not (t == tool)) tools

-- the current tool first where it is used, then the other used ones ascending
abbrev pub order_of : ℕ → ℕ → List ℕ
order_of current used = filter (λ t. t == current) (members used) ++ others current (members used)
