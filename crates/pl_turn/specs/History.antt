-- Histories: the entries of one number, how a turn lets them grow, and when what a pass knows fits one.
use Rattle.std.specs.Prelude.{◌≡◌, ◌≢◌, ℕ, ◌==◌, List, [], ◌++◌, filter, All, AllPairs}
use mathlib.Core.List.{IsPrefix}
use Rattle.pl_turn.specs.declared.view.Joined.{Joined}
use Rattle.pl_turn.specs.declared.view.View.{View}

-- no two of the passes have the same number
abbrev pub NumbersDiffer : {E : Type 0} → List (Joined E) → Type 0
NumbersDiffer js = AllPairs (λ a b. a.number ≢ b.number) js

-- what a joined pass had seen, and what the pass had seen into which it was joined, are beginnings of the history
abbrev pub HasSeen : {E : Type 0} → List E → Joined E → Type 0
HasSeen log j = IsPrefix j.seen log × IsPrefix j.found log

module _ {E : Type 0} (caller : E → ℕ) where
  -- the entries of a number, in order
  abbrev pub made_by : ℕ → List E → List E
  made_by n log = filter (λ e. caller e == n) log

  -- the history grew by entries of this number alone
  abbrev pub Grows : ℕ → List E → List E → Type 0
  Grows number found now = (more : List E) × (found ++ more ≡ now) × ((n : ℕ) → n ≢ number → made_by n more ≡ [])

  -- what is kept of a joined pass are exactly the entries of its number
  abbrev pub HasItsEntries : List E → Joined E → Type 0
  HasItsEntries log j = j.own ≡ made_by j.number log

  module _ {H : Type 0} where
    -- the own entries are exactly those of the number in the history, in order; and so are those of each pass that was joined
    abbrev pub KnowsItsEntries : View E H → List E → Type 0
    KnowsItsEntries v log = (v.own ≡ made_by v.number log) × All (HasItsEntries log) v.joined

    -- and what was seen is a beginning of the history; and so what the passes had seen that were joined
    abbrev pub FitsHistory : View E H → List E → Type 0
    FitsHistory v log = IsPrefix v.seen log × KnowsItsEntries v log × All (HasSeen log) v.joined
