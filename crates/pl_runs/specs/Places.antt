-- What a lock knows in the end of the passes of its threads.
use Rattle.std.specs.Prelude.{◌≡◌, ℕ, ◌+◌, ◌≤◌, List, [], ◌∷◌, Option, Some, None}
use mathlib.Core.List.{IsPrefix}
use Rattle.pl_turn.specs.declared.turned.Turned.{Ghosts}
use Rattle.pl_turn.specs.declared.lock.TurnLock.{TurnLock}
use Rattle.pl_turn.specs.declared.lock.Pass.{Pass}
use Rattle.pl_turn.specs.declared.view.Joined.{Joined}
use Rattle.pl_turn.specs.History.{made_by}
use Rattle.pl_turn.specs.Passes.{IsOf, joined, number, own, seen}

-- the number of a pass, its own entries, and what it had seen in the end
pub record Place (X : Type 0) : Type 0 where
  pub number : ℕ
  pub own : List X
  pub seen : List X

module _ {E : Type 0} where
  -- its entries are those of its number in the history, and what it had seen is a beginning of it
  abbrev pub IsPlaced : (E → ℕ) → List E → Place E → Type 0
  IsPlaced caller history p = (p.own ≡ made_by caller p.number history) × IsPrefix p.seen history

  -- the place of a joined pass
  abbrev pub place_in : Joined E → Place E
  place_in j = record { number = j.number; own = j.own; seen = j.seen }

module _ {X E H : Type 0} {g : Ghosts X E H} where
  abbrev pub place_of : Pass X E H g → Place E
  place_of p = record { number = number p; own = own p; seen = seen p }

  -- the place of a pass, where there is one
  abbrev pub place_of_some : Option (Pass X E H g) → List (Place E)
  place_of_some None = []
  place_of_some (Some p) = place_of p ∷ []

  -- a pass of this number that has done nothing
  pub record IsFresh (lock : TurnLock X E H) (n : ℕ) (p : Pass X E H g) : Type 0 where
    pub lock_is : IsOf lock p
    pub number_is : number p ≡ n
    pub seen_is : seen p ≡ []
    pub own_are : own p ≡ []
    pub joined_are : joined p ≡ []

  -- such passes, of numbers in a row
  abbrev pub AreFresh : TurnLock X E H → ℕ → List (Pass X E H g) → Type 0
  AreFresh lock n [] = Unit {0}
  AreFresh lock n (p ∷ ps) = IsFresh lock n p × AreFresh lock (n + 1) ps

  -- a pass that is not the first one, and has no joined passes
  abbrev pub IsOther : TurnLock X E H → Pass X E H g → Type 0
  IsOther lock p = IsOf lock p × (2 ≤ number p) × (joined p ≡ [])

  -- such a pass that made nothing
  abbrev pub IsIdle : TurnLock X E H → Pass X E H g → Type 0
  IsIdle lock p = IsOther lock p × (own p ≡ [])
