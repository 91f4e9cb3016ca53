-- The words for a lock and its passes.
use Rattle.std.specs.Prelude.{◌≡◌, ℕ, ◌≤◌, ◌+◌, List, Some, Any}
use Rattle.pl_turn.specs.declared.turned.Turned.{Ghosts}
use Rattle.pl_turn.specs.declared.view.Joined.{Joined}
use Rattle.pl_turn.specs.declared.view.View.{View}
use Rattle.pl_turn.specs.declared.lock.Pass.{Pass}
use Rattle.pl_turn.specs.declared.lock.TurnLock.{TurnLock}
use Rattle.pl_turn.specs.History.{FitsHistory}

module _ {X E H : Type 0} {g : Ghosts X E H} where
  -- all that a pass knows
  abbrev pub known : Pass X E H g → View E H
  known p = p.seat.me.0

  -- the number of the pass
  abbrev pub number : Pass X E H g → ℕ
  number p = p.seat.me.0.number

  -- the history as far as the pass has seen it
  abbrev pub seen : Pass X E H g → List E
  seen p = p.seat.me.0.seen

  -- the entries that the pass made
  abbrev pub own : Pass X E H g → List E
  own p = p.seat.me.0.own

  -- the passes that were joined into it
  abbrev pub joined : Pass X E H g → List (Joined E)
  joined p = p.seat.me.0.joined

  -- how many passes were split off it
  abbrev pub splits : Pass X E H g → ℕ
  splits p = p.seat.me.0.splits

  -- the pass is one of this lock
  abbrev pub IsOf : TurnLock X E H → Pass X E H g → Type 0
  IsOf lock p = (p.seat.table_id ≡ lock.board.shared.table_id) × (p.seat.me.0.home ≡ Some (g.home lock.board.shared.key.value))

  -- the two are of one lock
  abbrev pub AreOfOne : Pass X E H g → Pass X E H g → Type 0
  AreOfOne p q = (q.seat.table_id ≡ p.seat.table_id) × (q.seat.me.0.home ≡ p.seat.me.0.home)

  -- the pass fits the history: what it has seen is a beginning of it, and its own entries are exactly those of its number
  -- there, in order; and so for each pass that was joined into it
  abbrev pub Fits : Pass X E H g → List E → Type 0
  Fits p log = FitsHistory g.caller (known p) log

  -- the number is that of a pass that was joined into this one
  abbrev pub HasJoined : Pass X E H g → ℕ → Type 0
  HasJoined p n = Any (λ j. j.number ≡ n) (joined p)

  -- each number that the first pass gave by a split is that of a pass joined into it
  abbrev pub HasJoinedAll : Pass X E H g → Type 0
  HasJoinedAll p = (n : ℕ) → 2 ≤ n → n ≤ splits p + 1 → HasJoined p n

-- the home of the value that the lock was made with
abbrev pub home_of : {X E H : Type 0} → (X → H) → TurnLock X E H → H
home_of home lock = home lock.board.shared.key.value
