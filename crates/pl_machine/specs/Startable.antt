-- Which slot is the least that may be started, and whether sessions have left.
use Rattle.std.specs.Prelude.{◌≡◌, ℕ, ◌+◌, ◌<◌, true}
use Rattle.std.specs.Int.{bit_at}
use Rattle.pl_tech.specs.Technology.{Meaning}
use Rattle.pl_machine.specs.Machine.{Machine, IsOpen, CanStart, has_left}

module _ {P E R O : Type 0} (m : Meaning P E R O) where
  -- the slot may be started, and none below it may
  pub record IsLeast (st : Machine P) (slot : ℕ) : Type 0 where
    pub can : CanStart m st slot
    pub least : (k : ℕ) → k < slot → ¬ CanStart m st k

  abbrev pub HasNone : Machine P → Type 0
  HasNone st = (k : ℕ) → ¬ CanStart m st k

  -- the slot is Invalid and ready, and none below it is
  pub record IsLeastOpen (st : Machine P) (slot : ℕ) : Type 0 where
    pub is_open : IsOpen m st slot
    pub least : (k : ℕ) → k < slot → ¬ IsOpen m st k

  abbrev pub HasNoneOpen : Machine P → Type 0
  HasNoneOpen st = (k : ℕ) → ¬ IsOpen m st k

-- each session i for which bit i - 1 stands has left
abbrev pub AllLeft : {P : Type 0} → Machine P → ℕ → Type 0
AllLeft st sessions = (i : ℕ) → i < 32 → bit_at sessions i ≡ 1 → has_left st (i + 1) ≡ true
