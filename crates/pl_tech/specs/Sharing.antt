-- That plates have parts alike.
use Rattle.std.specs.Prelude.{◌≡◌, ℕ, false}
use Rattle.pl_tech.specs.Slots.{has}
use Rattle.pl_tech.specs.Technology.{Meaning}

-- a plate shares each part with itself; what two plates share and what is shared onwards is shared
pub record IsSharing {P : Type 0} (shares : P → P → ℕ → Type 0) : Type 0 where
  pub itself : (a : P) (n : ℕ) → shares a a n
  pub onwards : (a b c : P) (n : ℕ) → shares a b n → shares b c n → shares a c n

-- all parts but these are alike
abbrev pub AllShare : {P : Type 0} → (P → P → ℕ → Type 0) → ℕ → P → P → Type 0
AllShare shares apart a b = (n : ℕ) → has apart n ≡ false → shares a b n

-- an edit with this reply keeps all parts but these
abbrev pub KeepsOthers : {P E R O : Type 0} → Meaning P E R O → (P → P → ℕ → Type 0) → E → R → ℕ → Type 0
KeepsOthers {P} {E} {R} {O} m shares edit reply changed = (p : P) → reply ≡ m.reply p edit → AllShare shares changed p (m.edited p edit)
