-- What a technology means, in plain functions of the plate. The machine's definitions take this record, and no code.
use Rattle.std.specs.Prelude.{◌≡◌, ◌≢◌, ℕ, ◌<◌, ◌≤◌, ◌==◌, ◌||◌, ◌&&◌, nat_le, Bool, true, false, List, [], length, All}
use Rattle.std.specs.Prelude.{Option}
use Rattle.pl_tech.specs.declared.problem.Problem.{Problem}

pub record Meaning (Plate Edit Reply Output : Type 0) : Type 0 where
  -- the plate at the start
  pub blank : Plate
  -- whether two plates are equal
  pub same : Plate → Plate → Bool
  -- the plate after an edit, and the edit's reply
  pub edited : Plate → Edit → Plate
  pub reply : Plate → Edit → Reply
  pub problem : Plate → Option Problem
  -- the slots that a plate has, what a slot needs, and what differs between two plates
  pub present : Plate → ℕ → Bool
  pub needs : Plate → ℕ → ℕ → Bool
  pub touched : Plate → Plate → ℕ → Bool
  -- what a slot's result is, and in how many batches it is computed
  pub value : Plate → ℕ → Output
  pub batches : Plate → ℕ → ℕ
  -- the bytes of a result: the G-code of slot 99
  pub bytes : Output → List ℕ
  -- what a slot is called in texts, empty where no plate has it
  pub name : ℕ → List ℕ

-- whether a byte is ASCII white space
abbrev pub is_blank : ℕ → Bool
is_blank c = (c == 32) || (nat_le 9 c && nat_le c 13)

-- The laws of a technology, for all plates a, b and c.
pub record IsLawful {P E R O : Type 0} (m : Meaning P E R O) : Type 0 where
  -- to be equal is an equivalence; equal plates have the same slots and the same problem, and no slot is touched between them
  pub same_itself : (a : P) → m.same a a ≡ true
  pub same_sym : (a b : P) → m.same a b ≡ true → m.same b a ≡ true
  pub same_trans : (a b c : P) → m.same a b ≡ true → m.same b c ≡ true → m.same a c ≡ true
  pub same_present : (a b : P) → m.same a b ≡ true → (s : ℕ) → m.present a s ≡ m.present b s
  pub same_problem : (a b : P) → m.same a b ≡ true → m.problem a ≡ m.problem b
  pub same_untouched : (a b : P) → m.same a b ≡ true → (s : ℕ) → m.touched a b s ≡ false
  -- slots have the numbers 0 to 99
  pub present_below : (a : P) (s : ℕ) → m.present a s ≡ true → s < 100
  -- a slot that is present in both and untouched has the same value and the same needs
  pub kept_value : (a b : P) (s : ℕ) → m.present a s ≡ true → m.present b s ≡ true → m.touched a b s ≡ false → m.value a s ≡ m.value b s
  pub kept_needs : (a b : P) (s : ℕ) → m.present a s ≡ true → m.present b s ≡ true → m.touched a b s ≡ false → (n : ℕ) → m.needs a s n ≡ m.needs b s n
  -- what needs a touched slot is touched, and so is a slot that is present in one plate alone
  pub touched_up : (a b : P) (s n : ℕ) → m.present b s ≡ true → m.present b n ≡ true → m.needs b s n ≡ true → m.touched a b n ≡ true → m.touched a b s ≡ true
  pub changed_touched : (a b : P) (s : ℕ) → m.present a s ≢ m.present b s → m.touched a b s ≡ true
  -- the needs of a present slot are present and have smaller numbers
  pub needs_present : (a : P) (s n : ℕ) → m.present a s ≡ true → m.needs a s n ≡ true → m.present a n ≡ true
  pub needs_below : (a : P) (s n : ℕ) → m.present a s ≡ true → m.needs a s n ≡ true → n < s
  -- slot 99 is present, needs all other present slots, and is the only one whose result has bytes
  pub last_present : (a : P) → m.present a 99 ≡ true
  pub last_needs : (a : P) (s : ℕ) → m.present a s ≡ true → s < 99 → m.needs a 99 s ≡ true
  pub last_bytes : (a : P) (s : ℕ) → m.present a s ≡ true → s < 99 → m.bytes (m.value a s) ≡ []
  -- names have at most 16 bytes and no blanks; a slot that some plate has is named, and no two slots alike
  pub name_short : (s : ℕ) → length (m.name s) ≤ 16
  pub name_solid : (s : ℕ) → All (λ c. is_blank c ≡ false) (m.name s)
  pub name_present : (a : P) (s : ℕ) → m.present a s ≡ true → m.name s ≢ []
  pub name_apart : (s t : ℕ) → m.name s ≢ [] → m.name s ≡ m.name t → s ≡ t
