-- Tests of numbers, and cases by them.
use Rattle.std.proofs.Common.{◌≡◌, ℕ, ◌<◌, ◌≤◌, Bool, true, false, ◌&&◌, ◌==◌, refl, arith}
use Rattle.std.specs.Prelude.{nat_lt}
use Rattle.std.proofs.lemmas.Bool.Decides.{nat_tests, Decides-eqb}
use Rattle.std.specs.Bool.{Decides}

pub and_true : (b : Bool) → (b && true) ≡ b
and_true true = refl
and_true false = refl

pub and_false : (b : Bool) → (b && false) ≡ false
and_false true = refl
and_false false = refl

pub lt_yes : (i x : ℕ) → i < x → nat_lt i x ≡ true
lt_yes i x h = grind (arith, nat_tests)

pub lt_no : (i x : ℕ) → x ≤ i → nat_lt i x ≡ false
lt_no i x h = grind (arith, nat_tests)

pub false_not_true : false ≡ true → ⊥
false_not_true e = grind arith

pub not_true : (r : Bool) → (r ≡ true → ⊥) → r ≡ false
not_true true h = absurd (h refl)
not_true false h = refl

pub by_test : {P Q : Type 0} (r : Bool) → Decides r Q → (Q → P) → ((Q → ⊥) → P) → P
by_test true d same other = same (d.0 refl)
by_test false d same other = other (λ q. false_not_true (d.1 q))

-- by whether two numbers are equal
pub by_eq : {P : Type 0} (a b : ℕ) → (a ≡ b → P) → ((a ≡ b → ⊥) → P) → P
by_eq a b same other = by_test (a == b) (Decides-eqb a b) same other

pub eq_yes : (a b : ℕ) → a ≡ b → (a == b) ≡ true
eq_yes a b e = (Decides-eqb a b).1 e

pub eq_no : (a b : ℕ) → (a ≡ b → ⊥) → (a == b) ≡ false
eq_no a b h = not_true (a == b) (λ t. h ((Decides-eqb a b).0 t))

below_or : {P : Type 0} (a b : ℕ) (r : Bool) → nat_lt a b ≡ r → (a < b → P) → (b ≤ a → P) → P
below_or a b true e low high = low (grind (arith, nat_tests))
below_or a b false e low high = high (grind (arith, nat_tests))

-- by whether one number is below another
pub by_lt : {P : Type 0} (a b : ℕ) → (a < b → P) → (b ≤ a → P) → P
by_lt a b low high = below_or a b (nat_lt a b) refl low high
