-- What the bits of a set of steps say.
use Rattle.std.proofs.Common.{◌≡◌, ℕ, ◌*◌, ◌^◌, ◌%◌, ◌<◌, ◌==◌, ◌||◌, ◌≤◌, false, ap, arith, inl, inr}
use Rattle.std.specs.Int.{w16}
use Rattle.std.specs.Int.RustNames.{bit_or}
use Rattle.std.proofs.Math.Nat.{mod-eq_of_lt}
use Rattle.std.proofs.lemmas.Bool.{cases_eq}
use Rattle.std.proofs.lemmas.Bool.Decides.{nat_tests}
use Rattle.std.proofs.lemmas.Nat.{pow_below}
use Rattle.std.proofs.lemmas.Nat.Bits.{bit_at_set_same, bit_at_set_other, bit_at_above}
use Rattle.pl_keys.specs.Steps.{has}

pub one_below : (n : ℕ) → n < 10 → 1 * 2 ^ n % 65536 < 1024
one_below n p =
    let low : 2 ^ n < 2 ^ 10 = pow_below n 10 p in
    let fits : 2 ^ n < 65536 = omega arith in
    omega (arith, mod-eq_of_lt fits)

pub has-with : (mask n step : ℕ) → n < 10 → has (bit_or mask (1 * 2 ^ n % 65536)) step ≡ ((n == step) || has mask step)
has-with mask n step p =
    elim (cases_eq step n) [
      | inl same ↦ grind (arith, nat_tests, bit_at_set_same w16 mask n (omega arith))
      | inr other ↦ grind (arith, nat_tests, bit_at_set_other w16 mask n (omega arith) step other)
    ]

-- no step has a number from 10 on
pub has-above : (mask step : ℕ) → mask < 1024 → 10 ≤ step → has mask step ≡ false
has-above mask step low far = ap (λ bit. bit == 1) (bit_at_above mask 10 step low far)
