-- What the bits of a set say.
use Rattle.std.proofs.Common.{◌≡◌, ℕ, ◌*◌, ◌%◌, ◌<◌, ◌≤◌, ◌^◌, ◌==◌, ◌||◌, ap, ◌∙◌, max, bit_or, arith}
use Rattle.std.specs.Int.{bit_at}
use Rattle.std.proofs.lemmas.Nat.{pow_below}
use Rattle.std.proofs.lemmas.Nat.Bits.{bit_at_or, bit_at-pow_same, bit_at-pow_other}
use Rattle.std.proofs.Math.Nat.{mod-eq_of_lt, div-eq_of_lt}
use Rattle.std.proofs.Math.Pow.{pow_mono}
use Rattle.std.proofs.lemmas.Bool.Decides.{nat_tests}
use Rattle.pl_tower.specs.Tools.{has, IsToolSet}

-- no tool stands at 4 or above
pub is_tool_set : (set : ℕ) → set < 16 → IsToolSet set
is_tool_set set low tool far =
    let wide : 2 ^ 4 ≤ 2 ^ tool = pow_mono far in
    ap (λ q. q % 2 == 1) (div-eq_of_lt (let less : set < 2 ^ tool = omega arith in less))

max_bits : (a b : ℕ) → a < 2 → b < 2 → (max a b == 1) ≡ ((b == 1) || (a == 1))
max_bits a b p q = grind arith

has-or : (a b k : ℕ) → has (bit_or a b) k ≡ (has b k || has a k)
has-or a b k = ap (λ n. n == 1) (bit_at_or a b k) ∙ max_bits (bit_at a k) (bit_at b k) (omega arith) (omega arith)

one_is : (n : ℕ) → n < 4 → 1 * 2 ^ n % 256 ≡ 2 ^ n
one_is n p = let small : 2 ^ n < 2 ^ 8 = pow_below n 8 (omega arith) in omega (arith, mod-eq_of_lt small)

pub one_below : (n : ℕ) → n < 4 → 1 * 2 ^ n % 256 < 2 ^ 4
one_below n p = rw (one_is n p) (pow_below n 4 p)

has-pow : (n k : ℕ) → has (2 ^ n) k ≡ (k == n)
has-pow n k = grind (arith, nat_tests, bit_at-pow_same, bit_at-pow_other)

-- a tool is put into a set by its bit
pub has-with : (a n k : ℕ) → n < 4 → has (bit_or a (1 * 2 ^ n % 256)) k ≡ ((k == n) || has a k)
has-with a n k p = rw (one_is n p) (has-or a (2 ^ n) k ∙ ap (λ b. b || has a k) (has-pow n k))
