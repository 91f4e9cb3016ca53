-- The bits of a word that is moved by one place.
use Rattle.std.proofs.Common.{◌≡◌, ◌+◌, ◌-◌, ◌*◌, ◌/◌, ◌%◌, ◌^◌, ◌<◌, ℕ, suc, ap, sym, ◌∙◌, arith, max}
use Rattle.std.specs.Int.{bit_at}
use Rattle.std.specs.Prelude.{bit_or}
use Rattle.std.proofs.lemmas.Nat.Bits.{bit_at_or, bit_at_cat_low, bit_at_cat_high, bit_at-suc, bit_at-zero, bit_at_lowest}

-- a number below 2 has one bit
pub one_bit : (t i : ℕ) → t < 2 → bit_at t (suc i) ≡ 0
one_bit t i h = let half : t / 2 ≡ 0 = omega arith in bit_at-suc t i ∙ ap (λ n. bit_at n i) half ∙ bit_at-zero i

-- a word times 2, cut at 64 bits
pub doubled_low : (word : ℕ) → bit_at (word * 2 % 2 ^ 64) 0 ≡ 0
doubled_low word = bit_at_lowest (word * 2 % 2 ^ 64) ∙ omega arith

pub doubled_high : (word i : ℕ) → suc i < 64 → bit_at (word * 2 % 2 ^ 64) (suc i) ≡ bit_at word i
doubled_high word i h =
    let cut : word * 2 % 2 ^ 64 ≡ (word % 2 ^ 63) * 2 ^ 1 + 0 = omega arith in
    let parts : (word / 2 ^ 63) * 2 ^ 63 + word % 2 ^ 63 ≡ word = omega arith in
    let e : suc i - 1 ≡ i = omega arith in
    ap (λ n. bit_at n (suc i)) cut ∙ bit_at_cat_high (word % 2 ^ 63) 1 0 (suc i) (omega arith) (omega arith) ∙ ap (λ k. bit_at (word % 2 ^ 63) k) e
    ∙ sym (bit_at_cat_low (word / 2 ^ 63) 63 (word % 2 ^ 63) i (omega arith)) ∙ ap (λ n. bit_at n i) parts

pub zero_max : (b : ℕ) → max 0 b ≡ b
zero_max b = omega arith

pub max_zero : (b : ℕ) → max b 0 ≡ b
max_zero b = omega arith

pub up_first : (before word : ℕ) → before < 2 ^ 64 → bit_at (bit_or (word * 2 % 2 ^ 64) (before / 2 ^ 63)) 0 ≡ bit_at before 63
up_first before word small = bit_at_or (word * 2 % 2 ^ 64) (before / 2 ^ 63) 0
    ∙ ap (λ a. max a (bit_at (before / 2 ^ 63) 0)) (doubled_low word) ∙ zero_max (bit_at (before / 2 ^ 63) 0) ∙ bit_at_lowest (before / 2 ^ 63)

pub up_more : (before word i : ℕ) → before < 2 ^ 64 → suc i < 64 → bit_at (bit_or (word * 2 % 2 ^ 64) (before / 2 ^ 63)) (suc i) ≡ bit_at word i
up_more before word i small h =
    bit_at_or (word * 2 % 2 ^ 64) (before / 2 ^ 63) (suc i)
    ∙ ap (λ b. max (bit_at (word * 2 % 2 ^ 64) (suc i)) b) (one_bit (before / 2 ^ 63) i (omega arith))
    ∙ max_zero (bit_at (word * 2 % 2 ^ 64) (suc i)) ∙ doubled_high word i h

-- the bits of a word that is moved down by one place
pub halved : (word i : ℕ) → bit_at (word / 2) i ≡ bit_at word (suc i)
halved word i = sym (bit_at-suc word i)

pub raised_low : (after i : ℕ) → i < 63 → bit_at (after * 2 ^ 63 % 2 ^ 64) i ≡ 0
raised_low after i h =
    let cut : after * 2 ^ 63 % 2 ^ 64 ≡ (after % 2) * 2 ^ 63 + 0 = omega arith in
    ap (λ n. bit_at n i) cut ∙ bit_at_cat_low (after % 2) 63 0 i h ∙ bit_at-zero i

pub raised_high : (after : ℕ) → bit_at (after * 2 ^ 63 % 2 ^ 64) 63 ≡ bit_at after 0
raised_high after =
    let cut : after * 2 ^ 63 % 2 ^ 64 ≡ (after % 2) * 2 ^ 63 + 0 = omega arith in
    ap (λ n. bit_at n 63) cut ∙ bit_at_cat_high (after % 2) 63 0 63 (omega arith) (omega arith) ∙ bit_at_lowest (after % 2) ∙ omega arith ∙ sym (bit_at_lowest after)
