-- Powers of ten, and the nearest whole number.
use Rattle.std.proofs.Common.{◌≡◌, ◌+◌, ◌-◌, ◌*◌, ◌/◌, ◌%◌, ◌^◌, ◌<◌, ◌≤◌, ℕ, refl, ap, ◌∙◌, arith}
use Rattle.std.specs.Prelude.{Option, Some, None, IfSome, IfNone}
use Rattle.std.proofs.Math.Nat.{one-le-pow, pow-le-pow_right, mul-le-mul_left, mul-le-mul_right, mul-lt-mul_of_pos_right, le_of_mul-le-mul_right, lt_of_mul-lt-mul_right}
use Rattle.std.proofs.lemmas.Nat.{pow-add}
use Rattle.pl_units.specs.Numeral.{IsRounded}
use Rattle.pl_units.specs.Lengths.{rounded}

pub ten_pos : (k : ℕ) → 0 < 10 ^ k
ten_pos k = omega (arith, one-le-pow k 10 (omega arith))

pub ten_most : (j k : ℕ) → j ≤ k → 10 ^ j ≤ 10 ^ k
ten_most j k h = pow-le-pow_right (omega arith) h

-- where the unit is above twice the value, the nearest number is 0
pub near_zero : (value one : ℕ) → 2 * value < one → IsRounded value one 0
near_zero value one h = record { above = omega arith; below = omega arith }

-- the quotient is nearest
pub near_quotient : (value one : ℕ) → 0 < one → IsRounded value one (rounded value one)
near_quotient value one h =
    let pos : 0 < 2 * one = omega arith in
    go ((2 * value + one) / (2 * one)) ((2 * value + one) % (2 * one)) (omega arith) (omega arith)
  where
    go : (q r : ℕ) → 2 * one * q + r ≡ 2 * value + one → r < 2 * one → IsRounded value one q
    go q r e small = record { above = omega arith; below = omega arith }

-- a value that is not 0, at a great power, and a great value at any power
pub far_power : (value power : ℕ) → 1 ≤ value → 10 ≤ power → 10 ^ 9 < value * 10 ^ power
far_power value power some h = omega (arith, ten_most 10 power h, mul-le-mul_left (10 ^ power) some)

pub far_digits : (value power : ℕ) → 10 ^ 9 < value → 10 ^ 9 < value * 10 ^ power
far_digits value power h = omega (arith, mul-le-mul_left value (ten_pos power))

-- two nearest numbers are one
pub at_most : (value one a b : ℕ) → 0 < one → IsRounded value one a → IsRounded value one b → a ≤ b
at_most value one a b some x y =
    let less : 2 * a * one < (2 * b + 2) * one = omega (arith, x.above, y.below) in
    let half : 2 * a < 2 * b + 2 = lt_of_mul-lt-mul_right one less in
    omega (arith, half)

pub only : (value one a b : ℕ) → 0 < one → IsRounded value one a → IsRounded value one b → a ≡ b
only value one a b some x y = omega (arith, at_most value one a b some x y, at_most value one b a some y x)

-- value and unit times one number
pub scaled : (value one k size : ℕ) → 0 < k → IsRounded value one size → IsRounded (value * k) (one * k) size
scaled value one k size some h = record { above = above; below = below }
  where
    above : 2 * size * (one * k) ≤ 2 * (value * k) + one * k
    above = let m : (2 * size * one) * k ≤ (2 * value + one) * k = mul-le-mul_right k h.above in omega (arith, m)

    below : 2 * (value * k) < (2 * size + 1) * (one * k)
    below = let m : (2 * value) * k < ((2 * size + 1) * one) * k = mul-lt-mul_of_pos_right h.below some in omega (arith, m)

pub unscaled : (value one k size : ℕ) → 0 < k → IsRounded (value * k) (one * k) size → IsRounded value one size
unscaled value one k size some h = record { above = above; below = below }
  where
    above : 2 * size * one ≤ 2 * value + one
    above = let m : (2 * size * one) * k ≤ (2 * value + one) * k = omega (arith, h.above) in le_of_mul-le-mul_right m some

    below : 2 * value < (2 * size + 1) * one
    below = let m : (2 * value) * k < ((2 * size + 1) * one) * k = omega (arith, h.below) in lt_of_mul-lt-mul_right k m

-- a whole number of units
pub whole : (size one : ℕ) → 0 < one → IsRounded (size * one) one size
whole size one some = record { above = omega arith; below = omega arith }

-- the two powers as one
pub power_less : (raise lower : ℕ) → raise ≤ lower → 10 ^ lower ≡ 10 ^ (lower - raise) * 10 ^ raise
power_less raise lower h = let e : lower ≡ (lower - raise) + raise = omega arith in ap (λ k. 10 ^ k) e ∙ pow-add 10 (lower - raise) raise

pub down : (value raise lower size : ℕ) → raise ≤ lower → IsRounded value (10 ^ (lower - raise)) size → IsRounded (value * 10 ^ raise) (10 ^ lower) size
down value raise lower size h r = rw (power_less raise lower h) (scaled value (10 ^ (lower - raise)) (10 ^ raise) size (ten_pos raise) r)

pub down_back : (value raise lower size : ℕ) → raise ≤ lower → IsRounded (value * 10 ^ raise) (10 ^ lower) size → IsRounded value (10 ^ (lower - raise)) size
down_back value raise lower size h r = unscaled value (10 ^ (lower - raise)) (10 ^ raise) size (ten_pos raise) (rw (power_less raise lower h) at r)

pub risen : (value raise lower : ℕ) → lower ≤ raise → value * 10 ^ raise ≡ (value * 10 ^ (raise - lower)) * 10 ^ lower
risen value raise lower h = let e = power_less lower raise h in rw e (omega arith)

pub up : (value raise lower size : ℕ) → lower ≤ raise → size ≡ value * 10 ^ (raise - lower) → IsRounded (value * 10 ^ raise) (10 ^ lower) size
up value raise lower size h e = rw (risen value raise lower h, e) (whole (value * 10 ^ (raise - lower)) (10 ^ lower) (ten_pos lower))

pub up_back : (value raise lower size : ℕ) → lower ≤ raise → IsRounded (value * 10 ^ raise) (10 ^ lower) size → size ≡ value * 10 ^ (raise - lower)
up_back value raise lower size h r =
    only (value * 10 ^ raise) (10 ^ lower) size (value * 10 ^ (raise - lower)) (ten_pos lower) r (up value raise lower (value * 10 ^ (raise - lower)) h refl)

-- from what is said of an answer
pub some_on : {A : Type 0} (o : Option A) (P Q : A → Type 0) → ((x : A) → P x → Q x) → IfSome o P → IfSome o Q
some_on None P Q f h = tt
some_on (Some x) P Q f h = f x h

pub none_on : {A : Type 0} (o : Option A) (P Q : Type 0) → (P → Q) → IfNone o P → IfNone o Q
none_on None P Q f h = f h
none_on (Some x) P Q f h = tt

pub ten_more : (n k : ℕ) → 10 ^ (n + (k + 1)) ≡ 10 ^ (n + k) * 10
ten_more n k = let e : n + (k + 1) ≡ (n + k) + 1 = omega arith in ap (λ j. 10 ^ j) e ∙ pow-add 10 (n + k) 1
