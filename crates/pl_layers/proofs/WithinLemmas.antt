-- The size of a product.
use Rattle.std.proofs.Common.{◌≡◌, ℤ, ℕ, pos, negsuc, neg_ℤ, ◌*ℤ◌, ◌+ℤ◌, ◌-ℤ◌, ◌+◌, ◌≤◌, ◌<◌, ◌*◌, ◌^◌, arith, ap, sym, ◌∙◌, subst, lit<, lit≤, FitsSigned, unsigned_abs}
use Rattle.std.proofs.lemmas.Int.{ints, unsigned_abs-mul, fits_signed_from_abs}
use Rattle.std.specs.Int.{w64, w128}
use Rattle.std.proofs.lemmas.Nat.{mul-le}
use Rattle.pl_units.specs.Within.{Within}

pub abs_from_Within : (n : ℕ) (z : ℤ) → Within n z → unsigned_abs z ≤ n
abs_from_Within n (pos k) w = omega (arith, ints, w.high)
abs_from_Within n (negsuc k) w = omega (arith, ints, w.low)

pub Within-from_abs : (n : ℕ) (z : ℤ) → unsigned_abs z ≤ n → Within n z
Within-from_abs n (pos k) h = record { low = omega (arith, ints); high = omega (arith, ints) }
Within-from_abs n (negsuc k) h = record { low = omega (arith, ints); high = omega (arith, ints) }

pub Within-mul : (m n : ℕ) (a b : ℤ) → Within m a → Within n b → Within (m * n) (a *ℤ b)
Within-mul m n a b wa wb =
    Within-from_abs (m * n) (a *ℤ b) (omega (arith, unsigned_abs-mul a b, mul-le (unsigned_abs a) (unsigned_abs b) m n (abs_from_Within m a wa) (abs_from_Within n b wb)))

pub Within-le : (m n : ℕ) (z : ℤ) → m ≤ n → Within m z → Within n z
Within-le m n z h w = record { low = omega (arith, ints, h, w.low); high = omega (arith, ints, h, w.high) }

-- a number of this size is an i128
pub FitsSigned-from_Within : (n : ℕ) (z : ℤ) → n < 2 ^ 127 → Within n z → FitsSigned w128 z
FitsSigned-from_Within n z small w = fits_signed_from_abs w128 z (omega (arith, abs_from_Within n z w))

-- a number of this size is an i64
pub FitsSigned-from_Within_64 : (n : ℕ) (z : ℤ) → n < 2 ^ 63 → Within n z → FitsSigned w64 z
FitsSigned-from_Within_64 n z small w = fits_signed_from_abs w64 z (omega (arith, abs_from_Within n z w))

pub Within-sub : (m n k : ℕ) (a b : ℤ) → m + n ≤ k → Within m a → Within n b → Within k (a -ℤ b)
Within-sub m n k a b h wa wb = record { low = omega (arith, ints, wa.low, wb.high); high = omega (arith, ints, wa.high, wb.low) }

pub Within-add : (m n k : ℕ) (a b : ℤ) → m + n ≤ k → Within m a → Within n b → Within k (a +ℤ b)
Within-add m n k a b h wa wb = record { low = omega (arith, ints, wa.low, wb.low); high = omega (arith, ints, wa.high, wb.high) }

-- how the code takes the opposite
pub zero_sub : (z : ℤ) → pos 0 +ℤ neg_ℤ z ≡ neg_ℤ z
zero_sub z = omega (arith, ints)

pub Within-neg : (n : ℕ) (z : ℤ) → Within n z → Within n (neg_ℤ z)
Within-neg n z w = record { low = omega (arith, ints, w.high); high = omega (arith, ints, w.low) }

-- numbers of 64 bits and their product, in 128
pub record IsWideProduct (a b x y : ℤ) : Type 0 where
  pub first : FitsSigned w128 x
  pub second : FitsSigned w128 y
  pub fits : FitsSigned w128 (x *ℤ y)
  pub small : Within (2 ^ 94) (x *ℤ y)
  pub value : x *ℤ y ≡ a *ℤ b

pub wide_product : (a b x y : ℤ) → Within 2002000000 a → Within 8016008000000000000 b → x ≡ a → y ≡ b → IsWideProduct a b x y
wide_product a b x y wa wb ex ey =
    let wx : Within 2002000000 x = subst (λ (z : ℤ). Within 2002000000 z) (sym ex) wa in
    let wy : Within 8016008000000000000 y = subst (λ (z : ℤ). Within 8016008000000000000 z) (sym ey) wb in
    let small : Within (2 ^ 94) (x *ℤ y) = Within-le (2002000000 * 8016008000000000000) (2 ^ 94) (x *ℤ y) (lit≤ tt) (Within-mul 2002000000 8016008000000000000 x y wx wy) in
    record {
      first = FitsSigned-from_Within 2002000000 x (lit< tt) wx;
      second = FitsSigned-from_Within 8016008000000000000 y (lit< tt) wy;
      fits = FitsSigned-from_Within (2 ^ 94) (x *ℤ y) (lit< tt) small;
      small = small;
      value = ap (λ (z : ℤ). z *ℤ y) ex ∙ ap (λ (z : ℤ). a *ℤ z) ey;
    }
