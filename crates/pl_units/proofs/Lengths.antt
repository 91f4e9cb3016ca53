-- The length that a text writes is that of its numeral.
use Rattle.std.proofs.Common.{◌≡◌, ◌↔◌, ◌*◌, ◌^◌, ◌<◌, ◌≤◌, ℕ, Bool, true, false, List, refl, ap, sym, ◌∙◌, arith, Option, Some, None, Result, Ok, Err, inl, inr}
use Rattle.std.specs.Prelude.{nat_le}
use Rattle.std.proofs.lemmas.Bool.{leb-true, leb-false, le-leb}
use Rattle.pl_units.specs.declared.Nm.{Nm}
use Rattle.pl_units.specs.declared.numeral.Numeral.{Numeral}
use Rattle.pl_units.specs.declared.numeral.NumberFault.{NumberFault}
use Rattle.pl_units.specs.declared.numeral.NumberFault.TheVariants.{BadNumber, TooFar}
use Rattle.pl_units.specs.Numeral.{IsSize, IsLength, IsTooFar, IsNoNumeral, raised, lowered, signed}
use Rattle.pl_units.specs.Lengths.{numeral_of, rounded, up_to_a_metre, length_of_numeral, length_of}
use Rattle.pl_units.proofs.Powers.{near_quotient, only, ten_pos}
use Rattle.pl_units.proofs.Numerals.{numeral_read, numeral_is, chosen}

abbrev size_of : Numeral → ℕ
size_of n = rounded (n.number * 10 ^ raised n) (10 ^ lowered n)

pub is_size : (n : Numeral) → IsSize n (size_of n)
is_size n = near_quotient (n.number * 10 ^ raised n) (10 ^ lowered n) (ten_pos (lowered n))

pub only_size : (n : Numeral) (size : ℕ) → IsSize n size → size_of n ≡ size
only_size n size h = only (n.number * 10 ^ raised n) (10 ^ lowered n) (size_of n) size (ten_pos (lowered n)) (is_size n) h

pub near_length : (n : Numeral) (size : ℕ) → IsSize n size → size ≤ 10 ^ 9 → length_of_numeral (Some n) ≡ Ok (record { 0 = signed n.negative size })
near_length n size h near =
    let t : nat_le size 1000000000 ≡ true = le-leb size 1000000000 (omega (arith, near)) in
    ap (λ s. up_to_a_metre n.negative s) (only_size n size h) ∙ rw t refl

pub far_length : (n : Numeral) (size : ℕ) → IsSize n size → 10 ^ 9 < size → length_of_numeral (Some n) ≡ Err TooFar
far_length n size h far = ap (λ s. up_to_a_metre n.negative s) (only_size n size h) ∙ go (nat_le size 1000000000) refl
  where
    go : (v : Bool) → nat_le size 1000000000 ≡ v → up_to_a_metre n.negative size ≡ Err TooFar
    go true t = absurd (omega (arith, far, leb-true size 1000000000 t))
    go false f = rw f refl

pub length_read : (text : List ℕ) (nm : Nm) → IsLength text nm → length_of text ≡ Ok nm
length_read text nm h =
    ap length_of_numeral (numeral_read text h.numeral h.is_numeral) ∙ near_length h.numeral h.size h.is_size h.near ∙ ap (λ (l : Nm). Ok l) (sym h.value)

pub too_far_read : (text : List ℕ) → IsTooFar text → length_of text ≡ Err TooFar
too_far_read text h = ap length_of_numeral (numeral_read text h.numeral h.is_numeral) ∙ far_length h.numeral h.size h.is_size h.far

-- what a length comes from
pub length_is : (text : List ℕ) (nm : Nm) (o : Option Numeral) → numeral_of text ≡ o → length_of_numeral o ≡ Ok nm → IsLength text nm
length_is text nm None is e = absurd (cc e)
length_is text nm (Some n) is e =
    elim (chosen (nat_le (size_of n) 1000000000) _ _ _ e) [
      | inl c ↦
          let same : nm ≡ record { 0 = signed n.negative (size_of n) } = cc in
          record { numeral = n; size = size_of n; is_numeral = numeral_is text n is; is_size = is_size n; near = leb-true (size_of n) 1000000000 c.0; value = same }
      | inr c ↦ absurd (cc c.1)
    ]

pub too_far_is : (text : List ℕ) (o : Option Numeral) → numeral_of text ≡ o → length_of_numeral o ≡ Err TooFar → IsTooFar text
too_far_is text None is e = absurd (cc e)
too_far_is text (Some n) is e =
    elim (chosen (nat_le (size_of n) 1000000000) _ _ _ e) [
      | inl c ↦ absurd (cc c.1)
      | inr c ↦ record { numeral = n; size = size_of n; is_numeral = numeral_is text n is; is_size = is_size n; far = leb-false (size_of n) 1000000000 c.0 }
    ]

pub no_numeral_is : (text : List ℕ) (o : Option Numeral) → numeral_of text ≡ o → length_of_numeral o ≡ Err BadNumber → numeral_of text ≡ None
no_numeral_is text None is e = is
no_numeral_is text (Some n) is e =
    elim (chosen (nat_le (size_of n) 1000000000) _ _ _ e) [
      | inl c ↦ absurd (cc c.1)
      | inr c ↦ absurd (cc c.1)
    ]

pub no_numeral_read : (text : List ℕ) → IsNoNumeral text → (o : Option Numeral) → numeral_of text ≡ o → length_of_numeral o ≡ Err BadNumber
no_numeral_read text h None is = refl
no_numeral_read text h (Some n) is = absurd (h n (numeral_is text n is))

pub ok_is_length : (text : List ℕ) (r : Result Nm NumberFault) (nm : Nm) → r ≡ length_of text → (r ≡ Ok nm) ↔ IsLength text nm
ok_is_length text r nm e = (λ h. length_is text nm (numeral_of text) refl (sym e ∙ h), λ h. e ∙ length_read text nm h)

pub far_is_too_far : (text : List ℕ) (r : Result Nm NumberFault) → r ≡ length_of text → (r ≡ Err TooFar) ↔ IsTooFar text
far_is_too_far text r e = (λ h. too_far_is text (numeral_of text) refl (sym e ∙ h), λ h. e ∙ too_far_read text h)

pub bad_is_none : (text : List ℕ) (r : Result Nm NumberFault) → r ≡ length_of text → (r ≡ Err BadNumber) ↔ IsNoNumeral text
bad_is_none text r e =
    (λ h n is. (let none = no_numeral_is text (numeral_of text) refl (sym e ∙ h) in let some = numeral_read text n is in cc), λ h. e ∙ no_numeral_read text h (numeral_of text) refl)

-- what a call says of a size
pub near_of : (text : List ℕ) (n : Numeral) (size : ℕ) (nm : Nm) → numeral_of text ≡ Some n → IsSize n size → size ≤ 10 ^ 9 → nm ≡ record { 0 = signed n.negative size } → Ok nm ≡ length_of text
near_of text n size nm is h near e = ap (λ (l : Nm). Ok l) e ∙ sym (near_length n size h near) ∙ sym (ap length_of_numeral is)

pub far_of : (text : List ℕ) (n : Numeral) → numeral_of text ≡ Some n → ((size : ℕ) → IsSize n size → 10 ^ 9 < size) → Err TooFar ≡ length_of text
far_of text n is far = sym (far_length n (size_of n) (is_size n) (far (size_of n) (is_size n))) ∙ sym (ap length_of_numeral is)
