-- The lengths of plain numerals.
use Rattle.std.proofs.Common.{◌≡◌, ◌==◌, ◌+◌, ◌*◌, ◌^◌, ◌≤◌, ℕ, Bool, false, List, length, refl, ap, sym, ◌∙◌, arith, Option, Some, None, Ok, length-append}
use Rattle.std.specs.Prelude.{position}
use Rattle.pl_units.specs.declared.Nm.{Nm}
use Rattle.pl_units.specs.declared.numeral.Numeral.{Numeral}
use Rattle.pl_units.specs.declared.numeral.Exponent.{Exponent}
use Rattle.pl_units.specs.Numeral.{digits_after, is_mark, signed}
use Rattle.pl_units.specs.Lengths.{of_digits, of_point, of_mark, length_of_numeral}
use Rattle.pl_units.proofs.Powers.{ten_pos, whole}
use Rattle.pl_units.proofs.Numerals.{digits_then, digits_read, point_are, decimal_no_mark, no_place}
use Rattle.pl_units.proofs.Lengths.{near_length}

abbrev pub zeroth : Exponent
zeroth = record { below = false; size = 0 }

-- digits of a length
pub digits_length : (negative : Bool) (before after : List ℕ) (first number unit size : ℕ) → digits_after 0 before ≡ Some first → digits_after first after ≡ Some number → 1 ≤ length before + length after → length before + length after ≤ 12 → unit * 10 ^ length after ≡ 1000000 → size ≡ number * unit → size ≤ 10 ^ 9 → length_of_numeral (of_digits negative before after zeroth) ≡ Ok (record { 0 = signed negative size })
digits_length negative before after first number unit size b a some few unit_is size_is near =
    let both = length-append before after in
    let read = digits_read negative before after number zeroth (digits_then before after 0 first b ∙ a) (omega (arith, both, some)) (omega (arith, both, few)) in
    let same : number * 1000000 ≡ size * 10 ^ length after = rw size_is (ap (λ m. number * m) (sym unit_is) ∙ omega arith) in
    let one : length after + 0 ≡ length after = omega arith in
    ap length_of_numeral read
    ∙ near_length (record { negative = negative; number = number; places = length after; exponent = zeroth }) size (rw (same, one) (whole size (10 ^ length after) (ten_pos (length after)))) near

-- such digits have no mark among them
pub no_mark : (negative : Bool) (text : List ℕ) (nm : Nm) → length_of_numeral (of_point negative (position (λ b. b == 46) text) text zeroth) ≡ Ok nm → length_of_numeral (of_mark negative (position is_mark text) text) ≡ Ok nm
no_mark negative text nm e = go (of_point negative (position (λ b. b == 46) text) text zeroth) refl e
  where
    go : (o : Option Numeral) → of_point negative (position (λ b. b == 46) text) text zeroth ≡ o → length_of_numeral o ≡ Ok nm → length_of_numeral (of_mark negative (position is_mark text) text) ≡ Ok nm
    go None is k = absurd (cc k)
    go (Some n) is k =
        let h = point_are negative text zeroth n (position (λ b. b == 46) text) refl is in
        ap (λ o. length_of_numeral (of_mark negative o text)) (no_place is_mark text (decimal_no_mark h.is_decimal)) ∙ e
