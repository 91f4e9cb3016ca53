-- Numbers that digits write.
use Rattle.std.proofs.Common.{◌≡◌, ℕ, ◌+◌, ◌-◌, ◌*◌, ◌<◌, nat_le, true, None, List, [], ◌∷◌, length, drop, get_or, inl, inr, sym, ap, ◌∙◌, arith}
use Rattle.std.specs.Char.{is_ascii_digit}
use Rattle.std.proofs.lemmas.Bool.{cases_Bool, cond-true, cond-false}
use Rattle.std.proofs.lemmas.Bool.Decides.{nat_tests}
use Rattle.std.proofs.lemmas.List.{at_drop_more}
use Rattle.pl_units.specs.Numeral.{written, digits_after}
use Rattle.pl_script.specs.Forms.{up_to}

-- further digits make no number smaller
pub too_many : (most number : ℕ) (digits : List ℕ) → most < number → up_to most (digits_after number digits) ≡ None
too_many most number [] lt = cond-false (nat_le number most) _ _ (grind (arith, nat_tests))
too_many most number (b ∷ bs) lt =
    elim (cases_Bool (is_ascii_digit b)) [
      | inl digit ↦ ap (up_to most) (cond-true (is_ascii_digit b) _ _ digit) ∙ too_many most (number * 10 + (b - 48)) bs (omega arith)
      | inr other ↦ ap (up_to most) (cond-false (is_ascii_digit b) _ _ other)
    ]

pub too_many_after : (most start : ℕ) (digits : List ℕ) (i next : ℕ) → i < length digits → is_ascii_digit (get_or digits i 0) ≡ true → next ≡ start * 10 + (get_or digits i 0 - 48) → most < next
    → written digits ≡ digits_after start (drop i digits) → None ≡ up_to most (written digits)
too_many_after most start digits i next lt digit e above same =
    sym
    (ap (up_to most) (same ∙ at_drop_more (digits_after start) digits i 0 lt ∙ cond-true (is_ascii_digit (get_or digits i 0)) _ _ digit ∙ ap (λ n. digits_after n (drop (i + 1) digits)) (sym e))
    ∙ too_many most next (drop (i + 1) digits) above)
