-- What a move takes, reckoned in thousands.
use Rattle.std.proofs.Common.{◌≡◌, ℕ, ◌*◌, ◌/◌, ap, sym, ◌∙◌, arith}
use Rattle.std.proofs.Math.Nat.{mul-div-mul_right}

in_thousands : (len height percent : ℕ) → len * 400 * height * percent * 1000 ≡ len * 400000 * height * percent
in_thousands len height percent = grind arith

-- both sides of the division have a factor of a thousand
pub share_is : (len height percent area : ℕ) → len * 400 * height * percent / area ≡ len * 400000 * height * percent / (area * 1000)
share_is len height percent area =
    sym (ap (λ n. n / (area * 1000)) (sym (in_thousands len height percent)) ∙ mul-div-mul_right (len * 400 * height * percent) area (omega arith))
