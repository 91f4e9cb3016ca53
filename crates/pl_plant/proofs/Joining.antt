-- A pass that was joined.
use Rattle.std.proofs.Common.{◌≡◌, ℕ, ◌≤◌, List, [], ◌∷◌, ◌++◌, arith, refl, sym, subst, ◌∙◌}
use Rattle.std.specs.Prelude.{Any}
use Rattle.pl_turn.specs.declared.view.Joined.{Joined}

-- where the pass of number 2 was the only one, it has each number that was given
pub one_joined : {E : Type 0} (both none left : List (Joined E)) (a : Joined E) → none ≡ [] → both ≡ none ++ a ∷ left → a.number ≡ 2 → (n : ℕ) → 2 ≤ n → n ≤ 2 → Any (λ j. j.number ≡ n) both
one_joined {E} both none left a e f is_two n low high =
    let all : both ≡ a ∷ left = cc in
    let two : 2 ≡ n = omega arith in
    subst (λ (l : List (Joined E)). Any (λ j. j.number ≡ n) l) (sym all) (0, a, omega arith, refl, is_two ∙ two)
