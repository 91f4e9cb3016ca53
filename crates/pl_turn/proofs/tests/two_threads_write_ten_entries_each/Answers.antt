use Rattle.std.proofs.Common.{◌≡◌, ℕ, ◌≤◌, List, [], ◌∷◌, ◌++◌, arith, refl, sym, subst, ◌∙◌}
use Rattle.std.specs.Prelude.{Any}
use mathlib.Core.Logic.{dite}
use native.Mathlib.Decide.{ℕ_discrete}
use Rattle.pl_turn.specs.declared.view.Joined.{Joined}
use Rattle.pl_turn.specs.Passes.{joined}
use Rattle.pl_turn.proofs.tests.two_threads_write_ten_entries_each.Goals as goal

-- of two passes that were joined one after the other, one has each of the two numbers
two_joined : {E : Type 0} (both one none left right : List (Joined E)) (a b : Joined E) → none ≡ [] → left ≡ [] → right ≡ [] → one ≡ none ++ a ∷ left → both ≡ one ++ b ∷ right
    → a.number ≡ 2 → b.number ≡ 3 → (n : ℕ) → 2 ≤ n → n ≤ 3 → Any (λ j. j.number ≡ n) both
two_joined {E} both one none left right a b e f g first second is_two is_three n low high =
    let all : both ≡ a ∷ b ∷ [] = cc in
    subst (λ (l : List (Joined E)). Any (λ j. j.number ≡ n) l) (sym all)
    (dite (ℕ_discrete n 2) (λ two. (0, a, omega arith, refl, is_two ∙ sym two)) (λ other. let three : 3 ≡ n = omega arith in (1, b, omega arith, refl, is_three ∙ three)))

pub close-book-requires-clause-all : goal.close-book-requires-clause-all
close-book-requires-clause-all g c n low high =
    let none : joined c.split-third.new.pass ≡ [] = c.split-third.ensures.first_joined ∙ (c.split-second.ensures.first_joined ∙ c.in_ok-lock.ensures.joined) in
    let left = c.in_ok-second.ensures.second.2 ∙ c.split-second.ensures.joined in
    let right = c.in_ok-second.ensures.third.2 ∙ c.split-third.ensures.joined in
    let given = c.join-2.ensures.splits ∙ (c.join.ensures.splits ∙ c.split-third.ensures.first_splits) in
    let before = c.split-second.ensures.first_splits in
    let start = c.in_ok-lock.ensures.splits in
    let most : n ≤ 3 = omega arith in
    two_joined _ _ _ _ _ _ _ none left right c.join.ensures.joined c.join-2.ensures.joined c.in_ok-second.ensures.second.1 c.in_ok-second.ensures.third.1 n low most
