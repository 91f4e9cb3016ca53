-- What stands in an order of tools.
use Rattle.std.proofs.Common.{◌≡◌, ℕ, zero, suc, ◌+◌, ◌<◌, ◌≤◌, ◌==◌, ◌&&◌, Bool, true, false, not, cond, List, [], ◌∷◌, ◌++◌, filter, refl, sym, ap, ◌∙◌, arith}
use Rattle.std.specs.List.{All, range_with_len}
use Rattle.std.proofs.lemmas.Bool.Decides.{nat_tests}
use Rattle.std.proofs.lemmas.List.{map-id}
use Rattle.std.proofs.lemmas.List.Elements.{All-append, All-filter}
use Rattle.std.proofs.lemmas.List.FromFn.{length-range_with_len, get_or-range_with_len, filter_of_map_range_with_len_more}
use Rattle.pl_tower.specs.Tools.{has, IsToolSet, members, others, order_of}

chosen : (p : ℕ → Bool) (x : ℕ) (xs ys : List ℕ) (b c : Bool) → p x ≡ b → filter p xs ≡ ys → filter p (cond c (x ∷ xs) xs) ≡ cond (b && c) (x ∷ ys) ys
chosen p x xs ys true true e same = rw e (ap (λ zs. x ∷ zs) same)
chosen p x xs ys false true e same = rw e same
chosen p x xs ys true false e same = same
chosen p x xs ys false false e same = same

-- two tests are one
pub filter-filter : (p q : ℕ → Bool) (xs : List ℕ) → filter p (filter q xs) ≡ filter (λ x. p x && q x) xs
filter-filter p q [] = refl
filter-filter p q (x ∷ xs) = chosen p x (filter q xs) (filter (λ y. p y && q y) xs) (p x) (q x) refl (filter-filter p q xs)

-- ---- the current tool

none_at : (set tool : ℕ) → 4 ≤ tool → filter (λ t. (t == tool) && has set t) (range_with_len 0 4) ≡ []
none_at set tool far =
    let zeroth : (0 == tool) ≡ false = grind (arith, nat_tests) in
    let first : (1 == tool) ≡ false = grind (arith, nat_tests) in
    let second : (2 == tool) ≡ false = grind (arith, nat_tests) in
    let third : (3 == tool) ≡ false = grind (arith, nat_tests) in
    rw (zeroth, first, second, third) refl

-- the tool alone, where the set has it
pub members_at : (set tool : ℕ) → IsToolSet set → filter (λ t. t == tool) (members set) ≡ cond (has set tool) (tool ∷ []) []
unfolding members
members_at set zero low = filter-filter (λ t. t == 0) (has set) (range_with_len 0 4)
members_at set (suc zero) low = filter-filter (λ t. t == 1) (has set) (range_with_len 0 4)
members_at set (suc (suc zero)) low = filter-filter (λ t. t == 2) (has set) (range_with_len 0 4)
members_at set (suc (suc (suc zero))) low = filter-filter (λ t. t == 3) (has set) (range_with_len 0 4)
members_at set (suc (suc (suc (suc tool)))) low =
    let far : 4 ≤ suc (suc (suc (suc tool))) = omega arith in
    filter-filter (λ t. t == suc (suc (suc (suc tool)))) (has set) (range_with_len 0 4)
    ∙ none_at set (suc (suc (suc (suc tool)))) far
    ∙ ap (λ b. cond b (suc (suc (suc (suc tool))) ∷ []) []) (sym (low (suc (suc (suc (suc tool)))) far))

-- ---- the others

-- the used tools below a number but the current one
pub others_below : ℕ → ℕ → ℕ → List ℕ
others_below current set tool = others current (filter (has set) (range_with_len 0 tool))

pub others_none : (current set : ℕ) → others_below current set 0 ≡ []
unfolding others_below
others_none current set = refl

one_more : (p : ℕ → Bool) (n : ℕ) → filter p (range_with_len 0 (n + 1)) ≡ filter p (range_with_len 0 n) ++ cond (p n) (n ∷ []) []
one_more p n =
    sym (ap (filter p) (map-id (range_with_len 0 (n + 1))))
    ∙ filter_of_map_range_with_len_more p (λ x. x) 0 n n (omega arith)
    ∙ ap (λ xs. filter p xs ++ cond (p n) (n ∷ []) []) (map-id (range_with_len 0 n))

pub others_more : (current set tool : ℕ) (other : Bool) → other ≡ (not (tool == current) && has set tool) → others_below current set (tool + 1) ≡ others_below current set tool ++ cond other (tool ∷ []) []
unfolding others_below
others_more current set tool other is =
    let p : ℕ → Bool = λ t. not (t == current) in
    filter-filter p (has set) (range_with_len 0 (tool + 1))
    ∙ one_more (λ t. p t && has set t) tool
    ∙ ap (λ xs. xs ++ cond (p tool && has set tool) (tool ∷ []) []) (sym (filter-filter p (has set) (range_with_len 0 tool)))
    ∙ ap (λ b. others current (filter (has set) (range_with_len 0 tool)) ++ cond b (tool ∷ []) []) (sym is)

pub others_all : (current set : ℕ) → others_below current set 4 ≡ others current (members set)
unfolding others_below members
others_all current set = refl

-- ---- each is one of the four tools

range_below : All (λ tool. tool < 4) (range_with_len 0 4)
range_below k d less =
    let within : k < 4 = omega (arith, length-range_with_len 0 4) in
    omega (arith, get_or-range_with_len 0 4 k d within)

members_below : (set : ℕ) → All (λ tool. tool < 4) (members set)
unfolding members
members_below set = All-filter (has set) (λ tool. tool < 4) (range_with_len 0 4) range_below

pub order_below : (current used : ℕ) → All (λ tool. tool < 4) (order_of current used)
order_below current used =
    All-append (λ tool. tool < 4) (filter (λ t. t == current) (members used)) (others current (members used))
    (All-filter (λ t. t == current) (λ tool. tool < 4) (members used) (members_below used))
    (All-filter (λ t. not (t == current)) (λ tool. tool < 4) (members used) (members_below used))
