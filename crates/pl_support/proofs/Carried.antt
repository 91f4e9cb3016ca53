-- The layers that overhang a cell: the rule from one layer to the one below, and the layers below.
use Rattle.std.proofs.Common.{◌≡◌, ℕ, zero, suc, ◌+◌, ◌-◌, ◌<◌, ◌≤◌, Bool, true, false, not, ◌&&◌, ◌||◌, ◌∷◌, ◌++◌, refl, sym, ◌∙◌, ap, arith}
use Rattle.std.specs.List.{range_with_len, list_any, list_all}
use Rattle.std.proofs.lemmas.List.Folds.{list_all-append}
use Rattle.pl_support.specs.Support.{is_free, overhangs}

-- some layer above k, of n layers, overhangs
abbrev pub some_above : (ℕ → Bool) → (ℕ → Bool) → ℕ → ℕ → Bool
some_above has near n k = list_any (overhangs has near k) (range_with_len (k + 1) (n - (k + 1)))

-- ---- tests

pub and_true : (b : Bool) → (b && true) ≡ b
and_true true = refl
and_true false = refl

and_regroup : (a c b : Bool) → (a && (c && b)) ≡ ((a && b) && c)
and_regroup true true true = refl
and_regroup true true false = refl
and_regroup true false true = refl
and_regroup true false false = refl
and_regroup false c b = refl

or_and : (a b c : Bool) → ((a && c) || (b && c)) ≡ ((a || b) && c)
or_and true true true = refl
or_and true true false = refl
or_and true false true = refl
or_and true false false = refl
or_and false true true = refl
or_and false true false = refl
or_and false false true = refl
or_and false false false = refl

or_swap : (a b : Bool) → (a || b) ≡ (b || a)
or_swap true true = refl
or_swap true false = refl
or_swap false true = refl
or_swap false false = refl

and_once : (h a : Bool) → (h && (a && h)) ≡ (a && h)
and_once true a = refl
and_once false true = refl
and_once false false = refl

and_kept : (a f g : Bool) → ((a && f) && (g && f)) ≡ ((a && f) && g)
and_kept true true true = refl
and_kept true true false = refl
and_kept true false g = refl
and_kept false f g = refl

-- ---- one layer more

is_free_suc : (has : ℕ → Bool) (k m : ℕ) → k < m → is_free has k m ≡ (not (has k) && is_free has (k + 1) m)
is_free_suc has k m h =
    let e : m - k ≡ suc (m - (k + 1)) = omega arith in
    ap (λ n. list_all (λ j. not (has j)) (range_with_len k n)) e

overhangs_suc : (has near : ℕ → Bool) (k m : ℕ) → k < m → overhangs has near k m ≡ (((has m && not (near (m - 1))) && is_free has (k + 1) m) && not (has k))
overhangs_suc has near k m h =
    ap (λ b. (has m && not (near (m - 1))) && b) (is_free_suc has k m h)
    ∙ and_regroup (has m && not (near (m - 1))) (not (has k)) (is_free has (k + 1) m)

overhangs_next : (has near : ℕ → Bool) (k : ℕ) → overhangs has near k (k + 1) ≡ ((has (k + 1) && not (near k)) && not (has k))
overhangs_next has near k =
    let one : k + 1 - 1 ≡ k = omega arith in
    let span : k + 1 - k ≡ 1 = omega arith in
    ap (λ i. (has (k + 1) && not (near i)) && list_all (λ j. not (has j)) (range_with_len k (k + 1 - k))) one
    ∙ ap (λ i. (has (k + 1) && not (near k)) && list_all (λ j. not (has j)) (range_with_len k i)) span
    ∙ ap (λ b. (has (k + 1) && not (near k)) && b) (and_true (not (has k)))

-- two tests that agree from a on
any_from : (f g : ℕ → Bool) (a n : ℕ) → ((m : ℕ) → a ≤ m → f m ≡ g m) → list_any f (range_with_len a n) ≡ list_any g (range_with_len a n)
any_from f g a zero h = refl
any_from f g a (suc n) h =
    ap (λ b. b || list_any f (range_with_len (a + 1) n)) (h a (omega arith))
    ∙ ap (λ b. g a || b) (any_from f g (a + 1) n (λ m low. h m (omega arith)))

any_and : (f : ℕ → Bool) (c : Bool) (a n : ℕ) → list_any (λ m. f m && c) (range_with_len a n) ≡ (list_any f (range_with_len a n) && c)
any_and f c a zero = refl
any_and f c a (suc n) =
    ap (λ b. (f a && c) || b) (any_and f c (a + 1) n)
    ∙ or_and (f a) (list_any f (range_with_len (a + 1) n)) c

-- a cell is carried to layer k where it was carried to the layer above, or that one overhangs there, and layer k lacks it
pub some_above_suc : (has near : ℕ → Bool) (n k : ℕ) → k + 1 < n → some_above has near n k ≡ ((some_above has near n (k + 1) || (has (k + 1) && not (near k))) && not (has k))
some_above_suc has near n k h =
    let e : n - (k + 1) ≡ suc (n - (k + 1 + 1)) = omega arith in
    let rest : Bool = some_above has near n (k + 1) in
    ap (λ i. list_any (overhangs has near k) (range_with_len (k + 1) i)) e
    ∙ ap (λ b. b || list_any (overhangs has near k) (range_with_len (k + 1 + 1) (n - (k + 1 + 1)))) (overhangs_next has near k)
    ∙ ap (λ b. ((has (k + 1) && not (near k)) && not (has k)) || b)
    (any_from (overhangs has near k) (λ m. overhangs has near (k + 1) m && not (has k)) (k + 1 + 1) (n - (k + 1 + 1)) (λ m low. overhangs_suc has near k m (omega arith))
    ∙ any_and (overhangs has near (k + 1)) (not (has k)) (k + 1 + 1) (n - (k + 1 + 1)))
    ∙ or_and (has (k + 1) && not (near k)) rest (not (has k))
    ∙ ap (λ b. b && not (has k)) (or_swap (has (k + 1) && not (near k)) rest)

-- nothing is carried to the top layer
pub some_above_top : (has near : ℕ → Bool) (n k : ℕ) → n ≤ k + 1 → some_above has near n k ≡ false
some_above_top has near n k h =
    let e : n - (k + 1) ≡ 0 = omega arith in
    ap (λ i. list_any (overhangs has near k) (range_with_len (k + 1) i)) e

-- a layer lacks the cells that are overhung there
pub some_above_lacks : (has near : ℕ → Bool) (n k : ℕ) → (not (has k) && some_above has near n k) ≡ some_above has near n k
some_above_lacks has near n k =
    let apart : some_above has near n k ≡ (list_any (λ m. (has m && not (near (m - 1))) && is_free has (k + 1) m) (range_with_len (k + 1) (n - (k + 1))) && not (has k)) =
    any_from (overhangs has near k) (λ m. ((has m && not (near (m - 1))) && is_free has (k + 1) m) && not (has k)) (k + 1) (n - (k + 1)) (λ m low. overhangs_suc has near k m (omega arith))
    ∙ any_and (λ m. (has m && not (near (m - 1))) && is_free has (k + 1) m) (not (has k)) (k + 1) (n - (k + 1)) in
    ap (λ b. not (has k) && b) apart
    ∙ and_once (not (has k)) (list_any (λ m. (has m && not (near (m - 1))) && is_free has (k + 1) m) (range_with_len (k + 1) (n - (k + 1))))
    ∙ sym apart

-- ---- the layers below

range_parts : (a k r : ℕ) → range_with_len a (k + r) ≡ range_with_len a k ++ range_with_len (a + k) r
range_parts a zero r = both a r
  where
    both : (a r : ℕ) → range_with_len a (0 + r) ≡ range_with_len (a + 0) r
    both a r =
        let none : 0 + r ≡ r = omega arith in
        let same : a ≡ a + 0 = omega arith in
        ap (range_with_len a) none ∙ ap (λ b. range_with_len b r) same
range_parts a (suc k) r =
    let more : suc k + r ≡ suc (k + r) = omega arith in
    let next : a + 1 + k ≡ a + suc k = omega arith in
    ap (range_with_len a) more
    ∙ ap (λ ms. a ∷ ms) (range_parts (a + 1) k r ∙ ap (λ b. range_with_len (a + 1) k ++ range_with_len b r) next)

free_parts : (has : ℕ → Bool) (k m : ℕ) → k ≤ m → is_free has 0 m ≡ (is_free has 0 k && is_free has k m)
free_parts has k m low =
    let whole : m - 0 ≡ k - 0 + (m - k) = omega arith in
    let from : 0 + (k - 0) ≡ k = omega arith in
    ap (λ n. list_all (λ j. not (has j)) (range_with_len 0 n)) whole
    ∙ ap (list_all (λ j. not (has j))) (range_parts 0 (k - 0) (m - k) ∙ ap (λ b. range_with_len 0 (k - 0) ++ range_with_len b (m - k)) from)
    ∙ list_all-append (λ j. not (has j)) (range_with_len 0 (k - 0)) (range_with_len k (m - k))

pub free_more : (has : ℕ → Bool) (k : ℕ) → is_free has 0 (k + 1) ≡ (is_free has 0 k && not (has k))
free_more has k =
    let one : k + 1 - k ≡ 1 = omega arith in
    free_parts has k (k + 1) (omega arith)
    ∙ ap (λ n. is_free has 0 k && list_all (λ j. not (has j)) (range_with_len k n)) one
    ∙ ap (λ b. is_free has 0 k && b) (and_true (not (has k)))

-- where the layers below the one that overhangs lack a cell, those below layer k do, and the other way round
pub some_above_free : (has near : ℕ → Bool) (n k : ℕ) → list_any (λ m. overhangs has near k m && is_free has 0 m) (range_with_len (k + 1) (n - (k + 1))) ≡ (some_above has near n k && is_free has 0 k)
some_above_free has near n k =
    any_from (λ m. overhangs has near k m && is_free has 0 m) (λ m. overhangs has near k m && is_free has 0 k) (k + 1) (n - (k + 1)) (λ m low.
    ap (λ b. overhangs has near k m && b) (free_parts has k m (omega arith))
    ∙ and_kept (has m && not (near (m - 1))) (is_free has k m) (is_free has 0 k))
    ∙ any_and (overhangs has near k) (is_free has 0 k) (k + 1) (n - (k + 1))

-- a further test that always passes
pub some_above_any : (has near : ℕ → Bool) (n k : ℕ) → list_any (λ m. overhangs has near k m && true) (range_with_len (k + 1) (n - (k + 1))) ≡ some_above has near n k
some_above_any has near n k = any_from (λ m. overhangs has near k m && true) (overhangs has near k) (k + 1) (n - (k + 1)) (λ m low. and_true (overhangs has near k m))
