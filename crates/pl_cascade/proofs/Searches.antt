-- What a test that no number, or no option, passes says of each of them.
use Rattle.std.proofs.Common.{◌≡◌, ℕ, ◌+◌, ◌<◌, ◌≤◌, Bool, true, false, List, [], ◌∷◌, length, get_or, take, nat_lt, refl, ap, sym, subst, ◌∙◌, arith, inl, inr}
use Rattle.std.specs.Prelude.{◌==◌, ◌&&◌, ◌||◌}
use Rattle.std.specs.List.{list_any, range_with_len}
use Rattle.std.proofs.lemmas.List.{take_all}
use Rattle.std.proofs.lemmas.Bool.{both_ways, false_from_ne_true, cases_eq, cases_lt, or_cases, or_left, or_right, or_from, lt-ltb, le-ltb, eq-eqb}
use Rattle.std.proofs.lemmas.Bool.Decides.{nat_tests, same_from_decides}
use Rattle.std.proofs.lemmas.List.Folds.{Any-from_list_any, list_any_at}
use Rattle.std.proofs.lemmas.List.FromFn.{length-range_with_len, get_or-range_with_len}
use Rattle.pl_keys.specs.declared.key.Key.{Key}
use Rattle.pl_keys.specs.Keys.{keys, place}
use Rattle.pl_keys.proofs.Names.{there}
use Rattle.std.proofs.lemmas.Map.Keys.{any_passes_from_place}

number_at : (n k : ℕ) → k < n → get_or (range_with_len 0 n) k 0 ≡ k
number_at n k less = let e : 0 + k ≡ k = omega arith in get_or-range_with_len 0 n k 0 less ∙ e

none_at : {X : Type 0} (p : X → Bool) (xs : List X) (i : ℕ) (d : X) → i < length xs → list_any p xs ≡ false → p (get_or xs i d) ≡ false
none_at p xs i d less none = false_from_ne_true _ (λ h. both_ways _ none (list_any_at p xs i d less h))

pub or-false : (b : Bool) → (b || false) ≡ b
or-false true = refl
or-false false = refl

pub none_passes : {X : Type 0} (p : X → Bool) (xs : List X) → ((x : X) → p x ≡ false) → list_any p xs ≡ false
none_passes p [] none = refl
none_passes p (x ∷ xs) none = or_from _ _ (none x) (none_passes p xs none)

-- ---- the numbers below n

pub none_below : (p : ℕ → Bool) (n k : ℕ) → list_any p (range_with_len 0 n) ≡ false → k < n → p k ≡ false
none_below p n k none less = ap p (sym (number_at n k less)) ∙ none_at p (range_with_len 0 n) k 0 (omega (arith, length-range_with_len 0 n)) none

pub any_below : (p : ℕ → Bool) (n k : ℕ) → k < n → p k ≡ true → list_any p (range_with_len 0 n) ≡ true
any_below p n k less h = list_any_at p (range_with_len 0 n) k 0 (omega (arith, length-range_with_len 0 n)) (ap p (number_at n k less) ∙ h)

pub some_below : (p : ℕ → Bool) (n : ℕ) → list_any p (range_with_len 0 n) ≡ true → (k : ℕ) × (k < n) × (p k ≡ true)
some_below p n h =
    let w = Any-from_list_any p (range_with_len 0 n) h in
    let less : w.0 < n = omega (arith, w.2, length-range_with_len 0 n) in
    let same : get_or (range_with_len 0 n) w.0 w.1 ≡ 0 + w.0 = get_or-range_with_len 0 n w.0 w.1 less in
    let e : w.1 ≡ w.0 = sym w.3 ∙ same ∙ omega arith in
    (w.0, less, ap p (sym e) ∙ w.4)

pub equal_truths : (b c : Bool) → (b ≡ true → c ≡ true) → (c ≡ true → b ≡ true) → b ≡ c
equal_truths b c there back = same_from_decides b c (there, back) ((λ e. e), (λ e. e))

-- one number more
pub any_next : (p : ℕ → Bool) (n : ℕ) → list_any p (range_with_len 0 (n + 1)) ≡ (list_any p (range_with_len 0 n) || p n)
any_next p n =
    equal_truths _ _
    (λ h. let w = some_below p (n + 1) h in
    elim (cases_eq w.0 n) [
      | inl last ↦ or_right _ _ (ap p (sym last) ∙ w.2)
      | inr other ↦ or_left _ _ (any_below p n w.0 (omega (arith, w.1)) w.2)
    ])
    (λ h. elim (or_cases _ _ h) [
      | inl before ↦ let w = some_below p n before in any_below p (n + 1) w.0 (omega (arith, w.1)) w.2
      | inr last ↦ any_below p (n + 1) n (omega arith) last
    ])

-- what holds of the numbers below n + 1
pub next_number : (m : ℕ → Bool) (n k : ℕ) (b : Bool) → m n ≡ b → (nat_lt k (n + 1) && m k) ≡ (((n == k) && b) || (nat_lt k n && m k))
next_number m n k b e = elim (cases_eq k n) [
  | inl same ↦
      let wider : nat_lt k (n + 1) ≡ true = lt-ltb _ _ (omega arith) in
      let here : (n == k) ≡ true = eq-eqb _ _ (sym same) in
      let before : nat_lt k n ≡ false = le-ltb _ _ (omega arith) in
      let value : m k ≡ b = ap m same ∙ e in
      rw (wider, here, before, value) (sym (or-false b))
  | inr other ↦
      let wider : nat_lt k (n + 1) ≡ nat_lt k n = grind (arith, nat_tests) in
      let here : (n == k) ≡ false = grind (arith, nat_tests) in
      rw (wider, here) refl
]

-- the test holds of all of them where it holds of none from n on
pub below_all : (m : ℕ → Bool) (n k : ℕ) → (n ≤ k → m k ≡ false) → (nat_lt k n && m k) ≡ m k
below_all m n k far = elim (cases_lt k n) [
  | inl less ↦ ap (λ b. b && m k) (lt-ltb k n less)
  | inr high ↦ ap (λ b. b && m k) (le-ltb k n high) ∙ sym (far high)
]

-- ---- the options

pub all_keys : (p : Key → Bool) (items : List Key) (i : ℕ) → items ≡ keys → length items ≤ i → list_any p (take i keys) ≡ list_any p keys
all_keys p items i same all = ap (list_any p) (take_all i keys (subst (λ (ks : List Key). length ks ≤ i) same all))

pub none_of_keys : (p : Key → Bool) (key : Key) → list_any p keys ≡ false → p key ≡ false
none_of_keys p key none = false_from_ne_true _ (λ h. both_ways _ none (any_passes_from_place p keys (place key) key (there key) h))
