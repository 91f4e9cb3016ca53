-- Numbers that are sorted, and each kept but once, are the ascending ones.
use Rattle.std.proofs.Common.{◌≡◌, ℤ, ◌<ℤ◌, ◌+◌, ◌≤◌, Bool, true, false, ◌||◌, cond, List, [], ◌∷◌, length, map, refl, sym, ◌∙◌, ap, arith}
use Rattle.std.specs.declared.cmp.Ordering.{Ordering}
use Rattle.std.specs.declared.cmp.Ordering.TheVariants.{Less, Equal, Greater}
use Rattle.std.specs.Ordering.{int_cmp, int_eq, eq_by_cmp, is_eq, ordering_reverse, MatchOrdering}
use Rattle.std.specs.List.{AllByRecursion, list_any, dedup, dedup_from}
use Rattle.std.specs.List.Sorted.{IsPermutation, IsSorted, IsStrictlySortedBy}
use Rattle.std.specs.FinMap.Entries.{by_order}
use Rattle.std.proofs.lemmas.Cmp.{int_cmp_total, int_ranked}
use Rattle.std.specs.BTreeMap.{is_at}
use Rattle.std.proofs.lemmas.Bool.Decides.{Decides-int_eq}
use Rattle.std.proofs.lemmas.Int.{ints}
use Rattle.std.proofs.lemmas.List.Sorted.{list_any-IsPermutation}
use Rattle.std.proofs.lemmas.List.Kept.{IsStrictlySortedBy-dedup}
use Rattle.std.proofs.lemmas.Map.Lookups.{btree_set_from_contains}
use Rattle.std.proofs.lemmas.List.{length-map}
use Rattle.pl_units.specs.declared.Nm.{Nm}
use Rattle.pl_values.specs.Ascending.{put_in_order, ascending}
use Rattle.pl_prints.specs.Heights.{nm_of}
use Rattle.pl_prints.proofs.TopLemmas.{is_other, is_same}

or_swap : (a b c : Bool) → (a || (b || c)) ≡ (b || (a || c))
or_swap true true c = refl
or_swap true false c = refl
or_swap false b c = refl

or_twice : (a c : Bool) → (a || c) ≡ (a || (a || c))
or_twice true c = refl
or_twice false c = refl

-- ---- what a list has

same_number : (z y : ℤ) → int_cmp z y ≡ Equal → z ≡ y
same_number z y e = int_ranked z y Equal (sym e)

put_case : (p : ℤ → Bool) (z y : ℤ) (ys more : List ℤ) (o : Ordering) → int_cmp z y ≡ o → list_any p more ≡ (p z || list_any p ys) → list_any p (by_order o (z ∷ y ∷ ys) (y ∷ ys) (y ∷ more)) ≡ (p z || (p y || list_any p ys))
put_case p z y ys more Less e has = refl
put_case p z y ys more Equal e has = or_twice (p y) (list_any p ys) ∙ ap (λ u. p u || (p y || list_any p ys)) (sym (same_number z y e))
put_case p z y ys more Greater e has = ap (λ b. p y || b) has ∙ or_swap (p y) (p z) (list_any p ys)

any_put : (p : ℤ → Bool) (z : ℤ) (ys : List ℤ) → list_any p (put_in_order z ys) ≡ (p z || list_any p ys)
any_put p z [] = refl
any_put p z (y ∷ ys) = put_case p z y ys (put_in_order z ys) (int_cmp z y) refl (any_put p z ys)

any_ascending : (p : ℤ → Bool) (zs : List ℤ) → list_any p (ascending zs) ≡ list_any p zs
unfolding ascending
any_ascending p [] = refl
any_ascending p (z ∷ zs) = any_put p z (ascending zs) ∙ ap (λ b. p z || b) (any_ascending p zs)

dedup_case : (p : ℤ → Bool) (k x : ℤ) (xs : List ℤ) (b : Bool) → int_eq x k ≡ b → list_any p (dedup_from int_eq k xs) ≡ (p k || list_any p xs) → list_any p (dedup_from int_eq x xs) ≡ (p x || list_any p xs) → list_any p (cond b (dedup_from int_eq k xs) (k ∷ dedup_from int_eq x xs)) ≡ (p k || (p x || list_any p xs))
dedup_case p k x xs true e at_k at_x = at_k ∙ or_twice (p k) (list_any p xs) ∙ ap (λ z. p k || (p z || list_any p xs)) (sym ((Decides-int_eq x k).0 e))
dedup_case p k x xs false e at_k at_x = ap (λ b. p k || b) at_x

any_dedup_from : (p : ℤ → Bool) (k : ℤ) (xs : List ℤ) → list_any p (dedup_from int_eq k xs) ≡ (p k || list_any p xs)
any_dedup_from p k [] = refl
any_dedup_from p k (x ∷ xs) = dedup_case p k x xs (int_eq x k) refl (any_dedup_from p k xs) (any_dedup_from p x xs)

any_dedup : (p : ℤ → Bool) (xs : List ℤ) → list_any p (dedup int_eq xs) ≡ list_any p xs
any_dedup p [] = refl
any_dedup p (x ∷ xs) = any_dedup_from p x xs

-- ---- in order

each_later : (a b : ℤ) (ys : List ℤ) → int_cmp a b ≡ Less → AllByRecursion (λ y. int_cmp b y ≡ Less) ys → AllByRecursion (λ y. int_cmp a y ≡ Less) ys
each_later a b [] less all = tt
each_later a b (y ∷ ys) less all = (int_cmp_total.trans a b y less all.0, each_later a b ys less all.1)

put_later : (a z y : ℤ) (ys more : List ℤ) (o : Ordering) → int_cmp a z ≡ Less → AllByRecursion (λ u. int_cmp a u ≡ Less) (y ∷ ys) → AllByRecursion (λ u. int_cmp a u ≡ Less) more → AllByRecursion (λ u. int_cmp a u ≡ Less) (by_order o (z ∷ y ∷ ys) (y ∷ ys) (y ∷ more))
put_later a z y ys more Less less all after = (less, all)
put_later a z y ys more Equal less all after = all
put_later a z y ys more Greater less all after = (all.0, after)

each_put : (a z : ℤ) (ys : List ℤ) → int_cmp a z ≡ Less → AllByRecursion (λ y. int_cmp a y ≡ Less) ys → AllByRecursion (λ y. int_cmp a y ≡ Less) (put_in_order z ys)
each_put a z [] less all = (less, tt)
each_put a z (y ∷ ys) less all = put_later a z y ys (put_in_order z ys) (int_cmp z y) less all (each_put a z ys less all.1)

put_sorted : (z y : ℤ) (ys more : List ℤ) (o : Ordering) → int_cmp z y ≡ o → IsStrictlySortedBy int_cmp (y ∷ ys) → (int_cmp y z ≡ Less → AllByRecursion (λ u. int_cmp y u ≡ Less) more) → IsStrictlySortedBy int_cmp more → IsStrictlySortedBy int_cmp (by_order o (z ∷ y ∷ ys) (y ∷ ys) (y ∷ more))
unfolding IsStrictlySortedBy
put_sorted z y ys more Less e sorted later after = ((e, each_later z y ys e sorted.0), sorted)
put_sorted z y ys more Equal e sorted later after = sorted
put_sorted z y ys more Greater e sorted later after = (later (int_cmp_total.antisymm y z ∙ ap ordering_reverse e), after)

sorted_put : (z : ℤ) (ys : List ℤ) → IsStrictlySortedBy int_cmp ys → IsStrictlySortedBy int_cmp (put_in_order z ys)
unfolding IsStrictlySortedBy
sorted_put z [] sorted = (tt, tt)
sorted_put z (y ∷ ys) sorted = put_sorted z y ys (put_in_order z ys) (int_cmp z y) refl sorted (λ less. each_put y z ys less sorted.0) (sorted_put z ys sorted.1)

sorted_ascending : (zs : List ℤ) → IsStrictlySortedBy int_cmp (ascending zs)
unfolding ascending IsStrictlySortedBy
sorted_ascending [] = tt
sorted_ascending (z ∷ zs) = sorted_put z (ascending zs) (sorted_ascending zs)

-- ---- both

ties : (x y : ℤ) → int_eq x y ≡ eq_by_cmp int_cmp x y
ties x y = tie_case (int_cmp x y) (int_ranked x y (int_cmp x y) refl)
  where
    tie_case : (o : Ordering) → MatchOrdering o (x <ℤ y) (x ≡ y) (y <ℤ x) → int_eq x y ≡ is_eq o
    tie_case Less h = is_other x y (λ e. absurd (omega (arith, ints, h, e)))
    tie_case Equal h = is_same x y h
    tie_case Greater h = is_other x y (λ e. absurd (omega (arith, ints, h, e)))

pub put_is : (xs ys zs : List ℤ) → IsPermutation xs ys → IsSorted int_cmp ys → zs ≡ dedup int_eq ys → zs ≡ ascending xs
put_is xs ys zs moved sorted kept =
    kept
    ∙ btree_set_from_contains int_cmp_total (record { keys = dedup int_eq ys }) (record { keys = ascending xs }) (IsStrictlySortedBy-dedup int_cmp_total ties ys sorted) (sorted_ascending xs)
    (λ q. any_dedup (is_at (int_cmp q)) ys ∙ sym (list_any-IsPermutation (is_at (int_cmp q)) xs ys moved) ∙ sym (any_ascending (is_at (int_cmp q)) xs))
    same_number

-- ---- how many there are

length_put : (z : ℤ) (ys : List ℤ) → length (put_in_order z ys) ≤ length ys + 1
length_put z [] = omega arith
length_put z (y ∷ ys) =
    elim (int_cmp z y) as (λ o. length (by_order o (z ∷ y ∷ ys) (y ∷ ys) (y ∷ put_in_order z ys)) ≤ length (y ∷ ys) + 1) [ Less ↦ omega arith | Equal ↦ omega arith | Greater ↦ omega (arith, length_put z ys) ]

pub few_ascending : (zs : List ℤ) → length (ascending zs) ≤ length zs
unfolding ascending
few_ascending [] = omega arith
few_ascending (z ∷ zs) = omega (arith, length_put z (ascending zs), few_ascending zs)

pub few_lengths : (numbers ordered seen : List ℤ) (lengths : List Nm) → length numbers ≤ 1600000 → ordered ≡ ascending numbers → seen ≡ ordered → lengths ≡ map nm_of seen → length lengths ≤ 1600000
few_lengths numbers ordered seen lengths few order same is = omega (arith, few, ap length is ∙ length-map seen nm_of, ap length same, ap length order, few_ascending numbers)
