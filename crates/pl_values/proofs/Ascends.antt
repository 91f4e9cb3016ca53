-- The numbers of a list in order: they ascend, and they are those of the list.
use Rattle.std.proofs.Common.{◌≡◌, ℤ, ℕ, zero, suc, ◌<◌, ◌<ℤ◌, List, [], ◌∷◌, length, ⊎_elim, refl, sym, subst, arith}
use Rattle.std.specs.Prelude.{Contains, slice_index_or}
use Rattle.std.specs.Ordering.{int_cmp, MatchOrdering}
use Rattle.std.specs.declared.cmp.Ordering.{Ordering}
use Rattle.std.specs.declared.cmp.Ordering.TheVariants.{Less, Equal, Greater}
use Rattle.std.specs.FinMap.Entries.{by_order}
use Rattle.std.specs.Cmp.{int_ranked}
use Rattle.std.proofs.lemmas.Int.{ints}
use Rattle.pl_values.specs.Ascending.{put_in_order, ascending, Ascend}
use Rattle.pl_values.proofs.Members.{here, there, here_or_there, none_there}

abbrev Below : ℤ → List ℤ → Type 0
Below z [] = Unit {0}
Below z (y ∷ ys) = (z <ℤ y) × Below z ys

abbrev Rise : List ℤ → Type 0
Rise [] = Unit {0}
Rise (z ∷ zs) = Below z zs × Rise zs

-- ---- one more number

-- what holds of each order of a number and the first of a list
by_cases : (z y : ℤ) (P : Ordering → Type 0) → (z <ℤ y → P Less) → (z ≡ y → P Equal) → (y <ℤ z → P Greater) → P (int_cmp z y)
by_cases z y P less same greater =
    elim (int_cmp z y) as (λ o. MatchOrdering o (z <ℤ y) (z ≡ y) (y <ℤ z) → P o) [ Less ↦ less | Equal ↦ same | Greater ↦ greater ] (int_ranked z y (int_cmp z y) refl)

below_more : (x y : ℤ) (zs : List ℤ) → x <ℤ y → Below y zs → Below x zs
below_more x y [] h b = tt
below_more x y (z ∷ zs) h b = let next : y <ℤ z = b.0 in (omega (arith, ints), below_more x y zs h b.1)

below_put : (x z : ℤ) (ys : List ℤ) → x <ℤ z → Below x ys → Below x (put_in_order z ys)
below_put x z [] h b = (h, tt)
below_put x z (y ∷ ys) h b =
    by_cases z y (λ o. Below x (by_order o (z ∷ y ∷ ys) (y ∷ ys) (y ∷ put_in_order z ys))) (λ _. (h, b)) (λ _. b) (λ _. (b.0, below_put x z ys h b.1))

rise_put : (z : ℤ) (ys : List ℤ) → Rise ys → Rise (put_in_order z ys)
rise_put z [] r = (tt, tt)
rise_put z (y ∷ ys) r =
    by_cases z y (λ o. Rise (by_order o (z ∷ y ∷ ys) (y ∷ ys) (y ∷ put_in_order z ys)))
    (λ h. ((h, below_more z y ys h r.0), r)) (λ _. r) (λ h. (below_put y z ys h r.0, rise_put z ys r.1))

rise_ascending : (zs : List ℤ) → Rise (ascending zs)
unfolding ascending
rise_ascending [] = tt
rise_ascending (z ∷ zs) = rise_put z (ascending zs) (rise_ascending zs)

-- ---- by places

below_at : (z : ℤ) (ys : List ℤ) (j : ℕ) (d : ℤ) → j < length ys → Below z ys → z <ℤ slice_index_or ys j d
below_at z [] j d l b = absurd (omega arith)
below_at z (y ∷ ys) zero d l b = b.0
below_at z (y ∷ ys) (suc j) d l b = below_at z ys j d (omega arith) b.1

ascend_from_rise : (zs : List ℤ) → Rise zs → Ascend zs
ascend_from_rise [] r i j d h l = absurd (omega arith)
ascend_from_rise (z ∷ zs) r i zero d h l = absurd (omega arith)
ascend_from_rise (z ∷ zs) r zero (suc j) d h l = below_at z zs j d (omega arith) r.0
ascend_from_rise (z ∷ zs) r (suc i) (suc j) d h l = ascend_from_rise zs r.1 i j d (omega arith) (omega arith)

pub Ascend-ascending : (zs : List ℤ) → Ascend (ascending zs)
Ascend-ascending zs = ascend_from_rise (ascending zs) (rise_ascending zs)

-- ---- the same numbers

put_new : (z : ℤ) (ys : List ℤ) → Contains (put_in_order z ys) z
put_new z [] = here z []
put_new z (y ∷ ys) =
    by_cases z y (λ o. Contains (by_order o (z ∷ y ∷ ys) (y ∷ ys) (y ∷ put_in_order z ys)) z)
    (λ _. here z (y ∷ ys)) (λ e. subst (λ x. Contains (y ∷ ys) x) (sym e) (here y ys)) (λ _. there y (put_in_order z ys) z (put_new z ys))

put_kept : (z : ℤ) (ys : List ℤ) (x : ℤ) → Contains ys x → Contains (put_in_order z ys) x
put_kept z [] x c = absurd (none_there x c)
put_kept z (y ∷ ys) x c =
    by_cases z y (λ o. Contains (by_order o (z ∷ y ∷ ys) (y ∷ ys) (y ∷ put_in_order z ys)) x)
    (λ _. there z (y ∷ ys) x c) (λ _. c)
    (λ _. ⊎_elim (λ e. subst (λ w. Contains (y ∷ put_in_order z ys) w) (sym e) (here y (put_in_order z ys))) (λ r. there y (put_in_order z ys) x (put_kept z ys x r)) (here_or_there y ys x c))

put_only : (z : ℤ) (ys : List ℤ) (x : ℤ) → Contains (put_in_order z ys) x → Contains (z ∷ ys) x
put_only z [] x c = c
put_only z (y ∷ ys) x c =
    by_cases z y (λ o. Contains (by_order o (z ∷ y ∷ ys) (y ∷ ys) (y ∷ put_in_order z ys)) x → Contains (z ∷ y ∷ ys) x)
    (λ _ d. d) (λ _ d. there z (y ∷ ys) x d)
    (λ _ d. ⊎_elim
    (λ e. subst (λ w. Contains (z ∷ y ∷ ys) w) (sym e) (there z (y ∷ ys) y (here y ys)))
    (λ r. ⊎_elim (λ e. subst (λ w. Contains (z ∷ y ∷ ys) w) (sym e) (here z (y ∷ ys))) (λ q. there z (y ∷ ys) x (there y ys x q)) (here_or_there z ys x (put_only z ys x r)))
    (here_or_there y (put_in_order z ys) x d)) c

pub Contains-ascending : (zs : List ℤ) (x : ℤ) → Contains zs x → Contains (ascending zs) x
unfolding ascending
Contains-ascending [] x c = c
Contains-ascending (z ∷ zs) x c = ⊎_elim
    (λ e. subst (λ w. Contains (put_in_order z (ascending zs)) w) (sym e) (put_new z (ascending zs)))
    (λ r. put_kept z (ascending zs) x (Contains-ascending zs x r))
    (here_or_there z zs x c)

pub Contains-from_ascending : (zs : List ℤ) (x : ℤ) → Contains (ascending zs) x → Contains zs x
unfolding ascending
Contains-from_ascending [] x c = c
Contains-from_ascending (z ∷ zs) x c = ⊎_elim
    (λ e. subst (λ w. Contains (z ∷ zs) w) (sym e) (here z zs))
    (λ r. there z zs x (Contains-from_ascending zs x r))
    (here_or_there z (ascending zs) x (put_only z (ascending zs) x c))

-- ---- one list alone

above_all : (z : ℤ) (zs : List ℤ) (y : ℤ) → Below z zs → Contains zs y → z <ℤ y
above_all z zs y b c = subst (λ x. z <ℤ x) c.2 (below_at z zs c.0 y c.1 b)

rise_from_ascend : (zs : List ℤ) → Ascend zs → Rise zs
rise_from_ascend [] a = tt
rise_from_ascend (z ∷ zs) a = (below_each zs (λ j d l. a 0 (suc j) d (omega arith) (omega arith)), rise_from_ascend zs (λ i j d h l. a (suc i) (suc j) d (omega arith) (omega arith)))
  where
    below_each : (ys : List ℤ) → ((j : ℕ) (d : ℤ) → j < length ys → z <ℤ slice_index_or ys j d) → Below z ys
    below_each [] each = tt
    below_each (y ∷ ys) each = (each 0 y (omega arith), below_each ys (λ j d l. each (suc j) d (omega arith)))

-- of two lists that begin with different numbers, one has a number that the other has not
same_first : (y z : ℤ) (ys zs : List ℤ) → Below y ys → Below z zs → Contains (z ∷ zs) y → Contains (y ∷ ys) z → y ≡ z
same_first y z ys zs by bz cy cz = ⊎_elim
    (λ e. e)
    (λ c. let above : z <ℤ y = above_all z zs y bz c in
    ⊎_elim (λ e. sym e) (λ d. let below : y <ℤ z = above_all y ys z by d in absurd (omega (arith, ints))) (here_or_there y ys z cz))
    (here_or_there z zs y cy)

-- a number of the rest of one list, where the lists begin alike, is one of the rest of the other
rest_has : (z : ℤ) (ys zs : List ℤ) (x : ℤ) → Below z ys → ((w : ℤ) → Contains (z ∷ ys) w → Contains (z ∷ zs) w) → Contains ys x → Contains zs x
rest_has z ys zs x b into c =
    let above : z <ℤ x = above_all z ys x b c in
    ⊎_elim (λ e. absurd (omega (arith, ints))) (λ d. d) (here_or_there z zs x (into x (there z ys x c)))

same_rising : (ys zs : List ℤ) → Rise ys → Rise zs → ((w : ℤ) → Contains ys w → Contains zs w) → ((w : ℤ) → Contains zs w → Contains ys w) → ys ≡ zs
same_rising [] [] r s into back = refl
same_rising [] (z ∷ zs) r s into back = absurd (none_there z (back z (here z zs)))
same_rising (y ∷ ys) [] r s into back = absurd (none_there y (into y (here y ys)))
same_rising (y ∷ ys) (z ∷ zs) r s into back =
    let first : y ≡ z = same_first y z ys zs r.0 s.0 (into y (here y ys)) (back z (here z zs)) in
    let below : Below z ys = subst (λ x. Below x ys) first r.0 in
    let there' : (w : ℤ) → Contains (z ∷ ys) w → Contains (z ∷ zs) w = λ w c. into w (subst (λ x. Contains (x ∷ ys) w) (sym first) c) in
    let back' : (w : ℤ) → Contains (z ∷ zs) w → Contains (z ∷ ys) w = λ w c. subst (λ x. Contains (x ∷ ys) w) first (back w c) in
    let rest : ys ≡ zs = same_rising ys zs r.1 s.1 (λ x c. rest_has z ys zs x below there' c) (λ x c. rest_has z zs ys x s.0 back' c) in
    λ i. first i ∷ rest i

-- two ascending lists of the same numbers are one
pub same_ascending : (ys zs : List ℤ) → Ascend ys → Ascend zs → ((w : ℤ) → Contains ys w → Contains zs w) → ((w : ℤ) → Contains zs w → Contains ys w) → ys ≡ zs
same_ascending ys zs a b into back = same_rising ys zs (rise_from_ascend ys a) (rise_from_ascend zs b) into back
