-- The planes of the two passes over the layers.
use Rattle.std.proofs.Common.{◌≡◌, ℤ, ℕ, suc, pos, ◌+ℤ◌, ◌+◌, ◌-◌, ◌<◌, ◌≤◌, Bool, true, false, not, ◌&&◌, ◌||◌, List, [], ◌∷◌, ◌++◌, length, map, reverse, get_or, inl, inr, refl, sym, ◌∙◌, ap, arith}
use Rattle.std.specs.List.{range_with_len, AllPairs}
use Rattle.std.proofs.lemmas.Bool.{cases_order}
use Rattle.std.proofs.lemmas.Grind.{reverse_onto}
use Rattle.std.proofs.lemmas.List.{get_or_default, reverse-reverse}
use Rattle.std.proofs.lemmas.List.FromFn.{get_or-map-range_with_len, map-range_with_len_more}
use Rattle.pl_grid.specs.Extent.{Extent}
use Rattle.pl_grid.specs.Planes.{Cells, filled, plane_of, empty_plane, dilated, difference, union_of}
use Rattle.pl_grid.proofs.PlaneLemmas.{same_tests, filled_in}
use Rattle.pl_support.specs.Support.{slice_at, has_cell, near_cell, is_free, covered_below, is_support, support_at, support_of}
use Rattle.pl_support.proofs.Carried.{some_above, some_above_suc, some_above_top, some_above_lacks, some_above_any, some_above_free, free_more}

abbrev x_at : Extent → ℕ → ℤ
x_at b i = b.x0 +ℤ pos i

abbrev y_at : Extent → ℕ → ℤ
y_at b j = b.y0 +ℤ pos j

abbrev pub HaveEqualBoxes : List Cells → Type 0
HaveEqualBoxes slices = AllPairs (λ p q. p.bounds ≡ q.bounds) slices

equal_boxes : (slices : List Cells) → HaveEqualBoxes slices → (i j : ℕ) → i < length slices → j < length slices → (slice_at slices i).bounds ≡ (slice_at slices j).bounds
equal_boxes slices h i j hi hj =
    elim (cases_order i j) [
      | inl e ↦ ap (λ n. (slice_at slices n).bounds) e
      | inr apart ↦ elim apart [
        | inl less ↦ h i j (slice_at [] 0) less hj
        | inr more ↦ sym (h j i (slice_at [] 0) more hi)
      ]
    ]

slice_is : (slices : List Cells) (k : ℕ) (slice : Cells) → k < length slices → slice ≡ get_or slices k slice → slice ≡ slice_at slices k
slice_is slices k slice less here = here ∙ get_or_default slices k slice (slice_at [] 0) less

-- ---- the cells of one layer

and_assoc : (a b c : Bool) → (a && (b && c)) ≡ ((a && b) && c)
and_assoc true b c = refl
and_assoc false b c = refl

not_not : (a : Bool) → not (not a) ≡ a
not_not true = refl
not_not false = refl

not_and : (a b : Bool) → (not a || b) ≡ not (a && not b)
not_and true true = refl
not_and true false = refl
not_and false b = refl

support_is : (slices : List Cells) (k : ℕ) (x y : ℤ) → is_support true false slices k x y ≡ some_above (has_cell slices x y) (near_cell slices x y) (length slices) k
support_is slices k x y =
    ap (λ b. not (has_cell slices x y k) && b) (some_above_any (has_cell slices x y) (near_cell slices x y) (length slices) k)
    ∙ some_above_lacks (has_cell slices x y) (near_cell slices x y) (length slices) k

plate_is : (slices : List Cells) (k : ℕ) (x y : ℤ) → is_support true true slices k x y ≡ (is_support true false slices k x y && is_free (has_cell slices x y) 0 k)
plate_is slices k x y =
    ap (λ b. not (has_cell slices x y k) && b) (some_above_free (has_cell slices x y) (near_cell slices x y) (length slices) k)
    ∙ and_assoc (not (has_cell slices x y k)) (some_above (has_cell slices x y) (near_cell slices x y) (length slices) k) (is_free (has_cell slices x y) 0 k)
    ∙ ap (λ b. b && is_free (has_cell slices x y) 0 k) (some_above_lacks (has_cell slices x y) (near_cell slices x y) (length slices) k ∙ sym (support_is slices k x y))

-- ---- from the top down

top_is : (slices : List Cells) (k : ℕ) → length slices ≤ k + 1 → empty_plane (slice_at slices k).bounds ≡ support_at true false slices k
top_is slices k last =
    let b : Extent = (slice_at slices k).bounds in
    same_tests b (λ _ _. false) (is_support true false slices k) (λ i j hi hj.
    sym (support_is slices k (x_at b i) (y_at b j) ∙ some_above_top (has_cell slices (x_at b i) (y_at b j)) (near_cell slices (x_at b i) (y_at b j)) (length slices) k last))

next_is : (slices : List Cells) (k : ℕ) → HaveEqualBoxes slices → k + 1 < length slices → difference (union_of (support_at true false slices (k + 1)) (difference (slice_at slices (k + 1)) (dilated (slice_at slices k)))) (slice_at slices k) ≡ support_at true false slices k
next_is slices k boxes less =
    let b : Extent = (slice_at slices (k + 1)).bounds in
    let upper : Cells = slice_at slices (k + 1) in
    let lower : Cells = slice_at slices k in
    let t : ℤ → ℤ → Bool = is_support true false slices (k + 1) in
    let over : ℤ → ℤ → Bool = λ x y. filled upper x y && not (filled (dilated lower) x y) in
    same_tests b (λ x y. filled (union_of (plane_of b t) (plane_of b over)) x y && not (filled lower x y)) (is_support true false slices k) (λ i j hi hj.
    ap (λ v. v && not (filled lower (x_at b i) (y_at b j)))
    (filled_in b (λ x y. filled (plane_of b t) x y || filled (plane_of b over) x y) i j hi hj
    ∙ ap (λ v. v || filled (plane_of b over) (x_at b i) (y_at b j)) (filled_in b t i j hi hj)
    ∙ ap (λ v. t (x_at b i) (y_at b j) || v) (filled_in b over i j hi hj)
    ∙ ap (λ v. v || over (x_at b i) (y_at b j)) (support_is slices (k + 1) (x_at b i) (y_at b j)))
    ∙ sym (support_is slices k (x_at b i) (y_at b j) ∙ some_above_suc (has_cell slices (x_at b i) (y_at b j)) (near_cell slices (x_at b i) (y_at b j)) (length slices) k less))
    ∙ ap (λ e. plane_of e (is_support true false slices k)) (equal_boxes slices boxes (k + 1) k less (omega arith))

pub highest_is : (slices : List Cells) (top : Cells) (b : Extent) → 0 < length slices → top ≡ get_or slices (length slices - 1) top → b ≡ top.bounds → empty_plane b ≡ support_at true false slices (length slices - 1)
highest_is slices top b some here box = ap empty_plane (box ∙ ap (λ p. p.bounds) (slice_is slices (length slices - 1) top (omega arith) here)) ∙ top_is slices (length slices - 1) (omega arith)

pub carried_is : (slices : List Cells) (k : ℕ) (carried upper lower : Cells) → HaveEqualBoxes slices → k + 1 < length slices → carried ≡ support_at true false slices (k + 1) → upper ≡ get_or slices (k + 1) upper → lower ≡ get_or slices k lower → difference (union_of carried (difference upper (dilated lower))) lower ≡ support_at true false slices k
carried_is slices k carried upper lower boxes less is_carried is_upper is_lower =
    let high_is : upper ≡ slice_at slices (k + 1) = slice_is slices (k + 1) upper less is_upper in
    let low_is : lower ≡ slice_at slices k = slice_is slices k lower (omega arith) is_lower in
    ap (λ p. difference (union_of p (difference upper (dilated lower))) lower) is_carried
    ∙ ap (λ p. difference (union_of (support_at true false slices (k + 1)) (difference p (dilated lower))) lower) high_is
    ∙ ap (λ p. difference (union_of (support_at true false slices (k + 1)) (difference (slice_at slices (k + 1)) (dilated p))) p) low_is
    ∙ next_is slices k boxes less

pub boxes_of_support : (slices : List Cells) (k : ℕ) (carried upper : Cells) → k < length slices → carried ≡ support_at true false slices k → upper ≡ get_or slices k upper → carried.bounds ≡ upper.bounds
boxes_of_support slices k carried upper less is_carried is_upper = ap (λ p. p.bounds) is_carried ∙ sym (ap (λ p. p.bounds) (slice_is slices k upper less is_upper))

pub boxes_of_slices : (slices : List Cells) (i j : ℕ) (p q : Cells) → HaveEqualBoxes slices → i < length slices → j < length slices → p ≡ get_or slices i p → q ≡ get_or slices j q → p.bounds ≡ q.bounds
boxes_of_slices slices i j p q boxes hi hj hp hq =
    ap (λ r. r.bounds) (slice_is slices i p hi hp) ∙ equal_boxes slices boxes i j hi hj ∙ sym (ap (λ r. r.bounds) (slice_is slices j q hj hq))

-- the layers above k are found, the top one first, and the carried plane is that of layer k
pub record CarriedTo (slices : List Cells) (k : ℕ) (found : List Cells) (carried : Cells) : Type 0 where
  pub there : k < length slices
  pub here : carried ≡ support_at true false slices k
  pub above : found ≡ reverse (map (support_at true false slices) (range_with_len (k + 1) (length slices - (k + 1))))

pub carried_start : (slices : List Cells) (k : ℕ) (carried : Cells) → k + 1 ≡ length slices → carried ≡ support_at true false slices k → CarriedTo slices k [] carried
carried_start slices k carried last is =
    let none : length slices - (k + 1) ≡ 0 = omega arith in
    record {
      there = omega arith;
      here = is;
      above = ap (λ n. reverse (map (support_at true false slices) (range_with_len (k + 1) n))) (sym none);
    }

with_here : (slices : List Cells) (k : ℕ) (found : List Cells) (carried : Cells) → CarriedTo slices k found carried → found ++ carried ∷ [] ≡ reverse (map (support_at true false slices) (range_with_len k (length slices - k)))
with_here slices k found carried w =
    let one : suc (length slices - (k + 1)) ≡ length slices - k = omega (arith, w.there) in
    ap (λ p. found ++ p ∷ []) w.here
    ∙ ap (λ ps. ps ++ support_at true false slices k ∷ []) w.above
    ∙ sym (reverse_onto (map (support_at true false slices) (range_with_len (k + 1) (length slices - (k + 1)))) (support_at true false slices k) [])
    ∙ ap (λ n. reverse (map (support_at true false slices) (range_with_len k n))) one

pub carried_more : (slices : List Cells) (k : ℕ) (found more : List Cells) (carried next : Cells) → CarriedTo slices k found carried → 0 < k → next ≡ support_at true false slices (k - 1) → more ≡ found ++ carried ∷ [] → CarriedTo slices (k - 1) more next
carried_more slices k found more carried next w some is_next is_more =
    let back : k ≡ k - 1 + 1 = omega arith in
    record {
      there = omega (arith, w.there);
      here = is_next;
      above =
          is_more
          ∙ with_here slices k found carried w
          ∙ ap (λ m. reverse (map (support_at true false slices) (range_with_len m (length slices - m)))) back;
    }

pub carried_all : (slices : List Cells) (k : ℕ) (found more turned : List Cells) (carried : Cells) → CarriedTo slices k found carried → k ≡ 0 → more ≡ found ++ carried ∷ [] → turned ≡ reverse more → turned ≡ support_of true false slices
carried_all slices k found more turned carried w first is_more is_turned =
    let whole : length slices - 0 ≡ length slices = omega arith in
    is_turned
    ∙ ap reverse (is_more ∙ with_here slices k found carried w)
    ∙ reverse-reverse (map (support_at true false slices) (range_with_len k (length slices - k)))
    ∙ ap (λ m. map (support_at true false slices) (range_with_len m (length slices - m))) first
    ∙ ap (λ n. map (support_at true false slices) (range_with_len 0 n)) whole

-- ---- from the bottom up

kept_is : (slices : List Cells) (k : ℕ) → HaveEqualBoxes slices → k < length slices → difference (support_at true false slices k) (covered_below slices k) ≡ support_at true true slices k
kept_is slices k boxes less =
    let b : Extent = (slice_at slices k).bounds in
    let t : ℤ → ℤ → Bool = is_support true false slices k in
    let s : ℤ → ℤ → Bool = λ x y. not (is_free (has_cell slices x y) 0 k) in
    ap (λ e. difference (support_at true false slices k) (plane_of e s)) (equal_boxes slices boxes 0 k (omega arith) less)
    ∙ same_tests b (λ x y. filled (plane_of b t) x y && not (filled (plane_of b s) x y)) (is_support true true slices k) (λ i j hi hj.
    ap (λ v. v && not (filled (plane_of b s) (x_at b i) (y_at b j))) (filled_in b t i j hi hj)
    ∙ ap (λ v. t (x_at b i) (y_at b j) && not v) (filled_in b s i j hi hj)
    ∙ ap (λ v. t (x_at b i) (y_at b j) && v) (not_not (is_free (has_cell slices (x_at b i) (y_at b j)) 0 k))
    ∙ sym (plate_is slices k (x_at b i) (y_at b j)))

under_is : (slices : List Cells) (k : ℕ) → union_of (covered_below slices k) (slice_at slices k) ≡ covered_below slices (k + 1)
under_is slices k =
    let b : Extent = (slice_at slices 0).bounds in
    let s : ℤ → ℤ → Bool = λ x y. not (is_free (has_cell slices x y) 0 k) in
    same_tests b (λ x y. filled (plane_of b s) x y || filled (slice_at slices k) x y) (λ x y. not (is_free (has_cell slices x y) 0 (k + 1))) (λ i j hi hj.
    ap (λ v. v || filled (slice_at slices k) (x_at b i) (y_at b j)) (filled_in b s i j hi hj)
    ∙ not_and (is_free (has_cell slices (x_at b i) (y_at b j)) 0 k) (filled (slice_at slices k) (x_at b i) (y_at b j))
    ∙ ap not (sym (free_more (has_cell slices (x_at b i) (y_at b j)) k)))

pub nothing_is : (slices : List Cells) (first : Cells) (b : Extent) → 0 < length slices → first ≡ get_or slices 0 first → b ≡ first.bounds → empty_plane b ≡ covered_below slices 0
nothing_is slices first b some here box = ap empty_plane (box ∙ ap (λ p. p.bounds) (slice_is slices 0 first some here))

pub covered_is : (slices : List Cells) (k : ℕ) (covered slice : Cells) → k < length slices → covered ≡ covered_below slices k → slice ≡ get_or slices k slice → union_of covered slice ≡ covered_below slices (k + 1)
covered_is slices k covered slice less is_covered is_slice =
    ap (λ p. union_of p slice) is_covered
    ∙ ap (union_of (covered_below slices k)) (slice_is slices k slice less is_slice)
    ∙ under_is slices k

pub over_plate_is : (slices : List Cells) (k : ℕ) (cells covered : Cells) → HaveEqualBoxes slices → k < length slices → cells ≡ support_at true false slices k → covered ≡ covered_below slices k → difference cells covered ≡ support_at true true slices k
over_plate_is slices k cells covered boxes less is_cells is_covered =
    ap (λ p. difference p covered) is_cells ∙ ap (difference (support_at true false slices k)) is_covered ∙ kept_is slices k boxes less

pub boxes_of_kept : (slices : List Cells) (k : ℕ) (cells covered : Cells) → HaveEqualBoxes slices → k < length slices → cells ≡ support_at true false slices k → covered ≡ covered_below slices k → cells.bounds ≡ covered.bounds
boxes_of_kept slices k cells covered boxes less is_cells is_covered =
    ap (λ p. p.bounds) is_cells ∙ equal_boxes slices boxes k 0 less (omega arith) ∙ sym (ap (λ p. p.bounds) is_covered)

pub boxes_of_covered : (slices : List Cells) (k : ℕ) (covered slice : Cells) → HaveEqualBoxes slices → k < length slices → covered ≡ covered_below slices k → slice ≡ get_or slices k slice → covered.bounds ≡ slice.bounds
boxes_of_covered slices k covered slice boxes less is_covered is_slice =
    ap (λ p. p.bounds) is_covered ∙ equal_boxes slices boxes 0 k (omega arith) less ∙ sym (ap (λ p. p.bounds) (slice_is slices k slice less is_slice))

-- the layers below k are kept, and the other plane has the cells of their slices
pub record KeptTo (slices : List Cells) (k : ℕ) (kept : List Cells) (covered : Cells) : Type 0 where
  pub done : kept ≡ map (support_at true true slices) (range_with_len 0 k)
  pub lower : covered ≡ covered_below slices k

pub support_there : (slices cells : List Cells) (k : ℕ) (here : Cells) → cells ≡ support_of true false slices → k < length slices → here ≡ get_or cells k here → here ≡ support_at true false slices k
support_there slices cells k here all less at =
    at ∙ ap (λ ps. get_or ps k here) all ∙ get_or-map-range_with_len (support_at true false slices) 0 (length slices) k k here less (omega arith)

-- ---- no support

pub none_is : (slices : List Cells) (k : ℕ) (slice : Cells) (b : Extent) → k < length slices → slice ≡ get_or slices k slice → b ≡ slice.bounds → empty_plane b ≡ support_at false false slices k
none_is slices k slice b less is_slice box = ap empty_plane (box ∙ ap (λ p. p.bounds) (slice_is slices k slice less is_slice))

-- ---- one layer more

pub layers_more : (layer : ℕ → Cells) (k : ℕ) (planes more : List Cells) (plane : Cells) → planes ≡ map layer (range_with_len 0 k) → plane ≡ layer k → more ≡ planes ++ plane ∷ [] → more ≡ map layer (range_with_len 0 (k + 1))
layers_more layer k planes more plane is is_plane is_more = is_more ∙ (λ i. is i ++ is_plane i ∷ []) ∙ sym (map-range_with_len_more layer 0 k k (omega arith))
