-- The layers next to a layer, and the cells that they lack.
use Rattle.std.proofs.Common.{◌≡◌, ℤ, ℕ, zero, suc, pos, ◌+ℤ◌, ◌+◌, ◌-◌, ◌<◌, ◌≤◌, Bool, true, false, not, ◌&&◌, ◌||◌, leb, List, [], ◌∷◌, ◌++◌, length, take, drop, get_or, Some, None, refl, sym, ◌∙◌, ap, arith, inl, inr, ◌⊎◌}
use Rattle.std.specs.declared.option.Option.{Option}
use Rattle.std.specs.List.{range_with_len, list_any}
use Rattle.std.proofs.Math.Seq.{drop-cons}
use Rattle.std.proofs.lemmas.Bool.{lt-leb, le-leb, and_left, or_left, or_right}
use Rattle.std.proofs.lemmas.List.{get_or_past, get_or_default}
use Rattle.std.proofs.lemmas.List.Folds.{list_any-append, list_any_at, list_any_more}
use Rattle.std.proofs.lemmas.List.FromFn.{length-range_with_len, get_or-range_with_len}
use Rattle.pl_grid.specs.Extent.{Extent, place_of}
use Rattle.pl_grid.specs.Planes.{Cells, filled, value_at, plane_of, IsFull, empty_plane, difference}
use Rattle.pl_grid.proofs.PlaneLemmas.{same_tests, filled_in, filled_at, is_plane_of}
use Rattle.pl_fill.specs.Surfaces.{layer_at, has_above, has_below, is_bare_above, is_bare_below, is_bare, solid_of, sparse_of, top_of}

-- ---- tests

or_false : (a : Bool) → (a || false) ≡ a
or_false true = refl
or_false false = refl

and_false : (a : Bool) → (a && false) ≡ false
and_false true = refl
and_false false = refl

and_true : (a : Bool) → (a && true) ≡ a
and_true true = refl
and_true false = refl

or_swap : (a b : Bool) → (a || b) ≡ (b || a)
or_swap true true = refl
or_swap true false = refl
or_swap false true = refl
or_swap false false = refl

and_not_not : (a b : Bool) → (a && not (a && not b)) ≡ (a && b)
and_not_not true true = refl
and_not_not true false = refl
and_not_not false b = refl

-- what is left of a test after two times the rest of it was taken away
taken_twice : (f a l : Bool) → ((f && not a) && not ((f && not a) && not l)) ≡ (f && not (a || not l))
taken_twice true true l = refl
taken_twice true false true = refl
taken_twice true false false = refl
taken_twice false a l = refl

and_not_or : (f a b : Bool) → ((f && not a) && not b) ≡ (f && not (a || b))
and_not_or true true b = refl
and_not_or true false b = refl
and_not_or false a b = refl

-- ---- planes of tests

abbrev x_at : Extent → ℕ → ℤ
x_at b i = b.x0 +ℤ pos i

abbrev y_at : Extent → ℕ → ℤ
y_at b j = b.y0 +ℤ pos j

-- a plane with all its cells is that of its own test
pub own_plane : (p : Cells) → IsFull p → p ≡ plane_of p.bounds (filled p)
own_plane p full = is_plane_of p (filled p) full (λ i j hi hj. sym (filled_at p (x_at p.bounds i) (y_at p.bounds j) i j hi hj refl refl))

left_by_test : (p : Cells) (t u : ℤ → ℤ → Bool) → ((x y : ℤ) → (filled p x y && not (t x y)) ≡ u x y) → difference p (plane_of p.bounds t) ≡ plane_of p.bounds u
left_by_test p t u h =
    same_tests p.bounds (λ x y. filled p x y && not (filled (plane_of p.bounds t) x y)) u (λ i j hi hj.
    ap (λ v. filled p (x_at p.bounds i) (y_at p.bounds j) && not v) (filled_in p.bounds t i j hi hj)
    ∙ h (x_at p.bounds i) (y_at p.bounds j))

-- ---- the cells that each of some layers has

abbrev pub kept_test : Cells → List Cells → ℤ → ℤ → Bool
kept_test p layers x y = filled p x y && not (list_any (λ q. not (filled q x y)) layers)

pub kept_none : (p : Cells) → IsFull p → p ≡ plane_of p.bounds (kept_test p [])
kept_none p full = own_plane p full ∙ same_tests p.bounds (filled p) (kept_test p []) (λ i j hi hj. sym (and_true (filled p (x_at p.bounds i) (y_at p.bounds j))))

-- a test's plane without what is left of it outside a layer
kept_twice : (b : Extent) (t u : ℤ → ℤ → Bool) (layer : Cells) → ((x y : ℤ) → (t x y && not (t x y && not (filled layer x y))) ≡ u x y) → difference (plane_of b t) (difference (plane_of b t) layer) ≡ plane_of b u
kept_twice b t u layer h =
    let K : Cells = plane_of b t in
    let L : ℤ → ℤ → Bool = λ x y. filled K x y && not (filled layer x y) in
    same_tests b (λ x y. filled K x y && not (filled (plane_of b L) x y)) u (λ i j hi hj.
    ap (λ v. filled K (x_at b i) (y_at b j) && not v) (filled_in b L i j hi hj)
    ∙ ap (λ v. v && not (v && not (filled layer (x_at b i) (y_at b j)))) (filled_in b t i j hi hj)
    ∙ h (x_at b i) (y_at b j))

pub kept_more : (p : Cells) (layers : List Cells) (i : ℕ) (kept lost next layer : Cells) → kept ≡ plane_of p.bounds (kept_test p (take i layers)) → i < length layers → layer ≡ get_or layers i layer → lost ≡ difference kept layer → next ≡ difference kept lost → next ≡ plane_of p.bounds (kept_test p (take (i + 1) layers))
kept_more p layers i kept lost next layer was less here out now =
    now
    ∙ ap (difference kept) out
    ∙ ap (λ k. difference k (difference k layer)) was
    ∙ kept_twice p.bounds (kept_test p (take i layers)) (kept_test p (take (i + 1) layers)) layer (λ x y.
    taken_twice (filled p x y) (list_any (λ q. not (filled q x y)) (take i layers)) (filled layer x y)
    ∙ ap (λ q. filled p x y && not (list_any (λ r. not (filled r x y)) (take i layers) || not (filled q x y))) here
    ∙ ap (λ v. filled p x y && not v) (sym (list_any_more (λ q. not (filled q x y)) layers i layer less)))

-- ---- a layer that does not exist

no_value : (place : Option ℕ) → value_at [] place ≡ false
no_value (Some k) = refl
no_value None = refl

-- past the top every cell is lacked
pub none_above : (slices : List Cells) (k d : ℕ) (x y : ℤ) → length slices ≤ k + d → has_above slices k d x y ≡ false
none_above slices k d x y past =
    ap (λ p. filled p x y) (get_or_past slices (k + d) (layer_at [] 0) past)
    ∙ no_value (place_of (layer_at [] 0).bounds x y)

in_window : (test : ℕ → Bool) (count d : ℕ) → 1 ≤ d → d ≤ count → test d ≡ true → list_any test (range_with_len 1 count) ≡ true
in_window test count d some few h =
    let at : get_or (range_with_len 1 count) (d - 1) 0 ≡ d = omega (arith, get_or-range_with_len 1 count (d - 1) 0 (omega arith)) in
    list_any_at test (range_with_len 1 count) (d - 1) 0 (omega (arith, length-range_with_len 1 count)) (ap test at ∙ h)

bare_past_top : (slices : List Cells) (k count : ℕ) (x y : ℤ) → k < length slices → length slices ≤ k + count → is_bare_above slices k count x y ≡ true
bare_past_top slices k count x y here past =
    in_window (λ d. not (has_above slices k d x y)) count count (omega arith) (omega arith) (ap not (none_above slices k count x y past))

bare_past_bottom : (slices : List Cells) (k count : ℕ) (x y : ℤ) → k < count → is_bare_below slices k count x y ≡ true
bare_past_bottom slices k count x y past =
    in_window (λ d. not (has_below slices k d x y)) count count (omega arith) (omega arith)
    (ap not (and_left (leb count k) (filled (layer_at slices (k - count)) x y) (lt-leb count k past)))

-- ---- the layers next to a layer

above_from : (slices : List Cells) (k a n : ℕ) (x y : ℤ) → k + a + n ≤ length slices → list_any (λ d. not (has_above slices k d x y)) (range_with_len a n) ≡ list_any (λ q. not (filled q x y)) (take n (drop (k + a) slices))
above_from slices k a zero x y fits = refl
above_from slices k a (suc n) x y fits =
    let P : Cells → Bool = λ q. not (filled q x y) in
    let next : suc (k + a) ≡ k + (a + 1) = omega arith in
    ap (λ v. P (layer_at slices (k + a)) || v) (above_from slices k (a + 1) n x y (omega arith))
    ∙ ap (λ m. P (layer_at slices (k + a)) || list_any P (take n (drop m slices))) (sym next)
    ∙ ap (λ qs. list_any P (take (suc n) qs)) (sym (drop-cons slices (k + a) (layer_at [] 0) (omega arith)))

range_end : (a n : ℕ) → range_with_len a (suc n) ≡ range_with_len a n ++ (a + n) ∷ []
range_end a zero = ap (λ m. m ∷ []) (same a)
  where
    same : (a : ℕ) → a ≡ a + 0
    same a = omega arith
range_end a (suc n) =
    ap (λ ms. a ∷ ms) (range_end (a + 1) n ∙ ap (λ m. range_with_len (a + 1) n ++ m ∷ []) (shift a n))
  where
    shift : (a n : ℕ) → a + 1 + n ≡ a + suc n
    shift a n = omega arith

below_from : (slices : List Cells) (k n : ℕ) (x y : ℤ) → n ≤ k → k ≤ length slices → list_any (λ d. not (has_below slices k d x y)) (range_with_len 1 n) ≡ list_any (λ q. not (filled q x y)) (take n (drop (k - n) slices))
below_from slices k zero x y fits some = refl
below_from slices k (suc n) x y fits some =
    let P : Cells → Bool = λ q. not (filled q x y) in
    let T : ℕ → Bool = λ d. not (has_below slices k d x y) in
    let rest : Bool = list_any P (take n (drop (k - n) slices)) in
    let last : 1 + n ≡ suc n = omega arith in
    let next : suc (k - suc n) ≡ k - n = omega arith in
    let here : T (suc n) ≡ P (layer_at slices (k - suc n)) = ap (λ v. not (v && filled (layer_at slices (k - suc n)) x y)) (le-leb (suc n) k fits) in
    ap (list_any T) (range_end 1 n)
    ∙ list_any-append T (range_with_len 1 n) ((1 + n) ∷ [])
    ∙ ap (λ v. list_any T (range_with_len 1 n) || v) (or_false (T (1 + n)) ∙ ap T last ∙ here)
    ∙ ap (λ v. v || P (layer_at slices (k - suc n))) (below_from slices k n x y (omega arith) some)
    ∙ or_swap rest (P (layer_at slices (k - suc n)))
    ∙ ap (λ m. P (layer_at slices (k - suc n)) || list_any P (take n (drop m slices))) (sym next)
    ∙ ap (λ qs. list_any P (take (suc n) qs)) (sym (drop-cons slices (k - suc n) (layer_at [] 0) (omega arith)))

-- ---- solid, sparse and top

-- where a layer of the window does not exist, no cell is sparse
pub sparse_none : (slices : List Cells) (p : Cells) (k top bottom : ℕ) → k < length slices → (k < bottom) ⊎ (length slices ≤ k + top) → empty_plane p.bounds ≡ sparse_of slices p k top bottom
sparse_none slices p k top bottom here past =
    same_tests p.bounds (λ _ _. false) (λ x y. filled p x y && not (is_bare slices k top bottom x y)) (λ i j hi hj.
    sym (ap (λ v. filled p (x_at p.bounds i) (y_at p.bounds j) && not v) (all (x_at p.bounds i) (y_at p.bounds j)) ∙ and_false (filled p (x_at p.bounds i) (y_at p.bounds j))))
  where
    all : (x y : ℤ) → is_bare slices k top bottom x y ≡ true
    all x y =
        elim past [
          | inl low ↦ or_left (is_bare_below slices k bottom x y) (is_bare_above slices k top x y) (bare_past_bottom slices k bottom x y low)
          | inr high ↦ or_right (is_bare_below slices k bottom x y) (is_bare_above slices k top x y) (bare_past_top slices k top x y here high)
        ]

-- the cells that each layer below and each layer above has
pub sparse_some : (slices : List Cells) (p below : Cells) (k top bottom : ℕ) (low high : List Cells) → bottom ≤ k → k + top < length slices → low ≡ take bottom (drop (k - bottom) slices) → high ≡ take top (drop (k + 1) slices) → below ≡ plane_of p.bounds (kept_test p low) → plane_of below.bounds (kept_test below high) ≡ sparse_of slices p k top bottom
sparse_some slices p below k top bottom low high fits_low fits_high is_low is_high is_below =
    let down : List Cells = take bottom (drop (k - bottom) slices) in
    let up : List Cells = take top (drop (k + 1) slices) in
    ap (λ q. plane_of q.bounds (kept_test q high)) (is_below ∙ ap (λ qs. plane_of p.bounds (kept_test p qs)) is_low)
    ∙ ap (λ qs. plane_of p.bounds (kept_test (plane_of p.bounds (kept_test p down)) qs)) is_high
    ∙ same_tests p.bounds (kept_test (plane_of p.bounds (kept_test p down)) up) (λ x y. filled p x y && not (is_bare slices k top bottom x y)) (λ i j hi hj.
    let x : ℤ = x_at p.bounds i in
    let y : ℤ = y_at p.bounds j in
    ap (λ v. v && not (list_any (λ q. not (filled q x y)) up)) (filled_in p.bounds (kept_test p down) i j hi hj)
    ∙ and_not_or (filled p x y) (list_any (λ q. not (filled q x y)) down) (list_any (λ q. not (filled q x y)) up)
    ∙ ap (λ v. filled p x y && not (v || list_any (λ q. not (filled q x y)) up)) (sym (below_from slices k bottom x y fits_low (omega arith)))
    ∙ ap (λ v. filled p x y && not (is_bare_below slices k bottom x y || v)) (sym (above_from slices k 1 top x y (omega arith))))

-- what is not sparse is solid
pub solid_left : (slices : List Cells) (p : Cells) (k top bottom : ℕ) → difference p (sparse_of slices p k top bottom) ≡ solid_of slices p k top bottom
solid_left slices p k top bottom =
    left_by_test p (λ x y. filled p x y && not (is_bare slices k top bottom x y)) (λ x y. filled p x y && is_bare slices k top bottom x y) (λ x y. and_not_not (filled p x y) (is_bare slices k top bottom x y))

-- on the last layer all cells are on top
pub top_all : (slices : List Cells) (p : Cells) (k : ℕ) → length slices ≤ k + 1 → plane_of p.bounds (filled p) ≡ top_of slices p k
top_all slices p k past =
    same_tests p.bounds (filled p) (λ x y. filled p x y && not (has_above slices k 1 x y)) (λ i j hi hj.
    sym (ap (λ v. filled p (x_at p.bounds i) (y_at p.bounds j) && not v) (none_above slices k 1 (x_at p.bounds i) (y_at p.bounds j) past) ∙ and_true (filled p (x_at p.bounds i) (y_at p.bounds j))))

pub top_some : (slices : List Cells) (p next : Cells) (k : ℕ) → k + 1 < length slices → next ≡ get_or slices (k + 1) next → difference p next ≡ top_of slices p k
top_some slices p next k less here = ap (difference p) (here ∙ get_or_default slices (k + 1) next (layer_at [] 0) less)
