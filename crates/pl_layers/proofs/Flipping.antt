-- Turning over the cells from which a facet is hit: row by row, and facet by facet.
use Rattle.std.proofs.Common.{◌≡◌, ℤ, ℕ, pos, ◌+ℤ◌, ◌*ℤ◌, ◌+◌, ◌*◌, ◌<◌, ◌≤◌, ◌%◌, ◌==◌, Bool, true, false, cond, not, ◌&&◌, ◌||◌, List, take, length, get_or, refl, sym, ◌∙◌, ap, subst, arith, min, w32, to_z}
use Rattle.std.specs.Prelude.{nat_lt, int_lt, ◌-ℤ◌, IsTrue, is_some}
use Rattle.std.specs.Ordering.{int_eq}
use Rattle.std.specs.List.{count_by}
use Rattle.std.proofs.lemmas.Int.{ints}
use Rattle.std.proofs.lemmas.Bool.Decides.{nat_tests, Decides-int_eq}
use Rattle.std.proofs.lemmas.List.Sums.{sum_by_more}
use Rattle.pl_stl.specs.declared.mesh.Point3.{Point3}
use Rattle.pl_stl.specs.declared.mesh.Facet.{Facet}
use Rattle.pl_grid.specs.Extent.{Extent, row_of}
use Rattle.pl_grid.specs.Planes.{Cells, filled, plane_of, toggled, empty_plane, IsFull}
use Rattle.pl_grid.proofs.PlaneLemmas.{same_tests, filled_in, filled_at, is_plane_of, IsFull-plane_of}
use Rattle.pl_layers.specs.Hits.{hits, either_or, is_ahead, is_in_mesh}
use Rattle.pl_layers.specs.Rows.{along, columns_hit, misses_row}
use Rattle.pl_layers.specs.Slices.{cell_point, inside_of}
use Rattle.pl_layers.specs.Flips.{with_facet_row, with_facet}
use Rattle.pl_layers.proofs.Behind.{hits_along}
use Rattle.pl_layers.proofs.Reaching.{misses}

-- ---- one row

-- the cells of a row lie a cell apart along the ray
cell_along : (corner : Point3) (i : ℕ) (y : ℤ) → cell_point corner (pos i) y ≡ along (cell_point corner (pos 0) y) (pos (i * 400000))
cell_along corner i y =
    let e : corner.x.0 +ℤ pos 400000 *ℤ pos i ≡ corner.x.0 +ℤ pos 400000 *ℤ pos 0 +ℤ pos (i * 400000) = omega (arith, ints) in
    ap (λ x. record { x = record { 0 = x }; y = record { 0 = corner.y.0 +ℤ pos 400000 *ℤ y }; z = corner.z }) e

hits_row : (corner : Point3) (f : Facet) (i : ℕ) (y : ℤ) → hits (cell_point corner (pos i) y) f ≡ nat_lt i (columns_hit 400000 (cell_point corner (pos 0) y) f)
hits_row corner f i y = ap (λ p. hits p f) (cell_along corner i y) ∙ hits_along 400000 i (cell_point corner (pos 0) y) f (omega arith)

below_min : (i cols x : ℕ) → i < cols → nat_lt i (min cols x) ≡ nat_lt i x
below_min i cols x h = grind (arith, nat_tests)

lt_from : (x0 : ℤ) (i n : ℕ) → x0 ≡ pos 0 → int_lt (x0 +ℤ pos i) (pos n) ≡ nat_lt i n
lt_from x0 i n e = grind (arith, ints, nat_tests)

flip : (l r f : Bool) → cond (l && r) (not f) f ≡ either_or f (r && l)
flip true true true = refl
flip true true false = refl
flip true false true = refl
flip true false false = refl
flip false true true = refl
flip false true false = refl
flip false false true = refl
flip false false false = refl

same_in_row : (corner : Point3) (f : Facet) (i cols : ℕ) (x v y : ℤ) (r : Bool) → (r ≡ true → v ≡ y) → x ≡ pos i → i < cols → (r && nat_lt i (min cols (columns_hit 400000 (cell_point corner (pos 0) y) f))) ≡ (r && hits (cell_point corner x v) f)
same_in_row corner f i cols x v y true same ex h = below_min i cols (columns_hit 400000 (cell_point corner (pos 0) y) f) h ∙ sym (hits_row corner f i y) ∙ ap (λ w. hits (cell_point corner (pos i) w) f) (sym (same refl)) ∙ ap (λ u. hits (cell_point corner u v) f) (sym ex)
same_in_row corner f i cols x v y false same ex h = refl

-- turning over the cells before as many columns as are hit turns over the cells of the row from which the facet is hit
pub flipped_row : (p : Cells) (corner : Point3) (f : Facet) (y : ℤ) (n : ℕ) → p.bounds.x0 ≡ pos 0 → n ≡ min p.bounds.cols (columns_hit 400000 (cell_point corner (pos 0) y) f) → toggled p (pos n) y ≡ with_facet_row corner f p y
flipped_row p corner f y n origin en =
    same_tests p.bounds (λ u v. cond (int_lt u (pos n) && int_eq v y) (not (filled p u v)) (filled p u v)) (λ u v. either_or (filled p u v) (int_eq v y && hits (cell_point corner u v) f)) (λ i j hi hj.
    let ex : p.bounds.x0 +ℤ pos i ≡ pos i = omega (arith, ints, origin) in
    flip (int_lt (p.bounds.x0 +ℤ pos i) (pos n)) (int_eq (p.bounds.y0 +ℤ pos j) y) (filled p (p.bounds.x0 +ℤ pos i) (p.bounds.y0 +ℤ pos j))
    ∙ ap (λ b. either_or (filled p (p.bounds.x0 +ℤ pos i) (p.bounds.y0 +ℤ pos j)) (int_eq (p.bounds.y0 +ℤ pos j) y && b)) (lt_from p.bounds.x0 i n origin ∙ ap (nat_lt i) en)
    ∙ ap (λ b. either_or (filled p (p.bounds.x0 +ℤ pos i) (p.bounds.y0 +ℤ pos j)) b) (same_in_row corner f i p.bounds.cols (p.bounds.x0 +ℤ pos i) (p.bounds.y0 +ℤ pos j) y (int_eq (p.bounds.y0 +ℤ pos j) y) (Decides-int_eq (p.bounds.y0 +ℤ pos j) y).0 ex hi))

-- a row or a count of columns as the code has it
pub signed : (k : ℕ) → k ≤ 8192 → to_z w32 k ≡ pos k
signed k small = omega (arith, ints)

row_in : (b : Extent) (y : ℤ) (k : ℕ) → y ≡ pos k → b.y0 ≡ pos 0 → k < b.rows → IsTrue (is_some (row_of b y))
row_in b y k ey origin h =
    let e : y -ℤ b.y0 ≡ pos k = omega (arith, ints, ey, origin) in
    rw e (grind (arith, nat_tests))

pub row_there : (b e : Extent) (k : ℕ) → b ≡ e → e.y0 ≡ pos 0 → k < e.rows → k ≤ 8192 → IsTrue (is_some (row_of b (to_z w32 k)))
row_there b e k eb origin h small = subst (λ (q : Extent). IsTrue (is_some (row_of q (to_z w32 k)))) (sym eb) (row_in e (to_z w32 k) k (signed k small) origin h)

counted_columns : (p : Cells) (e : Extent) (corner first : Point3) (f : Facet) (k n : ℕ) → p.bounds ≡ e → first ≡ cell_point corner (pos 0) (pos k) → n ≡ min e.cols (columns_hit 400000 first f) → n ≡ min p.bounds.cols (columns_hit 400000 (cell_point corner (pos 0) (pos k)) f)
counted_columns p e corner first f k n eb ef en = en ∙ ap (λ q. min e.cols (columns_hit 400000 q f)) ef ∙ ap (λ (b : Extent). min b.cols (columns_hit 400000 (cell_point corner (pos 0) (pos k)) f)) (sym eb)

pub row_flipped : (p new : Cells) (e : Extent) (corner first : Point3) (f : Facet) (k n : ℕ) → p.bounds ≡ e → e.x0 ≡ pos 0 → first ≡ cell_point corner (pos 0) (pos k) → n ≡ min e.cols (columns_hit 400000 first f) → n ≤ 8192 → k ≤ 8192 → new ≡ toggled p (to_z w32 n) (to_z w32 k) → new ≡ with_facet_row corner f p (pos k)
row_flipped p new e corner first f k n eb origin ef en small low e_new =
    e_new
    ∙ ap (λ a. toggled p a (to_z w32 k)) (signed n small)
    ∙ ap (λ b. toggled p (pos n) b) (signed k low)
    ∙ flipped_row p corner f (pos k) n (ap (λ (b : Extent). b.x0) eb ∙ origin) (counted_columns p e corner first f k n eb ef en)

-- ---- the rows of a facet

pub inside_of_box : (b e : Extent) (j : ℕ) → b ≡ e → j < b.rows → j < e.rows
inside_of_box b e j eb h = subst (λ (q : Extent). j < q.rows) eb h

-- the rows below k are done
abbrev pub rows_done : Point3 → Facet → Cells → ℕ → Cells
rows_done corner f p k = plane_of p.bounds (λ u v. either_or (filled p u v) (int_lt v (pos k) && hits (cell_point corner u v) f))

one_more : (f h a b : Bool) → (a && b) ≡ false → either_or (either_or f (a && h)) (b && h) ≡ either_or f ((a || b) && h)
one_more true true true false e = refl
one_more true true false true e = refl
one_more true true false false e = refl
one_more true false true false e = refl
one_more true false false true e = refl
one_more true false false false e = refl
one_more false true true false e = refl
one_more false true false true e = refl
one_more false true false false e = refl
one_more false false true false e = refl
one_more false false false true e = refl
one_more false false false false e = refl
one_more f h true true e = absurd (grind arith)

eq_pos : (v : ℤ) (j k : ℕ) → v ≡ pos j → int_eq v (pos k) ≡ (j == k)
eq_pos v j k e = grind (arith, ints, nat_tests, Decides-int_eq v (pos k))

lt_pos : (v : ℤ) (j k : ℕ) → v ≡ pos j → int_lt v (pos k) ≡ nat_lt j k
lt_pos v j k e = grind (arith, ints, nat_tests)

apart : (j k : ℕ) → (nat_lt j k && (j == k)) ≡ false
apart j k = grind (arith, nat_tests)

below_suc : (j k : ℕ) → (nat_lt j k || (j == k)) ≡ nat_lt j (k + 1)
below_suc j k = grind (arith, nat_tests)

row_at : (f h was : Bool) (v : ℤ) (j k : ℕ) → v ≡ pos j → was ≡ either_or f (int_lt v (pos k) && h) → either_or was (int_eq v (pos k) && h) ≡ either_or f (int_lt v (pos (k + 1)) && h)
row_at f h was v j k ev ew =
    ap (λ a. either_or a (int_eq v (pos k) && h)) ew
    ∙ ap (λ t. either_or (either_or f (t && h)) (int_eq v (pos k) && h)) (lt_pos v j k ev)
    ∙ ap (λ t. either_or (either_or f (nat_lt j k && h)) (t && h)) (eq_pos v j k ev)
    ∙ one_more f h (nat_lt j k) (j == k) (apart j k)
    ∙ ap (λ t. either_or f (t && h)) (below_suc j k ∙ sym (lt_pos v j (k + 1) ev))

-- one row more of a facet
rows_more : (corner : Point3) (f : Facet) (p : Cells) (k : ℕ) → p.bounds.y0 ≡ pos 0 → with_facet_row corner f (rows_done corner f p k) (pos k) ≡ rows_done corner f p (k + 1)
rows_more corner f p k origin = same_tests p.bounds (λ u v. either_or (filled (rows_done corner f p k) u v) (int_eq v (pos k) && hits (cell_point corner u v) f)) (λ u v. either_or (filled p u v) (int_lt v (pos (k + 1)) && hits (cell_point corner u v) f)) (λ i j hi hj.
    let ev : p.bounds.y0 +ℤ pos j ≡ pos j = omega (arith, ints, origin) in
    row_at (filled p (p.bounds.x0 +ℤ pos i) (p.bounds.y0 +ℤ pos j)) (hits (cell_point corner (p.bounds.x0 +ℤ pos i) (p.bounds.y0 +ℤ pos j)) f) (filled (rows_done corner f p k) (p.bounds.x0 +ℤ pos i) (p.bounds.y0 +ℤ pos j)) (p.bounds.y0 +ℤ pos j) j k ev
    (filled_in p.bounds (λ x y. either_or (filled p x y) (int_lt y (pos k) && hits (cell_point corner x y) f)) i j hi hj))

-- a facet that misses a row is hit from no cell of it
hits_missed : (corner : Point3) (f : Facet) (u v : ℤ) (j : ℕ) → v ≡ pos j → misses_row (cell_point corner (pos 0) (pos j)) f ≡ true → hits (cell_point corner u v) f ≡ false
hits_missed corner f u v j ev h =
    ap (λ w. hits (cell_point corner u w) f) ev
    ∙ ap (λ b. b && is_ahead (cell_point corner u (pos j)) f) (misses (cell_point corner u (pos j)) f h)

and_none : (a h : Bool) → (a ≡ true → h ≡ false) → (a && h) ≡ false
and_none true h e = e refl
and_none false h e = refl

either_none : (f b : Bool) → b ≡ false → either_or f b ≡ f
either_none true b e = grind (arith, e)
either_none false b e = e

is_below : (v : ℤ) (j k : ℕ) → v ≡ pos j → int_lt v (pos k) ≡ true → j < k
is_below v j k ev h = grind (arith, nat_tests, sym (lt_pos v j k ev) ∙ h)

-- nothing is done where the facet misses all rows below k
pub rows_none : (corner : Point3) (f : Facet) (p : Cells) (k : ℕ) → IsFull p → p.bounds.y0 ≡ pos 0 → ((j : ℕ) → j < p.bounds.rows → j < k → misses_row (cell_point corner (pos 0) (pos j)) f ≡ true) → p ≡ rows_done corner f p k
rows_none corner f p k full origin missed = is_plane_of p (λ u v. either_or (filled p u v) (int_lt v (pos k) && hits (cell_point corner u v) f)) full (λ i j hi hj.
    let ev : p.bounds.y0 +ℤ pos j ≡ pos j = omega (arith, ints, origin) in
    sym (either_none (filled p (p.bounds.x0 +ℤ pos i) (p.bounds.y0 +ℤ pos j)) _ (and_none (int_lt (p.bounds.y0 +ℤ pos j) (pos k)) _ (λ below. hits_missed corner f (p.bounds.x0 +ℤ pos i) (p.bounds.y0 +ℤ pos j) j ev (missed j hj (is_below (p.bounds.y0 +ℤ pos j) j k ev below))))
    ∙ filled_at p (p.bounds.x0 +ℤ pos i) (p.bounds.y0 +ℤ pos j) i j hi hj refl refl))

and_all : (a h : Bool) → (a ≡ false → h ≡ false) → (a && h) ≡ h
and_all true h e = refl
and_all false h e = sym (e refl)

is_above : (v : ℤ) (j k : ℕ) → v ≡ pos j → int_lt v (pos k) ≡ false → k ≤ j
is_above v j k ev h = grind (arith, nat_tests, sym (lt_pos v j k ev) ∙ h)

-- all is done where the facet misses all rows from k on
pub rows_all : (corner : Point3) (f : Facet) (p : Cells) (k : ℕ) → p.bounds.y0 ≡ pos 0 → ((j : ℕ) → j < p.bounds.rows → k ≤ j → misses_row (cell_point corner (pos 0) (pos j)) f ≡ true) → rows_done corner f p k ≡ with_facet corner f p
rows_all corner f p k origin missed = same_tests p.bounds (λ u v. either_or (filled p u v) (int_lt v (pos k) && hits (cell_point corner u v) f)) (λ u v. either_or (filled p u v) (hits (cell_point corner u v) f)) (λ i j hi hj.
    let ev : p.bounds.y0 +ℤ pos j ≡ pos j = omega (arith, ints, origin) in
    ap (either_or (filled p (p.bounds.x0 +ℤ pos i) (p.bounds.y0 +ℤ pos j))) (and_all (int_lt (p.bounds.y0 +ℤ pos j) (pos k)) _ (λ above. hits_missed corner f (p.bounds.x0 +ℤ pos i) (p.bounds.y0 +ℤ pos j) j ev (missed j hj (is_above (p.bounds.y0 +ℤ pos j) j k ev above)))))

pub rows_step : (corner : Point3) (f : Facet) (p old new : Cells) (k : ℕ) → p.bounds.y0 ≡ pos 0 → old ≡ rows_done corner f p k → new ≡ with_facet_row corner f old (pos k) → new ≡ rows_done corner f p (k + 1)
rows_step corner f p old new k origin eo en = en ∙ ap (λ q. with_facet_row corner f q (pos k)) eo ∙ rows_more corner f p k origin

-- ---- the facets

-- one more facet turns the parity of its cells over
odd_more : (n : ℕ) (b : Bool) → ((n + cond b 1 0) % 2 == 1) ≡ either_or (n % 2 == 1) b
odd_more n true = grind (arith, nat_tests)
odd_more n false = grind (arith, nat_tests)

is_in_mesh_more : (mesh : List Facet) (k : ℕ) (d : Facet) (p : Point3) → k < length mesh → is_in_mesh (take (k + 1) mesh) p ≡ either_or (is_in_mesh (take k mesh) p) (hits p (get_or mesh k d))
is_in_mesh_more mesh k d p h = ap (λ n. n % 2 == 1) (sum_by_more (λ f. cond (hits p f) 1 0) mesh k d h) ∙ odd_more (count_by (hits p) (take k mesh)) (hits p (get_or mesh k d))

facet_more : (b : Extent) (mesh : List Facet) (k : ℕ) (d : Facet) (corner : Point3) → k < length mesh → with_facet corner (get_or mesh k d) (inside_of b (take k mesh) corner) ≡ inside_of b (take (k + 1) mesh) corner
facet_more b mesh k d corner h = same_tests b (λ u v. either_or (filled (inside_of b (take k mesh) corner) u v) (hits (cell_point corner u v) (get_or mesh k d))) (λ u v. is_in_mesh (take (k + 1) mesh) (cell_point corner u v)) (λ i j hi hj.
    ap (λ a. either_or a (hits (cell_point corner (b.x0 +ℤ pos i) (b.y0 +ℤ pos j)) (get_or mesh k d))) (filled_in b (λ x y. is_in_mesh (take k mesh) (cell_point corner x y)) i j hi hj) ∙ sym (is_in_mesh_more mesh k d (cell_point corner (b.x0 +ℤ pos i) (b.y0 +ℤ pos j)) h))

pub facet_step : (b : Extent) (mesh : List Facet) (k : ℕ) (d : Facet) (corner : Point3) (old new : Cells) → old ≡ inside_of b (take k mesh) corner → new ≡ with_facet corner (get_or mesh k d) old → k < length mesh → new ≡ inside_of b (take (k + 1) mesh) corner
facet_step b mesh k d corner old new eo en h = en ∙ ap (λ q. with_facet corner (get_or mesh k d) q) eo ∙ facet_more b mesh k d corner h

-- the cells of some facets are the values of a box
pub inside_full : (b : Extent) (mesh : List Facet) (corner : Point3) (p : Cells) → p ≡ inside_of b mesh corner → IsFull p
inside_full b mesh corner p e = subst (λ (q : Cells). IsFull q) (sym e) (IsFull-plane_of b (λ x y. is_in_mesh mesh (cell_point corner x y)))

-- a box without columns
pub inside_empty : (b : Extent) (mesh : List Facet) (corner : Point3) → b.cols ≡ 0 → empty_plane b ≡ inside_of b mesh corner
inside_empty b mesh corner none = same_tests b (λ x y. false) (λ x y. is_in_mesh mesh (cell_point corner x y)) (λ i j hi hj. absurd (omega (arith, hi, none)))
