-- Sides and their numbers.
use Rattle.std.proofs.Common.{◌≡◌, inl, inr, ℤ, ℕ, zero, suc, pos, negsuc, ◌+ℤ◌, ◌-ℤ◌, ◌+◌, ◌*◌, ◌/◌, ◌%◌, ◌<◌, ◌≤◌, Bool, true, false, Some, None, refl, sym, ◌∙◌, ap, arith, unsigned_abs, List}
use Rattle.std.specs.declared.option.Option.{Option}
use Rattle.std.proofs.lemmas.Bool.{and_parts, and_from, both_ways, cases_lt, ltb-true, lt-ltb}
use Rattle.std.proofs.lemmas.Bool.Decides.{nat_tests}
use Rattle.std.proofs.lemmas.Nat.{mul-add-lt, div-mul-add, mod-mul-add, div-add-mod', mod_below}
use Rattle.std.proofs.lemmas.Int.{ints}
use Rattle.pl_grid.specs.Extent.{Extent, offset_in, place_at}
use Rattle.pl_grid.specs.Planes.{Cells, value_at, filled}
use Rattle.pl_rings.specs.declared.side.Heading.{Heading}
use Rattle.pl_rings.specs.declared.side.Heading.TheVariants.{East, North, West, South}
use Rattle.pl_rings.specs.declared.side.Side.{Side}
use Rattle.pl_rings.specs.Headings.{leaves}
use Rattle.pl_rings.specs.Cycles.{Permutes}
use Rattle.pl_rings.specs.Sides.{around, is_side, next_side, rank_of, heading_of, side_count, side_at, number_of, stands, next_number, IsPoint}
use Rattle.pl_rings.proofs.SideLemmas.{next_is_side, next_apart, side_of, heading_of-rank_of}

-- the distances of a filled cell from the box's corner
pub record IsIn (b : Extent) (x y : ℤ) : Type 0 where
  pub column : ℕ
  pub row : ℕ
  pub wide : column < b.cols
  pub high : row < b.rows
  pub x_is : x ≡ b.x0 +ℤ pos column
  pub y_is : y ≡ b.y0 +ℤ pos row

off_offset : (n i : ℕ) → n ≤ i → offset_in n (pos i) ≡ None
off_offset n i h = grind (arith, nat_tests)

not_in : (p : Cells) (j : Option ℕ) → value_at p.cells (place_at p.bounds.cols None j) ≡ true → ⊥
not_in p j h = both_ways false refl h

no_row : (cells : List Bool) (cols : ℕ) (i : Option ℕ) → value_at cells (place_at cols i None) ≡ false
no_row cols cells None = refl
no_row cols cells (Some i) = refl

in_offsets : (p : Cells) (x y u v : ℤ) → x ≡ p.bounds.x0 +ℤ u → y ≡ p.bounds.y0 +ℤ v → value_at p.cells (place_at p.bounds.cols (offset_in p.bounds.cols u) (offset_in p.bounds.rows v)) ≡ true → IsIn p.bounds x y
in_offsets p x y (pos i) (pos j) ex ey h =
    elim (cases_lt i p.bounds.cols) [
      | inl wide ↦ elim (cases_lt j p.bounds.rows) [
        | inl high ↦ record { column = i; row = j; wide = wide; high = high; x_is = ex; y_is = ey }
        | inr past ↦ absurd (both_ways _ (no_row p.cells p.bounds.cols (offset_in p.bounds.cols (pos i))) (ap (λ o. value_at p.cells (place_at p.bounds.cols (offset_in p.bounds.cols (pos i)) o)) (sym (off_offset p.bounds.rows j past)) ∙ h))
      ]
      | inr past ↦ absurd (not_in p (offset_in p.bounds.rows (pos j)) (ap (λ o. value_at p.cells (place_at p.bounds.cols o (offset_in p.bounds.rows (pos j)))) (sym (off_offset p.bounds.cols i past)) ∙ h))
    ]
in_offsets p x y (pos i) (negsuc j) ex ey h = absurd (both_ways _ (no_row p.cells p.bounds.cols (offset_in p.bounds.cols (pos i))) h)
in_offsets p x y (negsuc i) v ex ey h = absurd (both_ways false refl h)

-- a filled cell lies in the box
pub filled_in : (p : Cells) (x y : ℤ) → filled p x y ≡ true → IsIn p.bounds x y
filled_in p x y h = in_offsets p x y (x -ℤ p.bounds.x0) (y -ℤ p.bounds.y0) (omega (arith, ints)) (omega (arith, ints)) h

-- the four points of a cell of the box
point_ne : (b : Extent) (x y : ℤ) → IsIn b x y → IsPoint b x y
point_ne b x y i = record { column = i.column; row = i.row; wide = omega (arith, i.wide); high = omega (arith, i.high); x_is = omega (arith, ints, i.x_is); y_is = omega (arith, ints, i.y_is) }

point_nw : (b : Extent) (x y : ℤ) → IsIn b (x -ℤ pos 1) y → IsPoint b x y
point_nw b x y i = record { column = i.column + 1; row = i.row; wide = omega (arith, i.wide); high = omega (arith, i.high); x_is = omega (arith, ints, i.x_is); y_is = omega (arith, ints, i.y_is) }

point_sw : (b : Extent) (x y : ℤ) → IsIn b (x -ℤ pos 1) (y -ℤ pos 1) → IsPoint b x y
point_sw b x y i = record { column = i.column + 1; row = i.row + 1; wide = omega (arith, i.wide); high = omega (arith, i.high); x_is = omega (arith, ints, i.x_is); y_is = omega (arith, ints, i.y_is) }

point_se : (b : Extent) (x y : ℤ) → IsIn b x (y -ℤ pos 1) → IsPoint b x y
point_se b x y i = record { column = i.column; row = i.row + 1; wide = omega (arith, i.wide); high = omega (arith, i.high); x_is = omega (arith, ints, i.x_is); y_is = omega (arith, ints, i.y_is) }

-- a side starts in such a point
leaves_point : (p : Cells) (x y : ℤ) (h : Heading) → leaves (around p x y) h ≡ true → IsPoint p.bounds x y
leaves_point p x y East h = point_ne p.bounds x y (filled_in p x y (and_parts _ _ h).0)
leaves_point p x y North h = point_nw p.bounds x y (filled_in p (x -ℤ pos 1) y (and_parts _ _ h).0)
leaves_point p x y West h = point_sw p.bounds x y (filled_in p (x -ℤ pos 1) (y -ℤ pos 1) (and_parts _ _ h).0)
leaves_point p x y South h = point_se p.bounds x y (filled_in p x (y -ℤ pos 1) (and_parts _ _ h).0)

rank_below : (h : Heading) → rank_of h < 4
rank_below East = omega arith
rank_below North = omega arith
rank_below West = omega arith
rank_below South = omega arith

-- the number of a side by its column and row
pub number_is : (b : Extent) (s : Side) (q : IsPoint b s.x s.y) → number_of b s ≡ (q.row * (b.cols + 1) + q.column) * 4 + rank_of s.heading
number_is b s q = ap (λ z. (unsigned_abs z * (b.cols + 1) + unsigned_abs (s.x -ℤ b.x0)) * 4 + rank_of s.heading) q.y_is ∙ ap (λ z. (q.row * (b.cols + 1) + unsigned_abs z) * 4 + rank_of s.heading) q.x_is

pub number_below : (b : Extent) (s : Side) → IsPoint b s.x s.y → number_of b s < side_count b
number_below b s q =
    let place : q.row * (b.cols + 1) + q.column < (b.cols + 1) * (b.rows + 1) = mul-add-lt q.row (b.cols + 1) q.column (b.rows + 1) q.high q.wide in
    omega (arith, number_is b s q, place, rank_below s.heading)

-- a side is found by its number
pub side_at-number_of : (b : Extent) (s : Side) → IsPoint b s.x s.y → side_at b (number_of b s) ≡ s
side_at-number_of b s q =
    let w : ℕ = b.cols + 1 in
    let place : ℕ = q.row * w + q.column in
    let r : ℕ = rank_of s.heading in
    let n : ℕ = place * 4 + r in
    let whole : n / 4 ≡ place = div-mul-add place 4 r (rank_below s.heading) in
    let column : n / 4 % w ≡ q.column = ap (λ k. k % w) whole ∙ mod-mul-add q.row w q.column q.wide in
    let row : n / 4 / w ≡ q.row = ap (λ k. k / w) whole ∙ div-mul-add q.row w q.column q.wide in
    let rank : n % 4 ≡ r = mod-mul-add place 4 r (rank_below s.heading) in
    let x : b.x0 +ℤ pos q.column ≡ s.x = omega (arith, ints, q.x_is) in
    let y : b.y0 +ℤ pos q.row ≡ s.y = omega (arith, ints, q.y_is) in
    ap (side_at b) (number_is b s q)
    ∙ ap (λ k. side_of (b.x0 +ℤ pos k) (b.y0 +ℤ pos (n / 4 / w)) (heading_of (n % 4))) column
    ∙ ap (λ k. side_of (b.x0 +ℤ pos q.column) (b.y0 +ℤ pos k) (heading_of (n % 4))) row
    ∙ ap (λ k. side_of (b.x0 +ℤ pos q.column) (b.y0 +ℤ pos q.row) (heading_of k)) rank
    ∙ ap (λ z. side_of z (b.y0 +ℤ pos q.row) (heading_of r)) x
    ∙ ap (λ z. side_of s.x z (heading_of r)) y
    ∙ ap (side_of s.x s.y) (heading_of-rank_of s.heading)

pub rank_of-heading_of : (n : ℕ) → n < 4 → rank_of (heading_of n) ≡ n
rank_of-heading_of zero h = refl
rank_of-heading_of (suc zero) h = refl
rank_of-heading_of (suc (suc zero)) h = refl
rank_of-heading_of (suc (suc (suc zero))) h = refl
rank_of-heading_of (suc (suc (suc (suc n)))) h = absurd (omega arith)

apart_from : (z : ℤ) (n : ℕ) → unsigned_abs (z +ℤ pos n -ℤ z) ≡ n
apart_from z n = let e : z +ℤ pos n -ℤ z ≡ pos n = omega (arith, ints) in ap unsigned_abs e

-- a number is that of the side that it stands for
pub number_of-side_at : (b : Extent) (k : ℕ) → number_of b (side_at b k) ≡ k
number_of-side_at b k =
    let w : ℕ = b.cols + 1 in
    let row : ℕ = k / 4 / w in
    let column : ℕ = k / 4 % w in
    ap (λ j. (j * w + unsigned_abs (b.x0 +ℤ pos column -ℤ b.x0)) * 4 + rank_of (heading_of (k % 4))) (apart_from b.y0 row)
    ∙ ap (λ i. (row * w + i) * 4 + rank_of (heading_of (k % 4))) (apart_from b.x0 column)
    ∙ ap (λ r. (row * w + column) * 4 + r) (rank_of-heading_of (k % 4) (mod_below k 4 (omega arith)))
    ∙ ap (λ j. j * 4 + k % 4) (div-add-mod' (k / 4) w)
    ∙ div-add-mod' k 4

pub point_of : (p : Cells) (s : Side) → is_side p s ≡ true → IsPoint p.bounds s.x s.y
point_of p s h = leaves_point p s.x s.y s.heading h

-- the steps from side to side permute the numbers of the boundary sides
pub next_permutes : (p : Cells) → Permutes (stands p) (next_number p) (side_count p.bounds)
next_permutes p = record {
  below = λ k h. ltb-true _ _ (and_parts _ _ h).0;
  stays = λ k h.
      let s : Side = next_side p (side_at p.bounds k) in
      let side : is_side p s ≡ true = next_is_side p (side_at p.bounds k) (and_parts _ _ h).1 in
      let q : IsPoint p.bounds s.x s.y = point_of p s side in
      and_from _ _ (lt-ltb _ _ (number_below p.bounds s q)) (ap (is_side p) (side_at-number_of p.bounds s q) ∙ side);
  apart = λ j k hj hk e.
      let s : Side = next_side p (side_at p.bounds j) in
      let t : Side = next_side p (side_at p.bounds k) in
      let sj : is_side p (side_at p.bounds j) ≡ true = (and_parts _ _ hj).1 in
      let sk : is_side p (side_at p.bounds k) ≡ true = (and_parts _ _ hk).1 in
      let qs : IsPoint p.bounds s.x s.y = point_of p s (next_is_side p (side_at p.bounds j) sj) in
      let qt : IsPoint p.bounds t.x t.y = point_of p t (next_is_side p (side_at p.bounds k) sk) in
      let same : s ≡ t = sym (side_at-number_of p.bounds s qs) ∙ ap (side_at p.bounds) e ∙ side_at-number_of p.bounds t qt in
      sym (number_of-side_at p.bounds j) ∙ ap (number_of p.bounds) (next_apart p (side_at p.bounds j) (side_at p.bounds k) sj sk same) ∙ number_of-side_at p.bounds k;
}

-- the next side starts in a point of the box
pub next_point : (p : Cells) (s : Side) → is_side p s ≡ true → IsPoint p.bounds (next_side p s).x (next_side p s).y
next_point p s h = point_of p (next_side p s) (next_is_side p s h)
