-- The cells of a plane one after another, in row order.
use Rattle.std.proofs.Common.{◌≡◌, inl, inr, ℤ, ℕ, zero, suc, pos, negsuc, ◌+ℤ◌, ◌-ℤ◌, ◌+◌, ◌*◌, ◌/◌, ◌%◌, ◌<◌, ◌≤◌, Bool, true, false, ◌&&◌, ◌||◌, Some, None, List, get_or, take, is_some, refl, sym, ◌∙◌, ap, arith}
use Rattle.std.specs.declared.option.Option.{Option}
use Rattle.std.specs.Ordering.{int_eq}
use Rattle.std.proofs.Math.Bool.{or-false}
use Rattle.std.proofs.lemmas.Bool.{cases_lt, cases_order, cases_Bool, both_ways, and_parts, and_from}
use Rattle.std.proofs.lemmas.Bool.Decides.{nat_tests, Decides-int_eq}
use Rattle.std.proofs.lemmas.Int.{ints}
use Rattle.std.proofs.lemmas.List.{get_or-take, get_or_past, length-take, take_all}
use Rattle.std.proofs.lemmas.Nat.{div-mul-add, mod-mul-add, div-add-mod', div_below, mod_below}
use Rattle.pl_grid.specs.Extent.{Extent, offset_in, place_at, place_of}
use Rattle.pl_grid.specs.Planes.{Cells, value_at, filled, is_inside, plane_of, IsFull}
use Rattle.pl_grid.proofs.PlaneLemmas.{filled-plane_of}
use Rattle.pl_rings.proofs.SideNumbers.{IsIn, filled_in}

-- the cell x y is the k-th of the box
pub record IsPlace (b : Extent) (k : ℕ) (x y : ℤ) : Type 0 where
  pub x_is : x ≡ b.x0 +ℤ pos (k % b.cols)
  pub y_is : y ≡ b.y0 +ℤ pos (k / b.cols)

-- the cell with a number, by a box that is the same
pub place_from : (b e : Extent) (k : ℕ) (x y : ℤ) → b ≡ e → x ≡ b.x0 +ℤ pos (k % b.cols) → y ≡ b.y0 +ℤ pos (k / b.cols) → IsPlace e k x y
place_from b e k x y same ex ey = record {
  x_is = ex ∙ ap (λ c. c.x0 +ℤ pos (k % c.cols)) same;
  y_is = ey ∙ ap (λ c. c.y0 +ℤ pos (k / c.cols)) same;
}

-- how many cells the same box has
pub same_count : (b e : Extent) (n : ℕ) → b ≡ e → n ≡ b.cols * b.rows → n ≡ e.cols * e.rows
same_count b e n same h = h ∙ ap (λ c. c.cols * c.rows) same

offset_below : (n i : ℕ) → i < n → offset_in n (pos i) ≡ Some i
offset_below n i h = grind (arith, nat_tests)

offset_past : (n i : ℕ) → n ≤ i → offset_in n (pos i) ≡ None
offset_past n i h = grind (arith, nat_tests)

none_some : (k : ℕ) (o : Option ℕ) → o ≡ None → o ≡ Some k → ⊥
none_some k o e h = cc

no_row : (cols : ℕ) (i : Option ℕ) → place_at cols i None ≡ None
no_row cols None = refl
no_row cols (Some i) = refl

some_is : (m k : ℕ) (o : Option ℕ) → o ≡ Some m → o ≡ Some k → m ≡ k
some_is m k o e h = cc

place_in : (b : Extent) (x y : ℤ) (i j k : ℕ) → b.x0 +ℤ pos i ≡ x → b.y0 +ℤ pos j ≡ y → i < b.cols → k ≡ j * b.cols + i → IsPlace b k x y
place_in b x y i j k ex ey wide e = record {
  x_is = sym ex ∙ ap (λ n. b.x0 +ℤ pos n) (sym (ap (λ n. n % b.cols) e ∙ mod-mul-add j b.cols i wide));
  y_is = sym ey ∙ ap (λ n. b.y0 +ℤ pos n) (sym (ap (λ n. n / b.cols) e ∙ div-mul-add j b.cols i wide));
}

from_offsets : (b : Extent) (x y u v : ℤ) (k : ℕ) → b.x0 +ℤ u ≡ x → b.y0 +ℤ v ≡ y → place_at b.cols (offset_in b.cols u) (offset_in b.rows v) ≡ Some k → IsPlace b k x y
from_offsets b x y (pos i) (pos j) k ex ey h =
    elim (cases_lt i b.cols) [
      | inl wide ↦ elim (cases_lt j b.rows) [
        | inl high ↦
            let here : place_at b.cols (offset_in b.cols (pos i)) (offset_in b.rows (pos j)) ≡ Some (j * b.cols + i) = rw (offset_below b.cols i wide, offset_below b.rows j high) refl in
            place_in b x y i j k ex ey wide (sym (some_is _ _ _ here h))
        | inr past ↦ absurd (none_some k _ (ap (place_at b.cols (offset_in b.cols (pos i))) (offset_past b.rows j past) ∙ no_row b.cols (offset_in b.cols (pos i))) h)
      ]
      | inr past ↦ absurd (none_some k _ (ap (λ o. place_at b.cols o (offset_in b.rows (pos j))) (offset_past b.cols i past)) h)
    ]
from_offsets b x y (pos i) (negsuc j) k ex ey h = absurd (none_some k _ (no_row b.cols (offset_in b.cols (pos i))) h)
from_offsets b x y (negsuc i) v k ex ey h = absurd (none_some k _ refl h)

-- the cell with a number, where the box has it
pub place_some : (b : Extent) (x y : ℤ) (k : ℕ) → place_of b x y ≡ Some k → IsPlace b k x y
place_some b x y k h = from_offsets b x y (x -ℤ b.x0) (y -ℤ b.y0) k (omega (arith, ints)) (omega (arith, ints)) h

some_columns : (cols rows k : ℕ) → k < cols * rows → 0 < cols
some_columns zero rows k h = absurd (omega arith)
some_columns (suc n) rows k h = omega arith

-- and the number of a cell
pub place_is : (b : Extent) (x y : ℤ) (k : ℕ) → k < b.cols * b.rows → IsPlace b k x y → place_of b x y ≡ Some k
place_is b x y k less at =
    let some : 0 < b.cols = some_columns b.cols b.rows k less in
    let ox : x -ℤ b.x0 ≡ pos (k % b.cols) = omega (arith, ints, at.x_is) in
    let oy : y -ℤ b.y0 ≡ pos (k / b.cols) = omega (arith, ints, at.y_is) in
    ap (λ z. place_at b.cols (offset_in b.cols z) (offset_in b.rows (y -ℤ b.y0))) ox
    ∙ ap (λ z. place_at b.cols (offset_in b.cols (pos (k % b.cols))) (offset_in b.rows z)) oy
    ∙ ap (λ o. place_at b.cols o (offset_in b.rows (pos (k / b.cols)))) (offset_below b.cols (k % b.cols) (mod_below k b.cols some))
    ∙ ap (place_at b.cols (Some (k % b.cols))) (offset_below b.rows (k / b.cols) (div_below k b.cols b.rows some (omega arith)))
    ∙ ap Some (div-add-mod' k b.cols)

-- the value of the k-th cell
pub filled_place : (p : Cells) (x y : ℤ) (k : ℕ) → k < p.bounds.cols * p.bounds.rows → IsPlace p.bounds k x y → filled p x y ≡ get_or p.cells k false
filled_place p x y k less at = ap (value_at p.cells) (place_is p.bounds x y k less at)

-- a cell that is inside lies in a column and a row of the box
pub inside_in : (b : Extent) (x y : ℤ) → is_inside b x y ≡ true → IsIn b x y
inside_in b x y h = filled_in (plane_of b (λ _ _. true)) x y (filled-plane_of b (λ _ _. true) x y ∙ ap (λ t. t && true) h)

-- and the other way round
pub inside_from : (b : Extent) (x y : ℤ) → IsIn b x y → is_inside b x y ≡ true
inside_from b x y i =
    let ox : x -ℤ b.x0 ≡ pos i.column = omega (arith, ints, i.x_is) in
    let oy : y -ℤ b.y0 ≡ pos i.row = omega (arith, ints, i.y_is) in
    ap (λ z. is_some (place_at b.cols (offset_in b.cols z) (offset_in b.rows (y -ℤ b.y0)))) ox
    ∙ ap (λ z. is_some (place_at b.cols (offset_in b.cols (pos i.column)) (offset_in b.rows z))) oy
    ∙ ap (λ o. is_some (place_at b.cols o (offset_in b.rows (pos i.row)))) (offset_below b.cols i.column i.wide)
    ∙ ap (λ o. is_some (place_at b.cols (Some i.column) o)) (offset_below b.rows i.row i.high)

-- ---- the first cells

-- the plane in which the first k cells alone may be filled
abbrev pub front : ℕ → Cells → Cells
front k p = record { bounds = p.bounds; cells = take k p.cells }

no_value : (o : Option ℕ) (cells : List Bool) → value_at (take 0 cells) o ≡ false
no_value None cells = refl
no_value (Some k) cells = get_or_past (take 0 cells) k false (omega (arith, length-take 0 cells))

pub front_none : (p : Cells) (x y : ℤ) → filled (front 0 p) x y ≡ false
front_none p x y = no_value (place_of p.bounds x y) p.cells

pub front_all : (p : Cells) (k : ℕ) → IsFull p → k ≡ p.bounds.cols * p.bounds.rows → front k p ≡ p
front_all p k full e = ap (λ cells. record { bounds = p.bounds; cells = cells }) (take_all k p.cells (omega (arith, full)))

other_value : (cells : List Bool) (o : Option ℕ) (k : ℕ) → (o ≡ Some k → ⊥) → value_at (take (k + 1) cells) o ≡ value_at (take k cells) o
other_value cells None k other = refl
other_value cells (Some m) k other =
    elim (cases_order m k) [
      | inl same ↦ absurd (other (ap Some same))
      | inr (inl less) ↦ get_or-take (k + 1) cells m false (omega arith) ∙ sym (get_or-take k cells m false less)
      | inr (inr past) ↦ get_or_past (take (k + 1) cells) m false (omega (arith, length-take (k + 1) cells)) ∙ sym (get_or_past (take k cells) m false (omega (arith, length-take k cells)))
    ]

-- the k-th cell comes to the first k
pub front_more : (p : Cells) (x y u v : ℤ) (k : ℕ) → k < p.bounds.cols * p.bounds.rows → IsPlace p.bounds k x y → filled (front (k + 1) p) u v ≡ (filled (front k p) u v || ((int_eq u x && int_eq v y) && filled p x y))
front_more p x y u v k less at =
    elim (cases_Bool (int_eq u x && int_eq v y)) [
      | inl here ↦
          let eu : u ≡ x = (Decides-int_eq u x).0 (and_parts (int_eq u x) (int_eq v y) here).0 in
          let ev : v ≡ y = (Decides-int_eq v y).0 (and_parts (int_eq u x) (int_eq v y) here).1 in
          let now : filled (front (k + 1) p) x y ≡ filled p x y = ap (value_at (take (k + 1) p.cells)) (place_is p.bounds x y k less at) ∙ get_or-take (k + 1) p.cells k false (omega arith) ∙ sym (filled_place p x y k less at) in
          let before : filled (front k p) x y ≡ false = ap (value_at (take k p.cells)) (place_is p.bounds x y k less at) ∙ get_or_past (take k p.cells) k false (omega (arith, length-take k p.cells)) in
          ap (λ z. filled (front (k + 1) p) z v) eu
          ∙ ap (λ z. filled (front (k + 1) p) x z) ev
          ∙ now
          ∙ sym (ap (λ b. filled (front k p) u v || (b && filled p x y)) here ∙ ap (λ z. filled (front k p) z v || filled p x y) eu ∙ ap (λ z. filled (front k p) x z || filled p x y) ev ∙ ap (λ b. b || filled p x y) before)
      | inr there ↦
          let apart : place_of p.bounds u v ≡ Some k → ⊥ = λ h.
          let q : IsPlace p.bounds k u v = place_some p.bounds u v k h in
          both_ways _ there (and_from _ _ ((Decides-int_eq u x).1 (q.x_is ∙ sym at.x_is)) ((Decides-int_eq v y).1 (q.y_is ∙ sym at.y_is))) in
          other_value p.cells (place_of p.bounds u v) k apart
          ∙ sym (ap (λ b. filled (front k p) u v || (b && filled p x y)) there ∙ or-false (filled (front k p) u v))
    ]

or_none : (a b : Bool) → (a || (b && false)) ≡ a
or_none true b = refl
or_none false true = refl
or_none false false = refl

-- where it is empty, that changes nothing
pub front_skip : (p : Cells) (x y u v : ℤ) (k : ℕ) → k < p.bounds.cols * p.bounds.rows → IsPlace p.bounds k x y → filled p x y ≡ false → filled (front (k + 1) p) u v ≡ filled (front k p) u v
front_skip p x y u v k less at empty =
    front_more p x y u v k less at
    ∙ ap (λ b. filled (front k p) u v || ((int_eq u x && int_eq v y) && b)) empty
    ∙ or_none (filled (front k p) u v) (int_eq u x && int_eq v y)
