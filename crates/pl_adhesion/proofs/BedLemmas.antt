-- The filled cells of a plane put on the bed one after another.
use Rattle.std.proofs.Common.{◌≡◌, ℤ, ℕ, pos, ◌+ℤ◌, ◌-ℤ◌, ◌≤ℤ◌, unsigned_abs, ◌+◌, ◌*◌, ◌<◌, Bool, true, false, ◌&&◌, ◌||◌, cond, refl, sym, ◌∙◌, ap, arith}
use Rattle.std.specs.Ordering.{int_eq}
use Rattle.std.proofs.Math.Bool.{or-false}
use Rattle.std.proofs.lemmas.Bool.Decides.{Decides-int_eq, same_from_decides, Decides-like}
use Rattle.std.proofs.lemmas.Int.{ints}
use Rattle.pl_grid.specs.Extent.{Extent, IsExtent, IsNear}
use Rattle.pl_grid.specs.Planes.{Cells, filled, is_inside, plane_of, with_cell, IsFull}
use Rattle.pl_grid.proofs.PlaneLemmas.{is_plane_of, filled_at, filled_in, same_tests}
use Rattle.pl_rings.proofs.SideNumbers.{IsIn, filled_in as filled_in_box}
use Rattle.pl_adhesion.specs.Bed.{bed_with, IsRoomFor}
use Rattle.pl_adhesion.proofs.Places.{IsPlace, inside_in, inside_from, front, front_none, front_all, front_more, front_skip}

-- the bed with the first k cells of a plane put on it
pub record IsPut (bed cells : Cells) (dx dy : ℤ) (k : ℕ) (now : Cells) : Type 0 where
  pub is : now ≡ bed_with bed (front k cells) dx dy

pub put_none : (bed cells : Cells) (dx dy : ℤ) → IsFull bed → IsPut bed cells dx dy 0 bed
put_none bed cells dx dy full = record {
  is =
      is_plane_of bed (λ x y. filled bed x y || filled (front 0 cells) (x -ℤ dx) (y -ℤ dy)) full (λ i j wide high.
      sym (ap (λ b. filled bed (bed.bounds.x0 +ℤ pos i) (bed.bounds.y0 +ℤ pos j) || b) (front_none cells (bed.bounds.x0 +ℤ pos i -ℤ dx) (bed.bounds.y0 +ℤ pos j -ℤ dy))
      ∙ or-false (filled bed (bed.bounds.x0 +ℤ pos i) (bed.bounds.y0 +ℤ pos j))
      ∙ filled_at bed (bed.bounds.x0 +ℤ pos i) (bed.bounds.y0 +ℤ pos j) i j wide high refl refl));
}

-- an empty cell changes nothing
pub put_skip : (bed cells : Cells) (dx dy : ℤ) (k : ℕ) (now : Cells) (x y : ℤ) → IsPut bed cells dx dy k now → k < cells.bounds.cols * cells.bounds.rows → IsPlace cells.bounds k x y → filled cells x y ≡ false → IsPut bed cells dx dy (k + 1) now
put_skip bed cells dx dy k now x y w less at empty =
    record {
      is =
          w.is
          ∙ same_tests bed.bounds (λ u v. filled bed u v || filled (front k cells) (u -ℤ dx) (v -ℤ dy)) (λ u v. filled bed u v || filled (front (k + 1) cells) (u -ℤ dx) (v -ℤ dy)) (λ i j wide high.
          ap (λ b. filled bed (bed.bounds.x0 +ℤ pos i) (bed.bounds.y0 +ℤ pos j) || b) (sym (front_skip cells x y (bed.bounds.x0 +ℤ pos i -ℤ dx) (bed.bounds.y0 +ℤ pos j -ℤ dy) k less at empty)));
    }

moved_test : (u x d : ℤ) → int_eq u (x +ℤ d) ≡ int_eq (u -ℤ d) x
moved_test u x d =
    same_from_decides _ _ (Decides-int_eq u (x +ℤ d)) (Decides-like _ (λ e. omega (arith, ints, e)) (λ e. omega (arith, ints, e)) (Decides-int_eq (u -ℤ d) x))

one_more : (here a b : Bool) → cond here true (a || b) ≡ (a || (b || (here && true)))
one_more true true b = refl
one_more true false true = refl
one_more true false false = refl
one_more false true b = refl
one_more false false true = refl
one_more false false false = refl

-- a filled cell is put where it is moved to
pub put_cell : (bed cells : Cells) (dx dy : ℤ) (k : ℕ) (now next : Cells) (x y mx my : ℤ) → IsPut bed cells dx dy k now → k < cells.bounds.cols * cells.bounds.rows → IsPlace cells.bounds k x y → filled cells x y ≡ true → mx ≡ x +ℤ dx → my ≡ y +ℤ dy → next ≡ with_cell now mx my true → IsPut bed cells dx dy (k + 1) next
put_cell bed cells dx dy k now next x y mx my w less at some ex ey e =
    let b = bed.bounds in
    let old : ℤ → ℤ → Bool = λ u v. filled bed u v || filled (front k cells) (u -ℤ dx) (v -ℤ dy) in
    let new : ℤ → ℤ → Bool = λ u v. filled bed u v || filled (front (k + 1) cells) (u -ℤ dx) (v -ℤ dy) in
    let step : (u v : ℤ) → cond (int_eq u (x +ℤ dx) && int_eq v (y +ℤ dy)) true (old u v) ≡ new u v = λ u v.
    ap (λ t. cond (t && int_eq v (y +ℤ dy)) true (old u v)) (moved_test u x dx)
    ∙ ap (λ t. cond (int_eq (u -ℤ dx) x && t) true (old u v)) (moved_test v y dy)
    ∙ one_more (int_eq (u -ℤ dx) x && int_eq (v -ℤ dy) y) (filled bed u v) (filled (front k cells) (u -ℤ dx) (v -ℤ dy))
    ∙ ap (λ t. filled bed u v || t) (sym (front_more cells x y (u -ℤ dx) (v -ℤ dy) k less at ∙ ap (λ t. filled (front k cells) (u -ℤ dx) (v -ℤ dy) || ((int_eq (u -ℤ dx) x && int_eq (v -ℤ dy) y) && t)) some)) in
    record {
      is =
          e
          ∙ ap (λ z. with_cell now z my true) ex
          ∙ ap (λ z. with_cell now (x +ℤ dx) z true) ey
          ∙ ap (λ p. with_cell p (x +ℤ dx) (y +ℤ dy) true) w.is
          ∙ same_tests b (λ u v. cond (int_eq u (x +ℤ dx) && int_eq v (y +ℤ dy)) true (filled (plane_of b old) u v)) new (λ i j wide high.
          ap (cond (int_eq (b.x0 +ℤ pos i) (x +ℤ dx) && int_eq (b.y0 +ℤ pos j) (y +ℤ dy)) true) (filled_in b old i j wide high)
          ∙ step (b.x0 +ℤ pos i) (b.y0 +ℤ pos j));
    }

pub put_all : (bed cells : Cells) (dx dy : ℤ) (k : ℕ) (now : Cells) → IsPut bed cells dx dy k now → IsFull cells → k ≡ cells.bounds.cols * cells.bounds.rows → now ≡ bed_with bed cells dx dy
put_all bed cells dx dy k now w full e = w.is ∙ ap (λ p. bed_with bed p dx dy) (front_all cells k full e)

-- a cell of a box is near the origin
pub inside_near : (b : Extent) (x y : ℤ) → IsExtent b → is_inside b x y ≡ true → IsNear x y
inside_near b x y e h =
    let i : IsIn b x y = inside_in b x y h in
    record { left = omega (arith, ints, i.x_is, i.wide, e.left); right = omega (arith, ints, i.x_is, i.wide, e.right, e.wide); bottom = omega (arith, ints, i.y_is, i.high, e.bottom); top = omega (arith, ints, i.y_is, i.high, e.top, e.high) }

-- there is room for a plane whose box, moved, lies in the bed's box
pub room_for_box : (cells : Cells) (dx dy : ℤ) (b : Extent) → b.x0 ≤ℤ (cells.bounds.x0 +ℤ dx) → b.y0 ≤ℤ (cells.bounds.y0 +ℤ dy) → (cells.bounds.x0 +ℤ dx +ℤ pos cells.bounds.cols) ≤ℤ (b.x0 +ℤ pos b.cols) → (cells.bounds.y0 +ℤ dy +ℤ pos cells.bounds.rows) ≤ℤ (b.y0 +ℤ pos b.rows) → IsRoomFor cells dx dy b
room_for_box cells dx dy b left bottom right top x y h =
    let i : IsIn cells.bounds x y = filled_in_box cells x y h in
    let column : ℕ = unsigned_abs (x +ℤ dx -ℤ b.x0) in
    let row : ℕ = unsigned_abs (y +ℤ dy -ℤ b.y0) in
    inside_from b (x +ℤ dx) (y +ℤ dy) (record {
      column = column;
      row = row;
      wide = omega (arith, ints, i.x_is, i.wide);
      high = omega (arith, ints, i.y_is, i.high);
      x_is = omega (arith, ints, i.x_is);
      y_is = omega (arith, ints, i.y_is);
    })
