-- The rows that a facet spans: it misses all others.
use Rattle.std.proofs.Common.{◌≡◌, ℤ, ℕ, pos, ◌+ℤ◌, ◌-ℤ◌, ◌*ℤ◌, ◌*◌, ◌<◌, ◌≤◌, true, false, ◌&&◌, ◌||◌, not, min, arith, sym, ◌∙◌, ap, subst}
use Rattle.std.specs.Prelude.{nat_lt, int_lt, int_le}
use Rattle.std.specs.Int.{int_min, int_max}
use Rattle.std.proofs.lemmas.Int.{ints}
use Rattle.std.proofs.lemmas.Bool.Decides.{nat_tests}
use Rattle.pl_stl.specs.declared.mesh.Point3.{Point3}
use Rattle.pl_stl.specs.declared.mesh.Facet.{Facet}
use Rattle.pl_units.specs.Within.{Within}
use Rattle.pl_layers.specs.Near.{IsCloseFacet}
use Rattle.pl_layers.specs.Rows.{steps_below, misses_row}
use Rattle.pl_layers.specs.Slices.{cell_point}
use Rattle.pl_layers.proofs.Behind.{steps_below_is}
use Rattle.pl_layers.proofs.Extremes.{max_near, min_near}

-- ---- the ends of a facet are small numbers

pub least_close : (f : Facet) (y : ℤ) → IsCloseFacet f → y ≡ int_min (int_min f.a.y.0 f.b.y.0) f.c.y.0 → Within 1001000000 y
least_close f y h e = subst (λ (v : ℤ). Within 1001000000 v) (sym e) (min_near 1001000000 (int_min f.a.y.0 f.b.y.0) f.c.y.0 (min_near 1001000000 f.a.y.0 f.b.y.0 h.a.y h.b.y) h.c.y)

pub greatest_close : (f : Facet) (y : ℤ) → IsCloseFacet f → y ≡ int_max (int_max f.a.y.0 f.b.y.0) f.c.y.0 → Within 1001000000 y
greatest_close f y h e = subst (λ (v : ℤ). Within 1001000000 v) (sym e) (max_near 1001000000 (int_max f.a.y.0 f.b.y.0) f.c.y.0 (max_near 1001000000 f.a.y.0 f.b.y.0 h.a.y h.b.y) h.c.y)

-- ---- the rows before its least y, and those from its greatest on

counted : (n most j : ℕ) → n ≡ min most j → (i : ℕ) → i < n → nat_lt i j ≡ true
counted n most j e i h = grind (arith, nat_tests, e, h)

uncounted : (n most j : ℕ) → n ≡ min most j → (i : ℕ) → i < most → n ≤ i → nat_lt i j ≡ false
uncounted n most j e i h k = grind (arith, nat_tests, e, h, k)

row_before : (first y : ℤ) (j : ℕ) → int_lt (pos (j * 400000)) (y -ℤ first) ≡ true → int_lt (first +ℤ pos 400000 *ℤ pos j) y ≡ true
row_before first y j h = grind (arith, ints, nat_tests, h)

row_after : (first y : ℤ) (j : ℕ) → int_lt (pos (j * 400000)) (y -ℤ first) ≡ false → int_lt (first +ℤ pos 400000 *ℤ pos j) y ≡ false
row_after first y j h = grind (arith, ints, nat_tests, h)

-- a row among those below y has its middle below it
is_before : (first y : ℤ) (n most j : ℕ) → n ≡ min most (steps_below (y -ℤ first) 400000) → j < n → int_lt (first +ℤ pos 400000 *ℤ pos j) y ≡ true
is_before first y n most j en h = row_before first y j (sym (steps_below_is j 400000 (y -ℤ first) (omega arith)) ∙ counted n most (steps_below (y -ℤ first) 400000) en j h)

-- a row that is not has its middle at y or above
is_after : (first y : ℤ) (n most j : ℕ) → n ≡ min most (steps_below (y -ℤ first) 400000) → j < most → n ≤ j → int_lt (first +ℤ pos 400000 *ℤ pos j) y ≡ false
is_after first y n most j en h k = row_after first y j (sym (steps_below_is j 400000 (y -ℤ first) (omega arith)) ∙ uncounted n most (steps_below (y -ℤ first) 400000) en j h k)

all_above : (z a b c : ℤ) → int_lt z (int_min (int_min a b) c) ≡ true → ((int_le a z && int_le b z && int_le c z) || not (int_le a z || int_le b z || int_le c z)) ≡ true
all_above z a b c h = grind (arith, ints, nat_tests, h)

all_below : (z a b c : ℤ) → int_lt z (int_max (int_max a b) c) ≡ false → ((int_le a z && int_le b z && int_le c z) || not (int_le a z || int_le b z || int_le c z)) ≡ true
all_below z a b c h = grind (arith, ints, nat_tests, h)

-- a row below the least y of a facet's corners
pub missed_before : (corner : Point3) (f : Facet) (y : ℤ) (n most j : ℕ) → y ≡ int_min (int_min f.a.y.0 f.b.y.0) f.c.y.0 → n ≡ min most (steps_below (y -ℤ corner.y.0) 400000) → j < n → misses_row (cell_point corner (pos 0) (pos j)) f ≡ true
missed_before corner f y n most j ey en h = all_above (corner.y.0 +ℤ pos 400000 *ℤ pos j) f.a.y.0 f.b.y.0 f.c.y.0 (sym (ap (int_lt (corner.y.0 +ℤ pos 400000 *ℤ pos j)) ey) ∙ is_before corner.y.0 y n most j en h)

-- a row at the greatest or above
pub missed_after : (corner : Point3) (f : Facet) (y : ℤ) (n most j : ℕ) → y ≡ int_max (int_max f.a.y.0 f.b.y.0) f.c.y.0 → n ≡ min most (steps_below (y -ℤ corner.y.0) 400000) → j < most → n ≤ j → misses_row (cell_point corner (pos 0) (pos j)) f ≡ true
missed_after corner f y n most j ey en h k = all_below (corner.y.0 +ℤ pos 400000 *ℤ pos j) f.a.y.0 f.b.y.0 f.c.y.0 (sym (ap (int_lt (corner.y.0 +ℤ pos 400000 *ℤ pos j)) ey) ∙ is_after corner.y.0 y n most j en h k)
