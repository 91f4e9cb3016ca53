use Rattle.std.proofs.Common.{◌≡◌, ◌≤ℤ◌, ℤ, ℕ, pos, ◌<◌, ◌≤◌, List, [], ◌∷◌, subst, sym, FitsSigned, w32, arith}
use Rattle.std.specs.List.{All}
use Rattle.std.proofs.lemmas.Int.{ints, to_z-of_z}
use Rattle.std.proofs.lemmas.List.Elements.{All-cons, All-nil}
use Rattle.pl_grid.specs.NearStrokes.{IsNearStroke}
use Rattle.pl_grid.specs.Strokes.{turned_back}
use Rattle.pl_grid.specs.declared.stroke.Stroke.{Stroke}
use Rattle.pl_tower.specs.Tower.{row_stroke, row_of}
use Rattle.pl_tower.proofs.tower.tower_block.Goals as goal

near_row : (x y : ℤ) (width change k : ℕ) → pos 0 ≤ℤ x → x ≤ℤ pos 2500 → pos 0 ≤ℤ y → y ≤ℤ pos 2500 → width ≤ 2500 → change < 4 → k < 4 → IsNearStroke (row_stroke x width (row_of y change k))
near_row x y width change k column_low column_high row_low row_high narrow few less = record {
  x0 = record { low = omega (arith, ints); high = omega (arith, ints) };
  y0 = record { low = omega (arith, ints); high = omega (arith, ints) };
  x1 = record { low = omega (arith, ints); high = omega (arith, ints) };
  y1 = record { low = omega (arith, ints); high = omega (arith, ints) };
  short = omega (arith, ints);
}

near_turned : (s : Stroke) → IsNearStroke s → IsNearStroke (turned_back s)
near_turned s near = record {
  x0 = near.x1;
  y0 = near.y1;
  x1 = near.x0;
  y1 = near.y0;
  short = let short = near.short in omega (arith, ints, short);
}

all_near : (a b c d : Stroke) (strokes : List Stroke) → strokes ≡ a ∷ b ∷ c ∷ d ∷ [] → IsNearStroke a → IsNearStroke b → IsNearStroke c → IsNearStroke d → All IsNearStroke strokes
all_near a b c d strokes is near_a near_b near_c near_d =
    subst (All IsNearStroke) (sym is)
    (All-cons IsNearStroke a (b ∷ c ∷ d ∷ []) near_a
    (All-cons IsNearStroke b (c ∷ d ∷ []) near_b
    (All-cons IsNearStroke c (d ∷ []) near_c
    (All-cons IsNearStroke d [] near_d (All-nil IsNearStroke)))))

pub returns-clause-near : goal.returns-clause-near
returns-clause-near c =
    let fits_x : FitsSigned w32 c.args.x = c.ranges.x in
    let fits_y : FitsSigned w32 c.args.y = c.ranges.y in
    let row = λ (k : ℕ) (less : k < 4). near_row c.args.x c.args.y c.args.width c.args.change k c.requires.column_low c.requires.column_high c.requires.row_low c.requires.row_high c.requires.width c.requires.change less in
    all_near c.there.result c.back.result c.there-2.result c.back-2.result _ c.in_ok-from_slice.ensures.items
    (subst IsNearStroke (sym (simp to_z-of_z at c.there.ensures)) (row 0 (omega arith)))
    (subst IsNearStroke (sym (simp to_z-of_z at c.back.ensures)) (near_turned _ (row 1 (omega arith))))
    (subst IsNearStroke (sym (simp to_z-of_z at c.there-2.ensures)) (row 2 (omega arith)))
    (subst IsNearStroke (sym (simp to_z-of_z at c.back-2.ensures)) (near_turned _ (row 3 (omega arith))))
