-- The cells of the bed after some dilations are those that are so many steps away from a filled cell.
use Rattle.std.proofs.Common.{◌≡◌, ◌↔◌, ◌⊎◌, inl, inr, ℤ, ℕ, zero, suc, pos, negsuc, unsigned_abs, ◌+ℤ◌, ◌-ℤ◌, ◌+◌, ◌≤◌, true, refl, sym, ◌∙◌, ap, arith}
use Rattle.std.proofs.lemmas.Bool.{and_parts, and_from, or_cases, or_left, or_right}
use Rattle.std.proofs.lemmas.Int.{ints}
use Rattle.pl_grid.specs.Extent.{Extent, grown}
use Rattle.pl_grid.specs.Planes.{Cells, filled, is_inside, comes, widened}
use Rattle.pl_grid.proofs.PlaneLemmas.{filled-plane_of}
use Rattle.pl_rings.proofs.SideNumbers.{IsIn, filled_in}
use Rattle.pl_adhesion.specs.Brim.{spread, IsWithinSteps}
use Rattle.pl_adhesion.proofs.BrimLemmas.{same_box, widens_filled}
use Rattle.pl_adhesion.proofs.Places.{inside_from}

-- ---- one step nearer

abbrev far : ℤ → ℤ → ℤ → ℤ → ℕ
far x y u v = unsigned_abs (x -ℤ u) + unsigned_abs (y -ℤ v)

-- the cell or one of its neighbours is at most n steps away
abbrev IsNextTo : ℤ → ℤ → ℤ → ℤ → ℕ → Type 0
IsNextTo x y u v n = (far x y u v ≤ n) ⊎ ((far (x -ℤ pos 1) y u v ≤ n) ⊎ ((far (x +ℤ pos 1) y u v ≤ n) ⊎ ((far x (y -ℤ pos 1) u v ≤ n) ⊎ (far x (y +ℤ pos 1) u v ≤ n))))

nearer : (x y u v a b : ℤ) (n : ℕ) → x -ℤ u ≡ a → y -ℤ v ≡ b → far x y u v ≤ suc n → IsNextTo x y u v n
nearer x y u v (pos (suc i)) b n ex ey h = inr (inl (omega (arith, ints, ex)))
nearer x y u v (negsuc i) b n ex ey h = inr (inr (inl (omega (arith, ints, ex))))
nearer x y u v (pos zero) (pos (suc j)) n ex ey h = inr (inr (inr (inl (omega (arith, ints, ey)))))
nearer x y u v (pos zero) (negsuc j) n ex ey h = inr (inr (inr (inr (omega (arith, ints, ey)))))
nearer x y u v (pos zero) (pos zero) n ex ey h = inl (omega (arith, ints, ex, ey))

-- ---- from a ring to the next

further : (p : Cells) (n : ℕ) (x y x' y' : ℤ) → unsigned_abs (x -ℤ x') + unsigned_abs (y -ℤ y') ≤ 1 → IsWithinSteps p n x' y' → IsWithinSteps p (suc n) x y
further p n x y x' y' one (u, v, h, few) = (u, v, h, omega (arith, ints))

west : (x y : ℤ) → unsigned_abs (x -ℤ (x -ℤ pos 1)) + unsigned_abs (y -ℤ y) ≤ 1
west x y = omega (arith, ints)

east : (x y : ℤ) → unsigned_abs (x -ℤ (x +ℤ pos 1)) + unsigned_abs (y -ℤ y) ≤ 1
east x y = omega (arith, ints)

south : (x y : ℤ) → unsigned_abs (x -ℤ x) + unsigned_abs (y -ℤ (y -ℤ pos 1)) ≤ 1
south x y = omega (arith, ints)

north : (x y : ℤ) → unsigned_abs (x -ℤ x) + unsigned_abs (y -ℤ (y +ℤ pos 1)) ≤ 1
north x y = omega (arith, ints)

here : (x y : ℤ) → unsigned_abs (x -ℤ x) + unsigned_abs (y -ℤ y) ≤ 1
here x y = omega (arith, ints)

-- a cell that comes is a step away from one that was there
from_neighbour : (p q : Cells) (n : ℕ) (x y : ℤ) → ((u v : ℤ) → filled q u v ≡ true → IsWithinSteps p n u v) → comes q x y ≡ true → IsWithinSteps p (suc n) x y
from_neighbour p q n x y each h =
    elim (or_cases _ (filled q x (y +ℤ pos 1)) h) [
      | inr f ↦ further p n x y x (y +ℤ pos 1) (north x y) (each x (y +ℤ pos 1) f)
      | inl h1 ↦ elim (or_cases _ (filled q x (y -ℤ pos 1)) h1) [
        | inr f ↦ further p n x y x (y -ℤ pos 1) (south x y) (each x (y -ℤ pos 1) f)
        | inl h2 ↦ elim (or_cases _ (filled q (x +ℤ pos 1) y) h2) [
          | inr f ↦ further p n x y (x +ℤ pos 1) y (east x y) (each (x +ℤ pos 1) y f)
          | inl h3 ↦ elim (or_cases (filled q x y) (filled q (x -ℤ pos 1) y) h3) [
            | inr f ↦ further p n x y (x -ℤ pos 1) y (west x y) (each (x -ℤ pos 1) y f)
            | inl f ↦ further p n x y x y (here x y) (each x y f)
          ]
        ]
      ]
    ]

-- and a cell beside one that was there comes
to_neighbour : (q : Cells) (n : ℕ) (x y u v : ℤ) → ((x' y' : ℤ) → far x' y' u v ≤ n → filled q x' y' ≡ true) → IsNextTo x y u v n → comes q x y ≡ true
to_neighbour q n x y u v each (inl f) = or_left _ _ (or_left _ _ (or_left _ _ (or_left _ _ (each x y f))))
to_neighbour q n x y u v each (inr (inl f)) = or_left _ _ (or_left _ _ (or_left _ _ (or_right _ _ (each (x -ℤ pos 1) y f))))
to_neighbour q n x y u v each (inr (inr (inl f))) = or_left _ _ (or_left _ _ (or_right _ _ (each (x +ℤ pos 1) y f)))
to_neighbour q n x y u v each (inr (inr (inr (inl f)))) = or_left _ _ (or_right _ _ (each x (y -ℤ pos 1) f))
to_neighbour q n x y u v each (inr (inr (inr (inr f)))) = or_right _ _ (each x (y +ℤ pos 1) f)

-- ---- the rings of the bed

spread_within : (bed : Cells) (width j : ℕ) (x y : ℤ) → filled (spread width bed j) x y ≡ true → IsWithinSteps bed j x y
spread_within bed width zero x y h =
    (x, y, (and_parts (is_inside (grown width bed.bounds) x y) _ (sym (filled-plane_of (grown width bed.bounds) (filled bed) x y) ∙ h)).1, omega (arith, ints))
spread_within bed width (suc j) x y h =
    let q : Cells = spread width bed j in
    from_neighbour bed q j x y (spread_within bed width j) (and_parts (is_inside q.bounds x y) _ (sym (filled-plane_of q.bounds (comes q) x y) ∙ h)).1

room_around : (b : Extent) (width : ℕ) (x y u v : ℤ) → IsIn b u v → far x y u v ≤ width → IsIn (grown width b) x y
room_around b width x y u v i few = record {
  column = unsigned_abs (x -ℤ (b.x0 -ℤ pos width));
  row = unsigned_abs (y -ℤ (b.y0 -ℤ pos width));
  wide = omega (arith, ints, i.x_is, i.wide);
  high = omega (arith, ints, i.y_is, i.high);
  x_is = omega (arith, ints, i.x_is);
  y_is = omega (arith, ints, i.y_is);
}

within_spread : (bed : Cells) (width j : ℕ) (x y u v : ℤ) → j ≤ width → filled bed u v ≡ true → far x y u v ≤ j → filled (spread width bed j) x y ≡ true
within_spread bed width zero x y u v room h few =
    let ex : u ≡ x = omega (arith, ints) in
    let ey : v ≡ y = omega (arith, ints) in
    widens_filled width bed x y (ap (λ z. filled bed z y) (sym ex) ∙ ap (λ z. filled bed u z) (sym ey) ∙ h)
within_spread bed width (suc j) x y u v room h few =
    let q : Cells = spread width bed j in
    let inside : is_inside (grown width bed.bounds) x y ≡ true = inside_from (grown width bed.bounds) x y (room_around bed.bounds width x y u v (filled_in bed u v h) (omega arith)) in
    filled-plane_of q.bounds (comes q) x y
    ∙ and_from _ _ (ap (λ b. is_inside b x y) (same_box j (widened width bed)) ∙ inside)
    (to_neighbour q j x y u v (λ x' y' near. within_spread bed width j x' y' u v (omega arith) h near) (nearer x y u v (x -ℤ u) (y -ℤ v) j refl refl few))

-- the box is wide enough: after j dilations the cells are those at most j steps away
pub spread_is : (bed : Cells) (width j : ℕ) (x y : ℤ) → j ≤ width → (filled (spread width bed j) x y ≡ true) ↔ IsWithinSteps bed j x y
spread_is bed width j x y room = (spread_within bed width j x y, λ w. within_spread bed width j x y w.0 w.1 room w.2 w.3)
