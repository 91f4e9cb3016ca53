-- The rectangles of a skirt.
use Rattle.std.proofs.Common.{◌≡◌, ◌↔◌, ◌⊎◌, inl, inr, ℤ, ℕ, pos, ◌+ℤ◌, ◌-ℤ◌, ◌+◌, ◌≤◌, Bool, true, false, if◌then◌else◌, Some, None, List, [], ◌∷◌, ◌++◌, map, subst, refl, sym, ◌∙◌, ap, arith}
use Rattle.std.proofs.lemmas.Int.{ints}
use Rattle.std.proofs.lemmas.List.Elements.{All-nil, All-cons, All-push, All-same}
use Rattle.std.specs.List.{All}
use Rattle.pl_units.specs.Within.{Within}
use Rattle.pl_grid.specs.Planes.{Cells}
use Rattle.pl_grid.specs.declared.stroke.Corner.{Corner}
use Rattle.pl_adhesion.specs.declared.reach.Reach.{Reach}
use Rattle.pl_adhesion.specs.Bed.{IsBare}
use Rattle.pl_adhesion.specs.NearLoops.{IsNearCorner, IsNearLoop}
use Rattle.pl_adhesion.specs.Reach.{has_cell, reach_of, reach_if, IsNearReach}
use Rattle.pl_adhesion.specs.Skirt.{skirt_of, rectangle_round, corner}
use Rattle.pl_adhesion.proofs.Descending.{down_from, made_empty}

four : (p q r s : Corner) → IsNearCorner p → IsNearCorner q → IsNearCorner r → IsNearCorner s → All IsNearCorner (p ∷ q ∷ r ∷ s ∷ [])
four p q r s hp hq hr hs =
    let C : Corner → Type 0 = IsNearCorner in
    All-cons C p (q ∷ r ∷ s ∷ []) hp (All-cons C q (r ∷ s ∷ []) hq (All-cons C r (s ∷ []) hr (All-cons C s [] hs (All-nil C))))

-- a rectangle round what lies on the bed is near
pub near_rectangle : (n : ℕ) (r : Reach) → n ≤ 300 → IsNearReach r → IsNearLoop (rectangle_round n r)
near_rectangle n r small near =
    let x0 : ℤ = r.columns.least -ℤ pos n in
    let y0 : ℤ = r.rows.least -ℤ pos n in
    let x1 : ℤ = r.columns.greatest +ℤ pos (n + 1) in
    let y1 : ℤ = r.rows.greatest +ℤ pos (n + 1) in
    let left : Within 200000 x0 = record { low = omega (arith, ints); high = omega (arith, ints) } in
    let bottom : Within 200000 y0 = record { low = omega (arith, ints); high = omega (arith, ints) } in
    let right : Within 200000 x1 = record { low = omega (arith, ints); high = omega (arith, ints) } in
    let top : Within 200000 y1 = record { low = omega (arith, ints); high = omega (arith, ints) } in
    record {
      some = omega arith;
      near =
          four (corner x0 y0) (corner x1 y0) (corner x1 y1) (corner x0 y1)
          (record { x = left; y = bottom }) (record { x = right; y = bottom }) (record { x = right; y = top }) (record { x = left; y = top });
      straight = (inr refl, (inl refl, (inr refl, (inl refl, tt))));
    }

is_none : {X : Type 0} (b : Bool) (x : X) → None ≡ (if b then Some x else None) → b ≡ false
is_none true x e = cc
is_none false x e = refl

is_some : {X : Type 0} (b : Bool) (x y : X) → Some y ≡ (if b then Some x else None) → (b ≡ true) × (y ≡ x)
is_some true x y e = (refl, cc)
is_some false x y e = cc

-- no skirt where there is no cell
pub skirt_none : (bed : Cells) (distance count : ℕ) → None ≡ reach_if bed → [] ≡ skirt_of bed distance count
skirt_none bed distance count e =
    sym (ap (λ b. if b then map (λ j. rectangle_round (distance + 1 + j) (reach_of bed)) (down_from count) else []) (is_none (has_cell bed) (reach_of bed) e))

pub skirt_some : (bed : Cells) (distance count : ℕ) (r : Reach) → Some r ≡ reach_if bed → map (λ j. rectangle_round (distance + 1 + j) r) (down_from count) ≡ skirt_of bed distance count
skirt_some bed distance count r e =
    let both : (has_cell bed ≡ true) × (r ≡ reach_of bed) = is_some (has_cell bed) (reach_of bed) r e in
    ap (λ q. map (λ j. rectangle_round (distance + 1 + j) q) (down_from count)) both.1
    ∙ sym (ap (λ b. if b then map (λ j. rectangle_round (distance + 1 + j) (reach_of bed)) (down_from count) else []) both.0)

pub skirt_empty : (bed : Cells) (distance count : ℕ) (r : Reach) (found : List (List Corner)) → found ≡ map (λ j. rectangle_round (distance + 1 + j) r) (down_from count) → (IsBare bed → ⊥) → (found ≡ []) ↔ ((count ≡ 0) ⊎ IsBare bed)
skirt_empty bed distance count r found e some =
    let w : (found ≡ []) ↔ (count ≡ 0) = made_empty (λ j. rectangle_round (distance + 1 + j) r) count found e in
    (λ h. inl (w.0 h), λ h. elim h [ inl zero ↦ w.1 zero | inr bare ↦ absurd (some bare) ])

pub near_more : (old new : List (List Corner)) (x : List Corner) (n : ℕ) (r : Reach) → All IsNearLoop old → n ≤ 300 → IsNearReach r → x ≡ rectangle_round n r → new ≡ old ++ x ∷ [] → All IsNearLoop new
near_more old new x n r near small on is more =
    let last : IsNearLoop x = subst IsNearLoop (sym is) (near_rectangle n r small on) in
    All-same IsNearLoop new (old ++ x ∷ []) more (All-push IsNearLoop old x near last)
