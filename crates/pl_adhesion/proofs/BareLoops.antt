-- A plane has no loop exactly where it has no filled cell.
use Rattle.std.proofs.Common.{◌≡◌, inl, inr, ℤ, ℕ, zero, suc, pos, ◌+ℤ◌, ◌-ℤ◌, ◌==◌, Bool, true, false, List, [], ◌∷◌, cond, length, map, refl, sym, ◌∙◌, ap, arith}
use Rattle.std.specs.List.{filter, flat_map, count_by, range_with_len}
use Rattle.std.proofs.lemmas.Bool.{cases_Bool, and_from, and_left, and_right, not_from_false}
use Rattle.std.proofs.lemmas.Int.{ints}
use Rattle.std.proofs.lemmas.List.{length-map}
use Rattle.pl_grid.specs.Planes.{Cells, filled}
use Rattle.pl_rings.specs.declared.side.Heading.{Heading}
use Rattle.pl_rings.specs.declared.side.Heading.TheVariants.{East, North, West, South}
use Rattle.pl_rings.specs.declared.side.Side.{Side}
use Rattle.pl_rings.specs.Cycles.{cycle_of, is_least}
use Rattle.pl_rings.specs.Headings.{leaves}
use Rattle.pl_rings.specs.Sides.{around, is_side, number_of, side_at, side_count, stands, next_number, side_cycles, corners_of, loops_of}
use Rattle.pl_rings.proofs.EdgeLaws.{cycles_partition_sides}
use Rattle.pl_rings.proofs.SideNumbers.{IsIn, filled_in}
use Rattle.pl_adhesion.specs.Bed.{IsBare}
use Rattle.pl_adhesion.proofs.Descending.{nothing}

-- ---- a filled cell has a side below it, or below a cell under it

lower_side : (p : Cells) (x y : ℤ) → filled p x y ≡ true → filled p x (y -ℤ pos 1) ≡ false → (s : Side) × (is_side p s ≡ true)
lower_side p x y here below = (record { x = x; y = y; heading = East }, and_from _ _ here (not_from_false _ below))

side_under : (p : Cells) (x y : ℤ) (j : ℕ) → y ≡ p.bounds.y0 +ℤ pos j → filled p x y ≡ true → (s : Side) × (is_side p s ≡ true)
side_under p x y zero e h =
    elim (cases_Bool (filled p x (y -ℤ pos 1))) [
      | inl below ↦ let i : IsIn p.bounds x (y -ℤ pos 1) = filled_in p x (y -ℤ pos 1) below in absurd (omega (arith, ints, e, i.y_is))
      | inr none ↦ lower_side p x y h none
    ]
side_under p x y (suc j) e h =
    elim (cases_Bool (filled p x (y -ℤ pos 1))) [
      | inl below ↦ side_under p x (y -ℤ pos 1) j (omega (arith, ints, e)) below
      | inr none ↦ lower_side p x y h none
    ]

-- a plane with a filled cell has a loop
pub loops_some : (p : Cells) (x y : ℤ) → filled p x y ≡ true → loops_of p ≡ [] → ⊥
loops_some p x y h none =
    let i : IsIn p.bounds x y = filled_in p x y h in
    let w : (s : Side) × (is_side p s ≡ true) = side_under p x y i.row i.y_is h in
    let count : length (side_cycles p) ≡ 0 = sym (length-map (side_cycles p) (λ ks. corners_of (map (side_at p.bounds) ks))) ∙ ap length none in
    let once : count_by (λ k. k == number_of p.bounds w.0) (flat_map (λ ks. ks) (side_cycles p)) ≡ 1 = (cycles_partition_sides p).once w.0 w.1 in
    let never : 1 ≡ 0 = sym once ∙ ap (λ cs. count_by (λ k. k == number_of p.bounds w.0) (flat_map (λ ks. ks) cs)) (nothing (side_cycles p) count) in
    absurd (omega (arith, never))

-- ---- a plane without cells has no side

bare_side : (p : Cells) (x y : ℤ) (h : Heading) → IsBare p → leaves (around p x y) h ≡ false
bare_side p x y East bare = and_left _ _ (bare x y)
bare_side p x y North bare = and_left _ _ (bare (x -ℤ pos 1) y)
bare_side p x y West bare = and_left _ _ (bare (x -ℤ pos 1) (y -ℤ pos 1))
bare_side p x y South bare = and_left _ _ (bare x (y -ℤ pos 1))

filter_none : (t : ℕ → Bool) (xs : List ℕ) → ((x : ℕ) → t x ≡ false) → filter t xs ≡ []
filter_none t [] h = refl
filter_none t (x ∷ xs) h = ap (λ b. cond b (x ∷ filter t xs) (filter t xs)) (h x) ∙ filter_none t xs h

pub loops_none : (p : Cells) → IsBare p → loops_of p ≡ []
loops_none p bare =
    ap (λ ks. map (λ cs. corners_of (map (side_at p.bounds) cs)) (map (cycle_of (next_number p) (side_count p.bounds)) ks))
    (filter_none (is_least (stands p) (next_number p) (side_count p.bounds)) (range_with_len 0 (side_count p.bounds)) (λ k.
    and_left _ _ (and_right _ _ (bare_side p (side_at p.bounds k).x (side_at p.bounds k).y (side_at p.bounds k).heading bare))))
