-- The loops of a plane lie near the origin, and go along x or along y.
use Rattle.std.proofs.Common.{◌≡◌, ◌⊎◌, inl, inr, ℤ, ℕ, zero, suc, ◌+◌, ◌-◌, ◌==◌, Bool, true, false, if◌then◌else◌, List, [], ◌∷◌, ◌++◌, map, refl, sym, ◌∙◌, ap, subst, arith, add-one}
use Rattle.std.specs.List.{All, range_with_len, filter}
use Rattle.std.proofs.lemmas.Bool.{cases_Bool, and_parts, eqb-true}
use Rattle.std.proofs.lemmas.Int.{ints}
use Rattle.std.proofs.lemmas.List.Elements.{All-nil, All-cons, All-head, All-tail, All-map, All-weaker, filter_passes}
use Rattle.pl_grid.specs.Extent.{Extent, IsExtent}
use Rattle.pl_grid.specs.Planes.{Cells}
use Rattle.pl_grid.specs.declared.stroke.Corner.{Corner}
use Rattle.pl_rings.specs.declared.side.Heading.{Heading}
use Rattle.pl_rings.specs.declared.side.Heading.TheVariants.{East, North, West, South}
use Rattle.pl_rings.specs.declared.side.Side.{Side}
use Rattle.pl_rings.specs.Cycles.{steps, cycle_of, is_least}
use Rattle.pl_rings.specs.Sides.{next_side, end_x, end_y, rank_of, heading_of, side_at, side_count, stands, next_number, side_cycles, corners_after, corners_of, loops_of, IsPoint}
use Rattle.pl_rings.proofs.Finding.{cycle_is}
use Rattle.pl_rings.proofs.Iterates.{steps_count}
use Rattle.pl_rings.proofs.Partition.{Returns, returns_to}
use Rattle.pl_rings.proofs.SideLemmas.{heading_of-rank_of}
use Rattle.pl_rings.proofs.SideNumbers.{next_permutes, next_point, point_of, side_at-number_of}
use Rattle.pl_adhesion.specs.NearLoops.{IsNearCorner, GoesStraight, HasStraightSides, IsNearLoop}

abbrev start_corner : Side → Corner
start_corner s = record { x = s.x; y = s.y }

abbrev end_corner : Side → Corner
end_corner s = record { x = end_x s.x s.heading; y = end_y s.y s.heading }

-- ---- a way is straight from corner to corner

-- each side starts where the one before ends, from a corner to another
abbrev IsWay : Corner → List Side → Corner → Type 0
IsWay from [] to = from ≡ to
IsWay from (s ∷ ss) to = (start_corner s ≡ from) × IsWay (end_corner s) ss to

-- two corners lie on one line of this heading
abbrev AreOnLine : Heading → Corner → Corner → Type 0
AreOnLine East p q = p.y ≡ q.y
AreOnLine North p q = p.x ≡ q.x
AreOnLine West p q = p.y ≡ q.y
AreOnLine South p q = p.x ≡ q.x

along : (h : Heading) (p q : Corner) → AreOnLine h p q → (p.x ≡ q.x) ⊎ (p.y ≡ q.y)
along East p q e = inr e
along North p q e = inl e
along West p q e = inr e
along South p q e = inl e

further : (h : Heading) (p q r : Corner) → AreOnLine h p q → AreOnLine h q r → AreOnLine h p r
further East p q r e f = e ∙ f
further North p q r e f = e ∙ f
further West p q r e f = e ∙ f
further South p q r e f = e ∙ f

ends_on_line : (x y : ℤ) (h : Heading) → AreOnLine h (record { x = x; y = y }) (record { x = end_x x h; y = end_y y h })
ends_on_line x y East = refl
ends_on_line x y North = refl
ends_on_line x y West = refl
ends_on_line x y South = refl

same_heading : (h k : Heading) → (rank_of h == rank_of k) ≡ true → h ≡ k
same_heading h k e = sym (heading_of-rank_of h) ∙ ap heading_of (eqb-true _ _ e) ∙ heading_of-rank_of k

straight_way : (h : Heading) (from at to : Corner) (ss : List Side) → AreOnLine h from at → IsWay at ss to → GoesStraight from (corners_after h ss ++ to ∷ [])
straight_way h from at to [] on way = let P : Corner → Type 0 = λ z. AreOnLine h from z in (along h from to (subst P way on), tt)
straight_way h from at to (s ∷ ss) on way =
    let P : Corner → Type 0 = λ z. AreOnLine h from z in
    let here : AreOnLine h from (start_corner s) = subst P (sym way.0) on in
    let Q : Bool → Type 0 = λ b. GoesStraight from ((if b then corners_after s.heading ss else start_corner s ∷ corners_after s.heading ss) ++ to ∷ []) in
    elim (cases_Bool (rank_of h == rank_of s.heading)) [
      | inl same ↦
          let R : Heading → Type 0 = λ k. AreOnLine k from (start_corner s) in
          let on' : AreOnLine s.heading from (start_corner s) = subst R (same_heading h s.heading same) here in
          subst Q (sym same) (straight_way s.heading from (end_corner s) to ss (further s.heading from (start_corner s) (end_corner s) on' (ends_on_line s.x s.y s.heading)) way.1)
      | inr other ↦ subst Q (sym other) (along h from (start_corner s) here, straight_way s.heading (start_corner s) (end_corner s) to ss (ends_on_line s.x s.y s.heading) way.1)
    ]

round : (s : Side) (ss : List Side) → IsWay (start_corner s) (s ∷ ss) (start_corner s) → HasStraightSides (corners_of (s ∷ ss))
round s ss way = straight_way s.heading (start_corner s) (end_corner s) (start_corner s) ss (ends_on_line s.x s.y s.heading) way.1

-- ---- the sides of a cycle are such a way

ends_at_next : (p : Cells) (k : ℕ) → stands p k ≡ true → end_corner (side_at p.bounds k) ≡ start_corner (side_at p.bounds (next_number p k))
ends_at_next p k h = sym (ap start_corner (side_at-number_of p.bounds (next_side p (side_at p.bounds k)) (next_point p (side_at p.bounds k) (and_parts _ _ h).1)))

abbrev side_after : Cells → ℕ → ℕ → Side
side_after p k i = side_at p.bounds (steps (next_number p) i k)

abbrev sides_from : Cells → ℕ → ℕ → ℕ → List Side
sides_from p k a r = map (side_at p.bounds) (map (λ i. steps (next_number p) i k) (range_with_len a r))

way_of_steps : (p : Cells) (k a r : ℕ) → stands p k ≡ true → IsWay (start_corner (side_after p k a)) (sides_from p k a r) (start_corner (side_after p k (a + r)))
way_of_steps p k a zero h = let e : a ≡ a + 0 = omega arith in ap (λ i. start_corner (side_after p k i)) e
way_of_steps p k a (suc r) h =
    let on : end_corner (side_after p k a) ≡ start_corner (side_after p k (a + 1)) =
    ends_at_next p (steps (next_number p) a k) (steps_count (stands p) (next_number p) (side_count p.bounds) (next_permutes p) k h a)
    ∙ ap (λ i. start_corner (side_after p k i)) (sym (add-one a)) in
    let sum : a + 1 + r ≡ a + suc r = omega arith in
    let P : Corner → Type 0 = λ z. IsWay z (sides_from p k (a + 1) r) (start_corner (side_after p k (a + suc r))) in
    let Q : ℕ → Type 0 = λ n. IsWay (start_corner (side_after p k (a + 1))) (sides_from p k (a + 1) r) (start_corner (side_after p k n)) in
    (refl, subst P (sym on) (subst Q sum (way_of_steps p k (a + 1) r h)))

-- ---- the corners are near

near_start : (b : Extent) (s : Side) → IsExtent b → IsPoint b s.x s.y → IsNearCorner (start_corner s)
near_start b s e q = record {
  x = record { low = omega (arith, ints, e.left, q.x_is); high = omega (arith, ints, e.right, e.wide, q.wide, q.x_is) };
  y = record { low = omega (arith, ints, e.bottom, q.y_is); high = omega (arith, ints, e.top, e.high, q.high, q.y_is) };
}

abbrev StartsNear : Side → Type 0
StartsNear s = IsNearCorner (start_corner s)

near_if : (b : Bool) (c : Corner) (cs : List Corner) → IsNearCorner c → All IsNearCorner cs → All IsNearCorner (if b then cs else c ∷ cs)
near_if true c cs h hs = hs
near_if false c cs h hs = All-cons IsNearCorner c cs h hs

near_after : (h : Heading) (ss : List Side) → All StartsNear ss → All IsNearCorner (corners_after h ss)
near_after h [] near = All-nil IsNearCorner
near_after h (s ∷ ss) near =
    near_if (rank_of h == rank_of s.heading) (start_corner s) (corners_after s.heading ss) (All-head StartsNear s ss near) (near_after s.heading ss (All-tail StartsNear s ss near))

each : (P : ℕ → Type 0) (ks : List ℕ) → ((i : ℕ) → P i) → All P ks
each P ks h = λ k d less. h _

near_sides : (p : Cells) (k a r : ℕ) → IsExtent p.bounds → stands p k ≡ true → All StartsNear (sides_from p k a r)
near_sides p k a r e h =
    All-map StartsNear (side_at p.bounds) (map (λ i. steps (next_number p) i k) (range_with_len a r))
    (All-map (λ j. StartsNear (side_at p.bounds j)) (λ i. steps (next_number p) i k) (range_with_len a r)
    (each (λ i. StartsNear (side_after p k i)) (range_with_len a r) (λ i. near_start p.bounds (side_after p k i) e (point_of p (side_after p k i) (and_parts _ _ (steps_count (stands p) (next_number p) (side_count p.bounds) (next_permutes p) k h i)).1))))

-- ---- loops

near_cycle : (p : Cells) (k m : ℕ) → IsExtent p.bounds → stands p k ≡ true → steps (next_number p) (suc m) k ≡ k → IsNearLoop (corners_of (sides_from p k 0 (suc m)))
near_cycle p k m e h back =
    let sum : 0 + suc m ≡ suc m = omega arith in
    let P : ℕ → Type 0 = λ i. IsWay (start_corner (side_at p.bounds k)) (sides_from p k 0 (suc m)) (start_corner (side_at p.bounds i)) in
    let way : IsWay (start_corner (side_at p.bounds k)) (sides_from p k 0 (suc m)) (start_corner (side_at p.bounds k)) =
    subst P (ap (λ i. steps (next_number p) i k) sum ∙ back) (way_of_steps p k 0 (suc m) h) in
    let near : All StartsNear (sides_from p k 0 (suc m)) = near_sides p k 0 (suc m) e h in
    record {
      some = omega arith;
      near = All-cons IsNearCorner (start_corner (side_at p.bounds k)) (corners_after (side_at p.bounds k).heading (sides_from p k 1 m)) (All-head StartsNear (side_at p.bounds k) (sides_from p k 1 m) near) (near_after (side_at p.bounds k).heading (sides_from p k 1 m) (All-tail StartsNear (side_at p.bounds k) (sides_from p k 1 m) near));
      straight = round (side_at p.bounds k) (sides_from p k 1 m) way;
    }

near_loop : (p : Cells) (k : ℕ) → IsExtent p.bounds → stands p k ≡ true → IsNearLoop (corners_of (map (side_at p.bounds) (cycle_of (next_number p) (side_count p.bounds) k)))
near_loop p k e h =
    let next : ℕ → ℕ = next_number p in
    let n : ℕ = side_count p.bounds in
    let r : Returns next n k = returns_to (stands p) next n k (next_permutes p) h in
    let whole : suc (r.0 - 1) ≡ r.0 = omega (arith, r.2.some) in
    let P : ℕ → Type 0 = λ m. steps next m k ≡ k in
    let Q : ℕ → Type 0 = λ m. IsNearLoop (corners_of (sides_from p k 0 m)) in
    let R : List ℕ → Type 0 = λ ks. IsNearLoop (corners_of (map (side_at p.bounds) ks)) in
    subst R (sym (cycle_is next n k r.0 r.1 r.2)) (subst Q whole (near_cycle p k (r.0 - 1) e h (subst P (sym whole) r.2.back)))

-- the loops of a plane in a box are near
pub near_loops : (p : Cells) → IsExtent p.bounds → All IsNearLoop (loops_of p)
near_loops p e =
    let next : ℕ → ℕ = next_number p in
    let n : ℕ = side_count p.bounds in
    let least : List ℕ = filter (is_least (stands p) next n) (range_with_len 0 n) in
    All-map IsNearLoop (λ ks. corners_of (map (side_at p.bounds) ks)) (side_cycles p)
    (All-map (λ ks. IsNearLoop (corners_of (map (side_at p.bounds) ks))) (cycle_of next n) least
    (All-weaker (λ k. is_least (stands p) next n k ≡ true) (λ k. IsNearLoop (corners_of (map (side_at p.bounds) (cycle_of next n k))))
    (λ k h. near_loop p k e (and_parts _ _ h).0)
    least (filter_passes (is_least (stands p) next n) (range_with_len 0 n))))
