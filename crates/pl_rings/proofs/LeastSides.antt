-- The least side of a loop is one of the starts.
use Rattle.std.proofs.Common.{◌≡◌, ℤ, pos, ◌+ℤ◌, ℕ, suc, ◌<◌, ◌≤◌, ◌+◌, ◌*◌, ◌-◌, Bool, true, false, not, nat_lt, ◌&&◌, ◌||◌, ◌==◌, inl, inr, refl, sym, ◌∙◌, ap, arith}
use Rattle.std.proofs.lemmas.Bool.{and_from, and_parts, both_ways, cases_Bool}
use Rattle.std.proofs.lemmas.Nat.{mul-add-lt}
use Rattle.std.proofs.lemmas.Int.{ints}
use Rattle.pl_grid.specs.Extent.{Extent}
use Rattle.pl_grid.specs.Planes.{Cells}
use Rattle.pl_rings.specs.declared.side.Heading.{Heading}
use Rattle.pl_rings.specs.declared.side.Heading.TheVariants.{East, North, West, South}
use Rattle.pl_rings.specs.declared.side.Side.{Side}
use Rattle.pl_rings.specs.Cycles.{steps, is_least}
use Rattle.pl_rings.specs.Headings.{Around, leaves, rises, turn}
use Rattle.pl_rings.specs.Sides.{around, is_side, end_x, end_y, next_side, side_at, side_count, number_of, rank_of, stands, next_number, IsPoint}
use Rattle.pl_rings.specs.Starts.{is_start, starts}
use Rattle.pl_rings.proofs.Iterates.{steps_count}
use Rattle.pl_rings.proofs.Partition.{Returns, returns_to, least_below}
use Rattle.pl_rings.proofs.SideLemmas.{arrives_at_end, from_or, next_is_side, side_of}
use Rattle.pl_rings.proofs.SideNumbers.{next_permutes, point_of, number_is, number_of-side_at}
use Rattle.pl_rings.proofs.EdgeLaws.{found_by_number}
use Rattle.pl_rings.proofs.Turns.{arrives, each, each_at, anywhere_at}

-- what follows a side that arrives is a start, or the one that arrives is less, or what follows that is
turn_starts : (a : Around) (h : Heading) → (not (arrives a h) || (is_start a (turn a h) || (rises h || not (rises (turn a h))))) ≡ true
turn_starts a h =
    each_at (λ k. not (arrives a k) || (is_start a (turn a k) || (rises k || not (rises (turn a k))))) h
    (anywhere_at (λ b. each (λ k. not (arrives b k) || (is_start b (turn b k) || (rises k || not (rises (turn b k)))))) a refl)

rank_small : (h : Heading) → rank_of h < 4
rank_small East = omega arith
rank_small North = omega arith
rank_small West = omega arith
rank_small South = omega arith

-- the side in the column before, or in the row below, is less
pub lower_x : (b : Extent) (t s : Side) → IsPoint b t.x t.y → IsPoint b s.x s.y → t.x +ℤ pos 1 ≡ s.x → t.y ≡ s.y → number_of b t < number_of b s
lower_x b t s qt qs ex ey =
    let column : qt.column + 1 ≡ qs.column = omega (arith, ints, qt.x_is, qs.x_is, ex) in
    let row : qt.row ≡ qs.row = omega (arith, ints, qt.y_is, qs.y_is, ey) in
    let rows : qt.row * (b.cols + 1) ≡ qs.row * (b.cols + 1) = ap (λ r. r * (b.cols + 1)) row in
    omega (arith, number_is b t qt, number_is b s qs, rows, column, rank_small t.heading)

pub lower_y : (b : Extent) (t s : Side) → IsPoint b t.x t.y → IsPoint b s.x s.y → t.y +ℤ pos 1 ≡ s.y → number_of b t < number_of b s
lower_y b t s qt qs ey =
    let row : qt.row + 1 ≡ qs.row = omega (arith, ints, qt.y_is, qs.y_is, ey) in
    let under : qt.row * (b.cols + 1) + qt.column < (b.cols + 1) * qs.row = mul-add-lt qt.row (b.cols + 1) qt.column qs.row (omega (arith, row)) qt.wide in
    omega (arith, number_is b t qt, number_is b s qs, under, rank_small t.heading)

pub rising_lower : (b : Extent) (x y : ℤ) (h : Heading) (s : Side) → IsPoint b x y → IsPoint b s.x s.y → end_x x h ≡ s.x → end_y y h ≡ s.y → rises h ≡ true → number_of b (side_of x y h) < number_of b s
rising_lower b x y East s qt qs ex ey r = lower_x b (side_of x y East) s qt qs ex ey
rising_lower b x y North s qt qs ex ey r = lower_y b (side_of x y North) s qt qs ey
rising_lower b x y West s qt qs ex ey r = absurd (both_ways false refl r)
rising_lower b x y South s qt qs ex ey r = absurd (both_ways false refl r)

pub falling_lower : (b : Extent) (x y : ℤ) (h : Heading) (n : Side) → IsPoint b n.x n.y → IsPoint b x y → n.x ≡ end_x x h → n.y ≡ end_y y h → rises h ≡ false → number_of b n < number_of b (side_of x y h)
falling_lower b x y East n qn qs ex ey r = absurd (both_ways true r refl)
falling_lower b x y North n qn qs ex ey r = absurd (both_ways true r refl)
falling_lower b x y West n qn qs ex ey r = lower_x b n (side_of x y West) qn qs (omega (arith, ints, ex)) ey
falling_lower b x y South n qn qs ex ey r = lower_y b n (side_of x y South) qn qs (omega (arith, ints, ey))

-- a side that is neither above the one before nor above the one after is a start
start_if_low : (p : Cells) (t : Side) → is_side p t ≡ true → number_of p.bounds (next_side p t) ≤ number_of p.bounds t → number_of p.bounds (next_side p t) ≤ number_of p.bounds (next_side p (next_side p t)) → is_start (around p (next_side p t).x (next_side p t).y) (next_side p t).heading ≡ true
start_if_low p t ht before after =
    let s : Side = next_side p t in
    let n : Side = next_side p s in
    let a : Around = around p s.x s.y in
    let hs : is_side p s ≡ true = next_is_side p t ht in
    let hn : is_side p n ≡ true = next_is_side p s hs in
    let coming : arrives a t.heading ≡ true = sym (arrives_at_end p t.x t.y t.heading) ∙ ht in
    let some : (is_start a s.heading || (rises t.heading || not (rises s.heading))) ≡ true = from_or _ _ (turn_starts a t.heading) coming in
    elim (cases_Bool (is_start a s.heading)) [
      | inl one ↦ one
      | inr none ↦ elim (cases_Bool (rises t.heading)) [
        | inl up ↦ absurd (omega (arith, before, rising_lower p.bounds t.x t.y t.heading s (point_of p t ht) (point_of p s hs) refl refl up))
        | inr down ↦ elim (cases_Bool (rises s.heading)) [
          | inl up ↦ absurd (both_ways _ (ap (λ b. b || (rises t.heading || not (rises s.heading))) none ∙ ap (λ b. b || not (rises s.heading)) down ∙ ap not up) some)
          | inr low ↦ absurd (omega (arith, after, falling_lower p.bounds s.x s.y s.heading n (point_of p n hn) (point_of p s hs) refl refl low))
        ]
      ]
    ]

-- the least side of a loop is a start
pub least_starts : (p : Cells) (k : ℕ) → is_least (stands p) (next_number p) (side_count p.bounds) k ≡ true → starts p k ≡ true
least_starts p k least =
    let n : ℕ = side_count p.bounds in
    let next : ℕ → ℕ = next_number p in
    let c : stands p k ≡ true = (and_parts _ _ least).0 in
    let r : Returns next n k = returns_to (stands p) next n k (next_permutes p) c in
    let q : ℕ = steps next (r.0 - 1) k in
    let whole : suc (r.0 - 1) ≡ r.0 = omega (arith, r.2.some) in
    let cq : stands p q ≡ true = steps_count (stands p) next n (next_permutes p) k c (r.0 - 1) in
    let nq : next q ≡ k = ap (λ m. steps next m k) whole ∙ r.2.back in
    let before : k ≤ q = least_below (stands p) next n k r.0 r.1 r.2 least (r.0 - 1) in
    let after : k ≤ next k = least_below (stands p) next n k r.0 r.1 r.2 least 1 in
    let t : Side = side_at p.bounds q in
    let ht : is_side p t ≡ true = (and_parts (nat_lt q n) (is_side p t) cq).1 in
    let s : Side = next_side p t in
    let is : s ≡ side_at p.bounds k = sym (found_by_number p s (next_is_side p t ht)) ∙ ap (side_at p.bounds) nq in
    let nt : number_of p.bounds t ≡ q = number_of-side_at p.bounds q in
    let after' : number_of p.bounds (next_side p s) ≡ next k = ap (λ z. number_of p.bounds (next_side p z)) is in
    let low = start_if_low p t ht (omega (arith, before, nt, nq)) (omega (arith, after, after', nq)) in
    and_from _ _ (and_parts _ _ c).0 (ap (λ z. is_start (around p z.x z.y) z.heading) (sym is) ∙ low)

-- a start is a side
pub start_leaves : (a : Around) (h : Heading) → (not (is_start a h) || leaves a h) ≡ true
start_leaves a h =
    each_at (λ k. not (is_start a k) || leaves a k) h
    (anywhere_at (λ b. each (λ k. not (is_start b k) || leaves b k)) a refl)

pub start_stands : (p : Cells) (k : ℕ) → starts p k ≡ true → stands p k ≡ true
start_stands p k h =
    let s : Side = side_at p.bounds k in
    let a : Around = around p s.x s.y in
    let parts = and_parts (nat_lt k (side_count p.bounds)) (is_start a s.heading) h in
    and_from (nat_lt k (side_count p.bounds)) (leaves a s.heading) parts.0 (from_or (is_start a s.heading) (leaves a s.heading) (start_leaves a s.heading) parts.1)

-- one point has at most one start
pub one_start : (a : Around) (h k : Heading) → (not (is_start a h && is_start a k) || rank_of h == rank_of k) ≡ true
one_start a h k =
    each_at (λ j. not (is_start a h && is_start a j) || rank_of h == rank_of j) k
    (each_at (λ i. each (λ j. not (is_start a i && is_start a j) || rank_of i == rank_of j)) h
    (anywhere_at (λ b. each (λ i. each (λ j. not (is_start b i && is_start b j) || rank_of i == rank_of j))) a refl))

-- what follows a side that arrives is a start exactly where the one falls and the other rises
abbrev falls_then_rises : Around → Heading → Bool
falls_then_rises a h = rises (turn a h) && not (rises h)

start_then : (a : Around) (h : Heading) → (not (arrives a h) || ((not (is_start a (turn a h)) || falls_then_rises a h) && (is_start a (turn a h) || not (falls_then_rises a h)))) ≡ true
start_then a h =
    each_at (λ k. not (arrives a k) || ((not (is_start a (turn a k)) || falls_then_rises a k) && (is_start a (turn a k) || not (falls_then_rises a k)))) h
    (anywhere_at (λ b. each (λ k. not (arrives b k) || ((not (is_start b (turn b k)) || falls_then_rises b k) && (is_start b (turn b k) || not (falls_then_rises b k))))) a refl)

same_tests : (b c : Bool) → ((not b || c) && (b || not c)) ≡ true → b ≡ c
same_tests true true h = refl
same_tests false false h = refl
same_tests true false h = absurd (both_ways false refl h)
same_tests false true h = absurd (both_ways false refl h)

pub start_after : (a : Around) (h : Heading) → arrives a h ≡ true → is_start a (turn a h) ≡ (rises (turn a h) && not (rises h))
start_after a h coming =
    same_tests (is_start a (turn a h)) (falls_then_rises a h)
    (from_or (arrives a h) ((not (is_start a (turn a h)) || falls_then_rises a h) && (is_start a (turn a h) || not (falls_then_rises a h))) (start_then a h) coming)
