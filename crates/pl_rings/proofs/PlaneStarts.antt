-- The starts of a plane, by points.
use Rattle.std.proofs.Common.{◌≡◌, pos, ◌+ℤ◌, ℕ, ◌<◌, ◌+◌, ◌*◌, ◌/◌, ◌%◌, Bool, true, false, not, ◌&&◌, ◌==◌, nat_lt, Some, None, refl, sym, ◌∙◌, ap, arith}
use Rattle.std.specs.declared.option.Option.{Option}
use Rattle.std.proofs.lemmas.Bool.{and_parts, and_from, lt-ltb, eqb-true}
use Rattle.std.proofs.lemmas.Int.{ints}
use Rattle.std.proofs.lemmas.Nat.{div-add-mod', mod_below}
use Rattle.pl_grid.specs.Extent.{Extent}
use Rattle.pl_grid.specs.Planes.{Cells}
use Rattle.pl_rings.specs.declared.side.Heading.{Heading}
use Rattle.pl_rings.specs.declared.side.Side.{Side}
use Rattle.pl_rings.specs.Headings.{Around, leaves}
use Rattle.pl_rings.specs.Sides.{around, is_side, side_at, side_count, heading_of, rank_of, number_of, stands, next_number, IsPoint}
use Rattle.pl_rings.specs.Starts.{is_start, starts, start_heading}
use Rattle.pl_rings.proofs.EdgeLaws.{found_by_number}
use Rattle.pl_rings.proofs.LeastSides.{one_start, least_starts, start_leaves, start_stands}
use Rattle.pl_rings.proofs.OpenPlaces.{ArePlaced, IsStartAt, not_true}
use Rattle.pl_rings.proofs.OpenStarts.{AreStarts}
use Rattle.pl_rings.proofs.SideLemmas.{side_of, from_or}
use Rattle.pl_rings.proofs.SideNumbers.{rank_of-heading_of, number_is, number_below, point_of, side_at-number_of}
use Rattle.pl_rings.proofs.Turns.{each, each_at}

pub plane_starts : (p : Cells) → AreStarts (stands p) (starts p) (next_number p) (side_count p.bounds)
plane_starts p = record { some = start_stands p; least = least_starts p }

-- a start is a side
pub start_is_side : (p : Cells) (s : Side) → is_start (around p s.x s.y) s.heading ≡ true → is_side p s ≡ true
start_is_side p s h =
    let a : Around = around p s.x s.y in
    from_or (is_start a s.heading) (leaves a s.heading) (start_leaves a s.heading) h

-- the number of a side is that of a start where the side is one
pub starts_number : (p : Cells) (s : Side) → is_side p s ≡ true → starts p (number_of p.bounds s) ≡ is_start (around p s.x s.y) s.heading
starts_number p s one =
    let k : ℕ = number_of p.bounds s in
    ap (λ t. t && is_start (around p (side_at p.bounds k).x (side_at p.bounds k).y) (side_at p.bounds k).heading) (lt-ltb _ _ (number_below p.bounds s (point_of p s one)))
    ∙ ap (λ z. is_start (around p z.x z.y) z.heading) (found_by_number p s one)

-- the number of a start is that of one
pub start_numbered : (p : Cells) (s : Side) → is_start (around p s.x s.y) s.heading ≡ true → starts p (number_of p.bounds s) ≡ true
start_numbered p s h = starts_number p s (start_is_side p s h) ∙ h

-- ---- a point by its column and row, counted from the box's corner

abbrev pub side_from : Extent → ℕ → ℕ → Heading → Side
side_from b column row h = side_of (b.x0 +ℤ pos column) (b.y0 +ℤ pos row) h

pub point_from : (b : Extent) (column row : ℕ) → column < b.cols + 1 → row < b.rows + 1 → IsPoint b (b.x0 +ℤ pos column) (b.y0 +ℤ pos row)
point_from b column row wide high = record { column = column; row = row; wide = wide; high = high; x_is = omega (arith, ints); y_is = omega (arith, ints) }

pub number_from : (b : Extent) (column row : ℕ) (h : Heading) → column < b.cols + 1 → row < b.rows + 1 → number_of b (side_from b column row h) ≡ (row * (b.cols + 1) + column) * 4 + rank_of h
unfolding point_from
number_from b column row h wide high = number_is b (side_from b column row h) (point_from b column row wide high)

pub side_there : (b : Extent) (column row : ℕ) (h : Heading) → column < b.cols + 1 → row < b.rows + 1 → side_at b ((row * (b.cols + 1) + column) * 4 + rank_of h) ≡ side_from b column row h
side_there b column row h wide high = ap (side_at b) (sym (number_from b column row h wide high)) ∙ side_at-number_of b (side_from b column row h) (point_from b column row wide high)

starts_at : (p : Cells) (column row r : ℕ) → column < p.bounds.cols + 1 → row < p.bounds.rows + 1 → r < 4 → starts p ((row * (p.bounds.cols + 1) + column) * 4 + r) ≡ is_start (around p (p.bounds.x0 +ℤ pos column) (p.bounds.y0 +ℤ pos row)) (heading_of r)
starts_at p column row r wide high less =
    let b : Extent = p.bounds in
    let k : ℕ = (row * (b.cols + 1) + column) * 4 + r in
    let s : Side = side_from b column row (heading_of r) in
    let rank : rank_of (heading_of r) ≡ r = rank_of-heading_of r less in
    let there : side_at b k ≡ s = ap (λ i. side_at b ((row * (b.cols + 1) + column) * 4 + i)) (sym rank) ∙ side_there b column row (heading_of r) wide high in
    let within : k < side_count b = omega (arith, number_below b s (point_from b column row wide high), number_from b column row (heading_of r) wide high, rank) in
    ap (λ t. t && is_start (around p (side_at b k).x (side_at b k).y) (side_at b k).heading) (lt-ltb _ _ within)
    ∙ ap (λ z. is_start (around p z.x z.y) z.heading) there

none_at : (a : Around) (has : ℕ → Bool) (q : ℕ) → ((r : ℕ) → r < 4 → has (q * 4 + r) ≡ is_start a (heading_of r)) → each (λ h. not (is_start a h)) ≡ true → IsStartAt has q None
none_at a has q e h = λ r less. e r less ∙ not_true (is_start a (heading_of r)) (each_at (λ k. not (is_start a k)) (heading_of r) h)

abbrev cells : Bool → Bool → Bool → Bool → Around
cells a b c d = record { northeast = a; northwest = b; southwest = c; southeast = d }

-- the number of the start at a place, by its heading
abbrev pub numbered : ℕ → Option Heading → Option ℕ
numbered q None = None
numbered q (Some h) = Some (q * 4 + rank_of h)

found_at : (has : ℕ → Bool) (q : ℕ) (ne nw sw se : Bool) → ((r : ℕ) → r < 4 → has (q * 4 + r) ≡ is_start (cells ne nw sw se) (heading_of r)) → IsStartAt has q (numbered q (start_heading (cells ne nw sw se)))
found_at has q false false sw se e = none_at (cells false false sw se) has q e refl
found_at has q false true sw false e = none_at (cells false true sw false) has q e refl
found_at has q false true sw true e = (1, omega arith, refl, e 1 (omega arith))
found_at has q true true sw se e = none_at (cells true true sw se) has q e refl
found_at has q true false true se e = none_at (cells true false true se) has q e refl
found_at has q true false false true e = none_at (cells true false false true) has q e refl
found_at has q true false false false e = (0, omega arith, refl, e 0 (omega arith))

-- what the cells round a point say of the start there
pub start_found : (p : Cells) (column row : ℕ) → column < p.bounds.cols + 1 → row < p.bounds.rows + 1 → IsStartAt (starts p) (row * (p.bounds.cols + 1) + column) (numbered (row * (p.bounds.cols + 1) + column) (start_heading (around p (p.bounds.x0 +ℤ pos column) (p.bounds.y0 +ℤ pos row))))
start_found p column row wide high =
    let a : Around = around p (p.bounds.x0 +ℤ pos column) (p.bounds.y0 +ℤ pos row) in
    found_at (starts p) (row * (p.bounds.cols + 1) + column) a.northeast a.northwest a.southwest a.southeast (λ r less. starts_at p column row r wide high less)

-- a side by its place and rank
abbrev side_by : Extent → ℕ → ℕ → Side
side_by b i r = record { x = b.x0 +ℤ pos (i % (b.cols + 1)); y = b.y0 +ℤ pos (i / (b.cols + 1)); heading = heading_of r }

-- a point has at most one start
pub plane_placed : (p : Cells) → ArePlaced (starts p)
plane_placed p = record {
  alone = λ j k hj hk e.
      let b : Extent = p.bounds in
      let s : Side = side_at b j in
      let t : Side = side_at b k in
      let a : Around = around p s.x s.y in
      let pj : is_start a s.heading ≡ true = (and_parts (nat_lt j (side_count b)) (is_start a s.heading) hj).1 in
      let pk : is_start (around p t.x t.y) t.heading ≡ true = (and_parts (nat_lt k (side_count b)) (is_start (around p t.x t.y) t.heading) hk).1 in
      let same : is_start (around p t.x t.y) t.heading ≡ is_start a t.heading = ap (λ i. is_start (around p (side_by b i 0).x (side_by b i 0).y) t.heading) (sym e) in
      let both : (is_start a s.heading && is_start a t.heading) ≡ true = and_from (is_start a s.heading) (is_start a t.heading) pj (sym same ∙ pk) in
      let ranks : rank_of s.heading ≡ rank_of t.heading = eqb-true _ _ (from_or (is_start a s.heading && is_start a t.heading) (rank_of s.heading == rank_of t.heading) (one_start a s.heading t.heading) both) in
      let small : k % 4 ≡ j % 4 = sym (rank_of-heading_of (k % 4) (mod_below k 4 (omega arith))) ∙ sym ranks ∙ rank_of-heading_of (j % 4) (mod_below j 4 (omega arith)) in
      sym (div-add-mod' j 4) ∙ ap (λ i. i * 4 + j % 4) e ∙ ap (λ r. k / 4 * 4 + r) (sym small) ∙ div-add-mod' k 4;
}
