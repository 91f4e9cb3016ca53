-- The loops of a plane, found from their starts point by point.
use Rattle.std.proofs.Common.{◌≡◌, inl, inr, zero, suc, ◌≤◌, ◌-◌, ℤ, pos, ◌+ℤ◌, ◌-ℤ◌, ◌≤ℤ◌, neg_ℤ, to_z, of_z, w32, ℕ, ◌<◌, ◌+◌, ◌*◌, Bool, true, false, Some, None, List, [], ◌∷◌, ◌++◌, map, length, replicate, refl, sym, ◌∙◌, ap, subst, arith, nat_lt}
use Rattle.std.specs.declared.option.Option.{Option}
use Rattle.std.proofs.lemmas.Bool.{and_parts, cases_Bool}
use Rattle.std.proofs.lemmas.Int.{ints}
use Rattle.std.proofs.lemmas.List.{map-append, length-replicate}
use Rattle.std.proofs.lemmas.Nat.{mul-add-lt}
use Rattle.pl_grid.specs.Extent.{Extent}
use Rattle.pl_grid.specs.Planes.{Cells, filled}
use Rattle.pl_grid.specs.declared.stroke.Corner.{Corner}
use Rattle.pl_rings.specs.declared.side.Heading.{Heading}
use Rattle.pl_rings.specs.Headings.{Around}
use Rattle.pl_rings.specs.Cycles.{Permutes, cycle_of, is_marked, GoesRound}
use Rattle.pl_rings.specs.Search.{cycles_below, free_start}
use Rattle.pl_rings.specs.Sides.{around, side_at, side_count, number_of, rank_of, stands, next_number, loops_of}
use Rattle.pl_rings.specs.Starts.{HasNoStarts, is_start, start_heading, starts}
use Rattle.pl_rings.specs.Traces.{LoopTraced, LoopsBefore, loop_of}
use Rattle.pl_rings.proofs.OpenPlaces.{AtPlace, IsStartAt, place_first, place_none, place_marked, place_more}
use Rattle.pl_rings.proofs.OpenStarts.{AreStarts, FoundOpen}
use Rattle.pl_rings.proofs.PlaneStarts.{numbered, plane_placed, plane_starts, side_from, number_from, side_there, start_found}
use Rattle.pl_rings.proofs.RunEnds.{plain}
use Rattle.pl_rings.proofs.SideLemmas.{side_of}
use Rattle.pl_rings.proofs.SideNumbers.{next_permutes}

-- ---- loops by the cycles of numbers

abbrev PlaneAt : Cells → ℕ → ℕ → List (List ℕ) → List Bool → Type 0
PlaneAt p places place cycles marks = AtPlace (stands p) (starts p) (next_number p) places place cycles marks

abbrev before_place : Cells → ℕ → List (List ℕ)
before_place p place = cycles_below (stands p) (next_number p) (side_count p.bounds) (place * 4)

cycles_at : (p : Cells) (place : ℕ) (found : List (List Corner)) (marks : List Bool) → LoopsBefore p place found marks → PlaneAt p (length marks) place (before_place p place) marks
cycles_at p place found marks w =
    let P : ℕ → Type 0 = λ n. FoundOpen (stands p) (starts p) (next_number p) n (place * 4) (before_place p place) (free_start (starts p) marks) in
    record { size = refl; search = subst P (sym w.size) (record { cycles = refl; marks = w.open_too }) }

loops_at : (p : Cells) (places place : ℕ) (cycles : List (List ℕ)) (found : List (List Corner)) (marks : List Bool) → places * 4 ≡ side_count p.bounds → PlaneAt p places place cycles marks → found ≡ map (loop_of p) cycles → LoopsBefore p place found marks
loops_at p places place cycles found marks e a l =
    let P : ℕ → Type 0 = λ n. FoundOpen (stands p) (starts p) (next_number p) n (place * 4) cycles (free_start (starts p) marks) in
    let f : FoundOpen (stands p) (starts p) (next_number p) (side_count p.bounds) (place * 4) cycles (free_start (starts p) marks) = subst P e a.search in
    record { size = ap (λ n. n * 4) a.size ∙ e; loops = l ∙ ap (map (loop_of p)) f.cycles; open_too = f.marks }

sides_permute : (p : Cells) (places : ℕ) → places * 4 ≡ side_count p.bounds → Permutes (stands p) (next_number p) (places * 4)
sides_permute p places e = let P : ℕ → Type 0 = λ n. Permutes (stands p) (next_number p) n in subst P (sym e) (next_permutes p)

sides_start : (p : Cells) (places : ℕ) → places * 4 ≡ side_count p.bounds → AreStarts (stands p) (starts p) (next_number p) (places * 4)
sides_start p places e = let P : ℕ → Type 0 = λ n. AreStarts (stands p) (starts p) (next_number p) n in subst P (sym e) (plane_starts p)

pub loops_first : (p : Cells) (places : ℕ) (marks : List Bool) → places * 4 ≡ side_count p.bounds → marks ≡ replicate places false → LoopsBefore p 0 [] marks
loops_first p places marks e m =
    loops_at p places 0 [] [] marks e (place_first (stands p) (starts p) (next_number p) places marks (ap length m ∙ length-replicate places false) m) refl

loops_none : (p : Cells) (place : ℕ) (found : List (List Corner)) (marks : List Bool) → LoopsBefore p place found marks → IsStartAt (starts p) place None → LoopsBefore p (place + 1) found marks
loops_none p place found marks w none =
    let places : ℕ = length marks in
    loops_at p places (place + 1) (before_place p place) found marks w.size
    (place_none (stands p) (starts p) (next_number p) places place (before_place p place) marks (sides_permute p places w.size) (sides_start p places w.size) (cycles_at p place found marks w) none)
    w.loops

loops_marked : (p : Cells) (place : ℕ) (found : List (List Corner)) (marks : List Bool) → LoopsBefore p place found marks → is_marked marks place ≡ true → LoopsBefore p (place + 1) found marks
loops_marked p place found marks w met =
    let places : ℕ = length marks in
    loops_at p places (place + 1) (before_place p place) found marks w.size
    (place_marked (stands p) (starts p) (next_number p) places place (before_place p place) marks (sides_permute p places w.size) (sides_start p places w.size) (cycles_at p place found marks w) met)
    w.loops

loops_more : (p : Cells) (place k : ℕ) (found : List (List Corner)) (old new : List Bool) (corners : List Corner) → LoopsBefore p place found old → IsStartAt (starts p) place (Some k) → is_marked old place ≡ false → length new ≡ length old → LoopTraced p k old new corners → LoopsBefore p (place + 1) (found ++ corners ∷ []) new
loops_more p place k found old new corners w s fresh size t =
    let places : ℕ = length old in
    let before : List (List ℕ) = before_place p place in
    let cycle : List ℕ = cycle_of (next_number p) (side_count p.bounds) k in
    let P : ℕ → Type 0 = λ n. GoesRound (next_number p) k n cycle in
    loops_at p places (place + 1) (before ++ cycle ∷ []) (found ++ corners ∷ []) new w.size
    (place_more (stands p) (starts p) (next_number p) places place k before old new cycle (sides_permute p places w.size) (sides_start p places w.size) (plane_placed p) (cycles_at p place found old w) s fresh size (subst P (sym w.size) t.round) t.closes)
    (ap (λ c. found ++ c ∷ []) t.corners ∙ ap (λ f. f ++ loop_of p cycle ∷ []) w.loops ∙ sym (map-append (loop_of p) before (cycle ∷ [])))

pub loops_last : (p : Cells) (place : ℕ) (found : List (List Corner)) (marks : List Bool) → LoopsBefore p place found marks → place * 4 ≡ side_count p.bounds → found ≡ loops_of p
loops_last p place found marks w e = w.loops ∙ ap (λ n. map (loop_of p) (cycles_below (stands p) (next_number p) (side_count p.bounds) n)) e

-- ---- a row of points

abbrev pub column_x : Extent → ℕ → ℤ
column_x b column = b.x0 +ℤ pos column

abbrev pub row_y : Extent → ℕ → ℤ
row_y b row = b.y0 +ℤ pos row

abbrev pub place_in : Extent → ℕ → ℕ → ℕ
place_in b row column = row * (b.cols + 1) + column

row_after : (row wide : ℕ) → (row + 1) * wide ≡ row * wide + wide
row_after row wide = grind arith

-- the place of the next column
next_in : (p : Cells) (row column : ℕ) (found : List (List Corner)) (marks : List Bool) → LoopsBefore p (place_in p.bounds row column + 1) found marks → LoopsBefore p (place_in p.bounds row (column + 1)) found marks
next_in p row column found marks w =
    let P : ℕ → Type 0 = λ n. LoopsBefore p n found marks in
    let place : place_in p.bounds row column + 1 ≡ place_in p.bounds row (column + 1) = omega arith in
    subst P place w

-- what is found at a point
at_point : (p : Cells) (row column : ℕ) (start : Option Heading) → column < p.bounds.cols + 1 → row < p.bounds.rows + 1 → start ≡ start_heading (around p (column_x p.bounds column) (row_y p.bounds row)) → IsStartAt (starts p) (place_in p.bounds row column) (numbered (place_in p.bounds row column) start)
at_point p row column start wide high e =
    let P : Option Heading → Type 0 = λ o. IsStartAt (starts p) (place_in p.bounds row column) (numbered (place_in p.bounds row column) o) in
    subst P (sym e) (start_found p column row wide high)

-- the heading found at a point is that of a start
point_starts : (p : Cells) (row column : ℕ) (h : Heading) → column < p.bounds.cols + 1 → row < p.bounds.rows + 1 → Some h ≡ start_heading (around p (column_x p.bounds column) (row_y p.bounds row)) → is_start (around p (column_x p.bounds column) (row_y p.bounds row)) h ≡ true
point_starts p row column h wide high e =
    let k : ℕ = place_in p.bounds row column * 4 + rank_of h in
    let one : starts p k ≡ true = (at_point p row column (Some h) wide high e).3 in
    ap (λ s. is_start (around p s.x s.y) s.heading) (sym (side_there p.bounds column row h wide high))
    ∙ (and_parts (nat_lt k (side_count p.bounds)) (is_start (around p (side_at p.bounds k).x (side_at p.bounds k).y) (side_at p.bounds k).heading) one).1

-- x and y are those of the point
pub record IsAt (p : Cells) (row column : ℕ) (x y : ℤ) : Type 0 where
  pub wide : column < p.bounds.cols + 1
  pub high : row < p.bounds.rows + 1
  pub x_is : x ≡ column_x p.bounds column
  pub y_is : y ≡ row_y p.bounds row

pub is_at : (p : Cells) (b : Extent) (row column cols : ℕ) (x y : ℤ) → b ≡ p.bounds → cols ≡ p.bounds.cols → column < cols + 1 → row < p.bounds.rows + 1 → x ≡ column_x b column → neg_ℤ (pos 100000) ≤ℤ x → x ≤ℤ pos 100000 → y ≡ row_y b row → neg_ℤ (pos 100000) ≤ℤ y → y ≤ℤ pos 100000 → IsAt p row column (to_z w32 (of_z w32 x)) (to_z w32 (of_z w32 y))
is_at p b row column cols x y e wide_is wide high ex left right ey bottom top = record {
  wide = omega (arith, wide, wide_is);
  high = high;
  x_is = plain x left right ∙ ex ∙ ap (λ z. column_x z column) e;
  y_is = plain y bottom top ∙ ey ∙ ap (λ z. row_y z row) e;
}

around_there : (p : Cells) (row column : ℕ) (x y : ℤ) → IsAt p row column x y → around p x y ≡ around p (column_x p.bounds column) (row_y p.bounds row)
around_there p row column x y a = ap (λ z. around p z y) a.x_is ∙ ap (around p (column_x p.bounds column)) a.y_is

start_there : (p : Cells) (row column : ℕ) (x y : ℤ) (start : Option Heading) → IsAt p row column x y → start ≡ start_heading (around p x y) → start ≡ start_heading (around p (column_x p.bounds column) (row_y p.bounds row))
start_there p row column x y start a e = e ∙ ap start_heading (around_there p row column x y a)

-- the heading found at a point is that of a start
pub side_starts : (p : Cells) (row column : ℕ) (x y : ℤ) (h : Heading) → IsAt p row column x y → Some h ≡ start_heading (around p x y) → is_start (around p x y) h ≡ true
side_starts p row column x y h a e =
    ap (λ r. is_start r h) (around_there p row column x y a) ∙ point_starts p row column h a.wide a.high (start_there p row column x y (Some h) a e)

pub row_none : (p : Cells) (row column : ℕ) (x y : ℤ) (found : List (List Corner)) (marks : List Bool) → LoopsBefore p (place_in p.bounds row column) found marks → IsAt p row column x y → None ≡ start_heading (around p x y) → LoopsBefore p (place_in p.bounds row (column + 1)) found marks
row_none p row column x y found marks w a none =
    next_in p row column found marks
    (loops_none p (place_in p.bounds row column) found marks w (at_point p row column None a.wide a.high (start_there p row column x y None a none)))

pub row_marked : (p : Cells) (row column : ℕ) (found : List (List Corner)) (marks : List Bool) → LoopsBefore p (place_in p.bounds row column) found marks → is_marked marks (place_in p.bounds row column) ≡ true → LoopsBefore p (place_in p.bounds row (column + 1)) found marks
row_marked p row column found marks w met =
    next_in p row column found marks (loops_marked p (place_in p.bounds row column) found marks w met)

pub row_more : (p : Cells) (row column : ℕ) (x y : ℤ) (h : Heading) (found : List (List Corner)) (old new : List Bool) (corners : List Corner) → LoopsBefore p (place_in p.bounds row column) found old → IsAt p row column x y → Some h ≡ start_heading (around p x y) → is_marked old (place_in p.bounds row column) ≡ false → length new ≡ length old → LoopTraced p (number_of p.bounds (side_of x y h)) old new corners → LoopsBefore p (place_in p.bounds row (column + 1)) (found ++ corners ∷ []) new
row_more p row column x y h found old new corners w a some fresh size t =
    let place : ℕ = place_in p.bounds row column in
    let P : ℕ → Type 0 = λ k. LoopTraced p k old new corners in
    let side : side_of x y h ≡ side_from p.bounds column row h = ap (λ z. side_of z y h) a.x_is ∙ ap (λ z. side_of (column_x p.bounds column) z h) a.y_is in
    let number : number_of p.bounds (side_of x y h) ≡ place * 4 + rank_of h = ap (number_of p.bounds) side ∙ number_from p.bounds column row h a.wide a.high in
    next_in p row column (found ++ corners ∷ []) new
    (loops_more p place (place * 4 + rank_of h) found old new corners w (at_point p row column (Some h) a.wide a.high (start_there p row column x y (Some h) a some)) fresh size (subst P number t))

-- points without a start are passed over
pub row_skipped : (p : Cells) (row column n : ℕ) (found : List (List Corner)) (marks : List Bool) → row < p.bounds.rows + 1 → column + n ≤ p.bounds.cols + 1 → HasNoStarts p row column (column + n) → LoopsBefore p (place_in p.bounds row column) found marks → LoopsBefore p (place_in p.bounds row (column + n)) found marks
row_skipped p row column zero found marks high wide none w =
    let P : ℕ → Type 0 = λ k. LoopsBefore p (place_in p.bounds row k) found marks in
    let e : column ≡ column + 0 = omega arith in
    subst P e w
row_skipped p row column (suc n) found marks high wide none w =
    let P : ℕ → Type 0 = λ k. LoopsBefore p (place_in p.bounds row k) found marks in
    let e : column + 1 + n ≡ column + suc n = omega arith in
    subst P e (row_skipped p row (column + 1) n found marks high (omega (arith, wide)) (λ k low less. none k (omega (arith, low)) (omega (arith, less)))
    (next_in p row column found marks
    (loops_none p (place_in p.bounds row column) found marks w (at_point p row column None (omega (arith, wide)) high (none column (omega arith) (omega arith))))))

-- where the two cells above a point are alike, no start leaves it
no_start : (a : Around) → a.northeast ≡ a.northwest → None ≡ start_heading a
no_start a e = elim (cases_Bool a.northeast) [
  | inl here ↦ let west : a.northwest ≡ true = sym e ∙ here in rw (here, west) refl
  | inr here ↦ let west : a.northwest ≡ false = sym e ∙ here in rw (here, west) refl
]

-- the points between alike cells have no start
pub alike_starts : (p : Cells) (row column n : ℕ) → ((k : ℕ) → k < n → filled p (p.bounds.x0 +ℤ pos (column + k)) (row_y p.bounds row) ≡ filled p (p.bounds.x0 +ℤ pos column) (row_y p.bounds row)) → HasNoStarts p row (column + 1) (column + n)
alike_starts p row column n alike k low high =
    let x : ℤ = column_x p.bounds k in
    let east : column_x p.bounds k ≡ p.bounds.x0 +ℤ pos (column + (k - column)) = omega (arith, ints, low) in
    let west : column_x p.bounds k -ℤ pos 1 ≡ p.bounds.x0 +ℤ pos (column + (k - column - 1)) = omega (arith, ints, low) in
    no_start (around p x (row_y p.bounds row))
    (ap (λ z. filled p z (row_y p.bounds row)) east ∙ alike (k - column) (omega (arith, low, high))
    ∙ sym (ap (λ z. filled p z (row_y p.bounds row)) west ∙ alike (k - column - 1) (omega (arith, low, high))))

-- the place of a point has a mark
pub place_small : (p : Cells) (row column : ℕ) (found : List (List Corner)) (marks : List Bool) → LoopsBefore p (place_in p.bounds row column) found marks → column < p.bounds.cols + 1 → row < p.bounds.rows + 1 → place_in p.bounds row column < length marks
place_small p row column found marks w wide high =
    let within : row * (p.bounds.cols + 1) + column < (p.bounds.cols + 1) * (p.bounds.rows + 1) = mul-add-lt row (p.bounds.cols + 1) column (p.bounds.rows + 1) high wide in
    omega (arith, within, w.size)

pub row_last : (p : Cells) (row column : ℕ) (found : List (List Corner)) (marks : List Bool) → LoopsBefore p (place_in p.bounds row column) found marks → column ≡ p.bounds.cols + 1 → LoopsBefore p ((row + 1) * (p.bounds.cols + 1)) found marks
row_last p row column found marks w e =
    let P : ℕ → Type 0 = λ n. LoopsBefore p n found marks in
    let place : place_in p.bounds row column ≡ (row + 1) * (p.bounds.cols + 1) = ap (λ c. row * (p.bounds.cols + 1) + c) e ∙ sym (row_after row (p.bounds.cols + 1)) in
    subst P place w
