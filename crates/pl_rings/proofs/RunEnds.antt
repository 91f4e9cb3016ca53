-- A run of sides of one heading, a side at a time.
use Rattle.std.proofs.Common.{FitsSigned, w32, neg_ℤ, negsuc, ◌≤ℤ◌, ◌≡◌, ℤ, pos, to_z, of_z, ℕ, zero, suc, ◌<◌, ◌≤◌, ◌-◌, true, false, not, ◌&&◌, if◌then◌else◌, inl, inr, refl, sym, ◌∙◌, ap, subst, arith}
use Rattle.std.proofs.lemmas.Bool.{cases_eq}
use Rattle.std.proofs.lemmas.Int.{ints, to_z-of_z}
use Rattle.pl_grid.specs.Extent.{Extent, IsExtent, IsNear}
use Rattle.pl_grid.specs.Planes.{Cells}
use Rattle.pl_rings.specs.declared.side.Heading.{Heading}
use Rattle.pl_rings.specs.declared.side.Heading.TheVariants.{East, North, West, South}
use Rattle.pl_rings.specs.declared.side.Side.{Side}
use Rattle.pl_rings.specs.Headings.{Around, leaves, rises}
use Rattle.pl_rings.specs.Sides.{around, end_x, end_y, next_at, is_side, next_side, side_count, number_of, IsPoint, IsCentral}
use Rattle.pl_rings.specs.Starts.{is_start}
use Rattle.pl_rings.specs.Traces.{sides, RunsTo}
use Rattle.pl_rings.proofs.LeastSides.{rising_lower, falling_lower, start_after}
use Rattle.pl_rings.proofs.Runs.{straight_at, turned_at}
use Rattle.pl_rings.proofs.SideLemmas.{arrives_at_end, next_is_side, side_of}
use Rattle.pl_rings.proofs.SideNumbers.{next_point, number_below, point_of}
use Rattle.pl_rings.proofs.Turns.{arrives}

-- what holds where the run stands at the point x y
pub record Running (p : Cells) (s : Side) (x y : ℤ) : Type 0 where
  pub more : ℕ
  pub straight : (j : ℕ) → j ≤ more → (sides p j s).heading ≡ s.heading
  pub x_is : x ≡ end_x (sides p more s).x s.heading
  pub y_is : y ≡ end_y (sides p more s).y s.heading
  pub one : is_side p (sides p more s) ≡ true

pub running_first : (p : Cells) (s : Side) → is_side p s ≡ true → Running p s (end_x s.x s.heading) (end_y s.y s.heading)
running_first p s h = record { more = 0; straight = λ j few. let e : j ≡ 0 = omega (arith, few) in ap (λ i. (sides p i s).heading) e; x_is = refl; y_is = refl; one = h }

pub running_point : (p : Cells) (s : Side) (x y : ℤ) → Running p s x y → IsPoint p.bounds x y
running_point p s x y w =
    let u : Side = sides p w.more s in
    let h : u.heading ≡ s.heading = w.straight w.more (omega arith) in
    let at : IsPoint p.bounds (end_x u.x u.heading) (end_y u.y u.heading) = next_point p u w.one in
    let P : Heading → Type 0 = λ g. IsPoint p.bounds (end_x u.x g) (end_y u.y g) in
    let X : ℤ → Type 0 = λ a. IsPoint p.bounds a (end_y u.y s.heading) in
    let Y : ℤ → Type 0 = λ a. IsPoint p.bounds x a in
    subst Y (sym w.y_is) (subst X (sym w.x_is) (subst P h at))

running_next : (p : Cells) (s : Side) (x y : ℤ) → (w : Running p s x y) → sides p (suc w.more) s ≡ next_at p x y s.heading
running_next p s x y w =
    let u : Side = sides p w.more s in
    let h : u.heading ≡ s.heading = w.straight w.more (omega arith) in
    ap (λ g. next_at p (end_x u.x g) (end_y u.y g) g) h
    ∙ ap (λ a. next_at p a (end_y u.y s.heading) s.heading) (sym w.x_is)
    ∙ ap (λ a. next_at p x a s.heading) (sym w.y_is)

pub running_more : (p : Cells) (s : Side) (x y : ℤ) → Running p s x y → leaves (around p x y) s.heading ≡ true → Running p s (end_x x s.heading) (end_y y s.heading)
running_more p s x y w l =
    let n : Side = sides p (suc w.more) s in
    let is : n ≡ side_of x y s.heading = running_next p s x y w ∙ ap (side_of x y) (straight_at p x y s.heading l) in
    record {
      more = suc w.more;
      straight = λ j few.
          elim (cases_eq j (suc w.more)) [
            | inl e ↦ ap (λ i. (sides p i s).heading) e ∙ ap (λ z. z.heading) is
            | inr ne ↦ w.straight j (omega (arith, few, ne))
          ];
      x_is = ap (λ z. end_x z.x s.heading) (sym is);
      y_is = ap (λ z. end_y z.y s.heading) (sym is);
      one = next_is_side p (sides p w.more s) w.one;
    }

pub running_last : (p : Cells) (s : Side) (x y : ℤ) → Running p s x y → leaves (around p x y) s.heading ≡ false → RunsTo p s (next_at p x y s.heading)
running_last p s x y w l = record {
  count = suc w.more;
  some = omega arith;
  straight = λ j less. w.straight j (omega (arith, less));
  there = sym (running_next p s x y w);
  turned = turned_at p x y s.heading l;
}

-- how far a run can go on
abbrev pub run_left : Extent → ℤ → ℤ → Heading → ℕ
run_left b x y h = if rises h then side_count b - number_of b (side_of x y h) else number_of b (side_of x y h)

left_less : (b : Extent) (x y u v : ℤ) (h : Heading) → IsPoint b x y → IsPoint b u v → u ≡ end_x x h → v ≡ end_y y h → run_left b u v h < run_left b x y h
left_less b x y u v East qs qt ex ey = omega (arith, rising_lower b x y East (side_of u v East) qs qt (sym ex) (sym ey) refl, number_below b (side_of x y East) qs)
left_less b x y u v North qs qt ex ey = omega (arith, rising_lower b x y North (side_of u v North) qs qt (sym ex) (sym ey) refl, number_below b (side_of x y North) qs)
left_less b x y u v West qs qt ex ey = falling_lower b x y West (side_of u v West) qt qs ex ey refl
left_less b x y u v South qs qt ex ey = falling_lower b x y South (side_of u v South) qt qs ex ey refl

-- a step of a run makes what is left less
pub run_falls : (p : Cells) (s : Side) (x y : ℤ) → Running p s x y → leaves (around p x y) s.heading ≡ true → run_left p.bounds (end_x x s.heading) (end_y y s.heading) s.heading < run_left p.bounds x y s.heading
run_falls p s x y w l = left_less p.bounds x y (end_x x s.heading) (end_y y s.heading) s.heading (running_point p s x y w) (running_point p s (end_x x s.heading) (end_y y s.heading) (running_more p s x y w l)) refl refl

pub central_point : (b : Extent) (x y : ℤ) → IsExtent b → IsPoint b x y → IsCentral x y
central_point b x y e q = record {
  left = omega (arith, ints, e.left, q.x_is);
  right = omega (arith, ints, e.right, e.wide, q.wide, q.x_is);
  bottom = omega (arith, ints, e.bottom, q.y_is);
  top = omega (arith, ints, e.top, e.high, q.high, q.y_is);
}

pub near_point : (b : Extent) (x y : ℤ) → IsExtent b → IsPoint b x y → IsNear x y
near_point b x y e q = record {
  left = omega (arith, ints, e.left, q.x_is);
  right = omega (arith, ints, e.right, e.wide, q.wide, q.x_is);
  bottom = omega (arith, ints, e.bottom, q.y_is);
  top = omega (arith, ints, e.top, e.high, q.high, q.y_is);
}

near_fits : (z : ℤ) → neg_ℤ (pos 100000) ≤ℤ z → z ≤ℤ pos 100000 → FitsSigned w32 z
near_fits (pos n) low high = omega (arith, ints, high)
near_fits (negsuc n) low high = omega (arith, ints, low)

-- a number near the origin is what its bits say
pub plain : (z : ℤ) → neg_ℤ (pos 100000) ≤ℤ z → z ≤ℤ pos 100000 → to_z w32 (of_z w32 z) ≡ z
plain z low high = to_z-of_z w32 z (near_fits z low high)

pub central_bits : (x y : ℤ) → IsCentral x y → IsCentral (to_z w32 (of_z w32 x)) (to_z w32 (of_z w32 y))
central_bits x y c =
    let ex : to_z w32 (of_z w32 x) ≡ x = plain x (omega (arith, ints, c.left)) (omega (arith, ints, c.right)) in
    let ey : to_z w32 (of_z w32 y) ≡ y = plain y (omega (arith, ints, c.bottom)) (omega (arith, ints, c.top)) in
    let X : ℤ → Type 0 = λ z. IsCentral z y in
    let Y : ℤ → Type 0 = λ z. IsCentral (to_z w32 (of_z w32 x)) z in
    subst Y (sym ey) (subst X (sym ex) c)

pub side_central : (p : Cells) (s : Side) → IsExtent p.bounds → is_side p s ≡ true → IsCentral s.x s.y
side_central p s e h = central_point p.bounds s.x s.y e (point_of p s h)

-- the sides that follow a side are sides
sides_stand : (p : Cells) (s : Side) → is_side p s ≡ true → (j : ℕ) → is_side p (sides p j s) ≡ true
sides_stand p s h zero = h
sides_stand p s h (suc j) = next_is_side p (sides p j s) (sides_stand p s h j)

-- and so is the one that a run comes to
pub run_stands : (p : Cells) (s t : Side) → is_side p s ≡ true → RunsTo p s t → is_side p t ≡ true
run_stands p s t h r = ap (is_side p) r.there ∙ sides_stand p s h r.count

-- the side at the end of a run is a start exactly where the run falls and that side rises
pub run_start : (p : Cells) (s t : Side) → is_side p s ≡ true → RunsTo p s t → is_start (around p t.x t.y) t.heading ≡ (rises t.heading && not (rises s.heading))
run_start p s t h r =
    let j : ℕ = r.count - 1 in
    let u : Side = sides p j s in
    let up : suc j ≡ r.count = omega (arith, r.some) in
    let is : t ≡ next_side p u = r.there ∙ ap (λ n. sides p n s) (sym up) in
    let a : Around = around p (end_x u.x u.heading) (end_y u.y u.heading) in
    let coming : arrives a u.heading ≡ true = sym (arrives_at_end p u.x u.y u.heading) ∙ sides_stand p s h j in
    ap (λ z. is_start (around p z.x z.y) z.heading) is
    ∙ start_after a u.heading coming
    ∙ ap (λ z. rises z.heading && not (rises u.heading)) (sym is)
    ∙ ap (λ g. rises t.heading && not (rises g)) (r.straight j (omega (arith, r.some)))
