-- Straight runs of sides.
use Rattle.std.proofs.Common.{◌≡◌, ℤ, ℕ, zero, suc, ◌+◌, true, false, not, ◌&&◌, ◌||◌, ◌==◌, inl, inr, refl, sym, ◌∙◌, ap, arith, nat_lt}
use Rattle.std.proofs.lemmas.Bool.{and_from, and_parts, both_ways, cases_Bool, eqb-true}
use Rattle.pl_grid.specs.Planes.{Cells}
use Rattle.pl_rings.specs.declared.side.Heading.{Heading}
use Rattle.pl_rings.specs.declared.side.Side.{Side}
use Rattle.pl_rings.specs.Cycles.{steps}
use Rattle.pl_rings.specs.Headings.{Around, leaves, turn}
use Rattle.pl_rings.specs.Sides.{around, is_side, next_side, side_at, side_count, rank_of, heading_of, stands, next_number}
use Rattle.pl_rings.specs.Starts.{is_start}
use Rattle.pl_rings.specs.Traces.{sides}
use Rattle.pl_rings.proofs.EdgeLaws.{found_by_number}
use Rattle.pl_rings.proofs.Iterates.{steps_count}
use Rattle.pl_rings.proofs.SideLemmas.{next_is_side, arrives_at_end, from_or, heading_of-rank_of}
use Rattle.pl_rings.proofs.SideNumbers.{next_permutes}
use Rattle.pl_rings.proofs.Turns.{arrives, each, each_at, anywhere_at}

-- steps by numbers are steps by sides: no number is needed on the way
pub side_of_steps : (p : Cells) (k : ℕ) → stands p k ≡ true → (j : ℕ) → side_at p.bounds (steps (next_number p) j k) ≡ sides p j (side_at p.bounds k)
side_of_steps p k h zero = refl
side_of_steps p k h (suc j) =
    let q : ℕ = steps (next_number p) j k in
    let hq : stands p q ≡ true = steps_count (stands p) (next_number p) (side_count p.bounds) (next_permutes p) k h j in
    let s : Side = side_at p.bounds q in
    let hs : is_side p s ≡ true = (and_parts (nat_lt q (side_count p.bounds)) (is_side p s) hq).1 in
    found_by_number p (next_side p s) (next_is_side p s hs) ∙ ap (next_side p) (side_of_steps p k h j)

pub sides_add : (p : Cells) (m n : ℕ) (s : Side) → sides p (n + m) s ≡ sides p n (sides p m s)
sides_add p m zero s = let e : 0 + m ≡ m = omega arith in ap (λ i. sides p i s) e
sides_add p m (suc n) s = let e : suc n + m ≡ suc (n + m) = omega arith in ap (λ i. sides p i s) e ∙ ap (next_side p) (sides_add p m n s)

-- a side that can be followed straight on is: the turn to the right is none there
straight_first : (a : Around) (h : Heading) → (not (leaves a h) || rank_of (turn a h) == rank_of h) ≡ true
straight_first a h =
    each_at (λ k. not (leaves a k) || rank_of (turn a k) == rank_of k) h
    (anywhere_at (λ b. each (λ k. not (leaves b k) || rank_of (turn b k) == rank_of k)) a refl)

same_heading : (h k : Heading) → rank_of h ≡ rank_of k → h ≡ k
same_heading h k e = sym (heading_of-rank_of h) ∙ ap heading_of e ∙ heading_of-rank_of k

-- where it cannot, the heading changes
turns_else : (a : Around) (h : Heading) → (leaves a h || not (rank_of (turn a h) == rank_of h)) ≡ true
turns_else a h =
    each_at (λ k. leaves a k || not (rank_of (turn a k) == rank_of k)) h
    (anywhere_at (λ b. each (λ k. leaves b k || not (rank_of (turn b k) == rank_of k))) a refl)

-- a start comes after a turn: marks are wanted at corners alone
start_turns : (a : Around) (h : Heading) → (not (arrives a h && is_start a (turn a h)) || not (rank_of (turn a h) == rank_of h)) ≡ true
start_turns a h =
    each_at (λ k. not (arrives a k && is_start a (turn a k)) || not (rank_of (turn a k) == rank_of k)) h
    (anywhere_at (λ b. each (λ k. not (arrives b k && is_start b (turn b k)) || not (rank_of (turn b k) == rank_of k))) a refl)

pub start_is_corner : (p : Cells) (s : Side) → is_side p s ≡ true → is_start (around p (next_side p s).x (next_side p s).y) (next_side p s).heading ≡ true → (rank_of (next_side p s).heading == rank_of s.heading) ≡ false
start_is_corner p s hs h =
    let t : Side = next_side p s in
    let a : Around = around p t.x t.y in
    let coming : arrives a s.heading ≡ true = sym (arrives_at_end p s.x s.y s.heading) ∙ hs in
    elim (cases_Bool (rank_of t.heading == rank_of s.heading)) [
      | inl same ↦ absurd (both_ways _ (ap not same) (from_or (arrives a s.heading && is_start a t.heading) (not (rank_of t.heading == rank_of s.heading)) (start_turns a s.heading) (and_from _ _ coming h)))
      | inr other ↦ other
    ]

pub straight_at : (p : Cells) (x y : ℤ) (h : Heading) → leaves (around p x y) h ≡ true → turn (around p x y) h ≡ h
straight_at p x y h l = same_heading (turn (around p x y) h) h (eqb-true _ _ (from_or (leaves (around p x y) h) (rank_of (turn (around p x y) h) == rank_of h) (straight_first (around p x y) h) l))

other_rank : (a : Around) (h : Heading) → (leaves a h || not (rank_of h == rank_of (turn a h))) ≡ true
other_rank a h =
    each_at (λ k. leaves a k || not (rank_of k == rank_of (turn a k))) h
    (anywhere_at (λ b. each (λ k. leaves b k || not (rank_of k == rank_of (turn b k)))) a refl)

pub turned_at : (p : Cells) (x y : ℤ) (h : Heading) → leaves (around p x y) h ≡ false → (rank_of h == rank_of (turn (around p x y) h)) ≡ false
turned_at p x y h l =
    let a : Around = around p x y in
    elim (cases_Bool (rank_of h == rank_of (turn a h))) [
      | inl same ↦ absurd (both_ways _ (ap (λ b. b || not (rank_of h == rank_of (turn a h))) l ∙ ap not same) (other_rank a h))
      | inr other ↦ other
    ]
