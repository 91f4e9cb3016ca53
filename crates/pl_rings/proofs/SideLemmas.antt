-- The successor takes boundary sides to boundary sides, no two to one.
use Rattle.std.proofs.Common.{◌≡◌, ℤ, pos, ◌+ℤ◌, ◌-ℤ◌, Bool, true, false, not, ◌&&◌, ◌||◌, refl, sym, ◌∙◌, ap, arith, eq-eqb}
use Rattle.std.proofs.lemmas.Bool.{and_from, eqb-true, both_ways}
use Rattle.std.proofs.lemmas.Int.{ints}
use Rattle.pl_grid.specs.Planes.{Cells, filled}
use Rattle.pl_rings.specs.declared.side.Heading.{Heading}
use Rattle.pl_rings.specs.declared.side.Heading.TheVariants.{East, North, West, South}
use Rattle.pl_rings.specs.declared.side.Side.{Side}
use Rattle.pl_rings.specs.Headings.{Around, leaves, turn}
use Rattle.pl_rings.specs.Sides.{around, is_side, end_x, end_y, next_side, rank_of, heading_of}
use Rattle.pl_rings.proofs.Turns.{arrives, turn_leaves, turn_apart}

there_and_back : (x : ℤ) → x +ℤ pos 1 -ℤ pos 1 ≡ x
there_and_back x = omega (arith, ints)

back_and_there : (x : ℤ) → x -ℤ pos 1 +ℤ pos 1 ≡ x
back_and_there x = omega (arith, ints)

-- a side that leaves its start arrives at its end
pub arrives_at_end : (p : Cells) (x y : ℤ) (h : Heading) → leaves (around p x y) h ≡ arrives (around p (end_x x h) (end_y y h)) h
arrives_at_end p x y East = ap (λ z. filled p z y && not (filled p z (y -ℤ pos 1))) (sym (there_and_back x))
arrives_at_end p x y North = ap (λ z. filled p (x -ℤ pos 1) z && not (filled p x z)) (sym (there_and_back y))
arrives_at_end p x y West = refl
arrives_at_end p x y South = refl

-- what follows from a test that is `not a || b`
pub from_or : (a b : Bool) → (not a || b) ≡ true → a ≡ true → b ≡ true
from_or true b h e = h
from_or false b h e = absurd (both_ways false refl e)

pub next_is_side : (p : Cells) (s : Side) → is_side p s ≡ true → is_side p (next_side p s) ≡ true
next_is_side p s h =
    let a : Around = around p (end_x s.x s.heading) (end_y s.y s.heading) in
    from_or _ _ (turn_leaves a s.heading) (sym (arrives_at_end p s.x s.y s.heading) ∙ h)

pub heading_of-rank_of : (h : Heading) → heading_of (rank_of h) ≡ h
heading_of-rank_of East = refl
heading_of-rank_of North = refl
heading_of-rank_of West = refl
heading_of-rank_of South = refl

start_x : (x y : ℤ) (h : Heading) → end_x x h ≡ end_x y h → x ≡ y
start_x x y East e = sym (there_and_back x) ∙ ap (λ z. z -ℤ pos 1) e ∙ there_and_back y
start_x x y North e = e
start_x x y West e = sym (back_and_there x) ∙ ap (λ z. z +ℤ pos 1) e ∙ back_and_there y
start_x x y South e = e

start_y : (x y : ℤ) (h : Heading) → end_y x h ≡ end_y y h → x ≡ y
start_y x y East e = e
start_y x y North e = sym (there_and_back x) ∙ ap (λ z. z -ℤ pos 1) e ∙ there_and_back y
start_y x y West e = e
start_y x y South e = sym (back_and_there x) ∙ ap (λ z. z +ℤ pos 1) e ∙ back_and_there y

abbrev pub side_of : ℤ → ℤ → Heading → Side
side_of x y h = record { x = x; y = y; heading = h }

pub next_apart : (p : Cells) (s t : Side) → is_side p s ≡ true → is_side p t ≡ true → next_side p s ≡ next_side p t → s ≡ t
next_apart p s t hs ht e =
    let ex : end_x s.x s.heading ≡ end_x t.x t.heading = ap (λ z. z.x) e in
    let ey : end_y s.y s.heading ≡ end_y t.y t.heading = ap (λ z. z.y) e in
    let a : Around = around p (end_x s.x s.heading) (end_y s.y s.heading) in
    let b : Around = around p (end_x t.x t.heading) (end_y t.y t.heading) in
    let same : b ≡ a = ap (λ z. around p z (end_y t.y t.heading)) (sym ex) ∙ ap (λ z. around p (end_x s.x s.heading) z) (sym ey) in
    let turns : rank_of (turn a s.heading) ≡ rank_of (turn a t.heading) = ap (λ z. rank_of z.heading) e ∙ ap (λ z. rank_of (turn z t.heading)) same in
    let as' : arrives a s.heading ≡ true = sym (arrives_at_end p s.x s.y s.heading) ∙ hs in
    let at' : arrives a t.heading ≡ true = ap (λ z. arrives z t.heading) (sym same) ∙ sym (arrives_at_end p t.x t.y t.heading) ∙ ht in
    let ranks : rank_of s.heading ≡ rank_of t.heading =
    eqb-true _ _ (from_or _ _ (turn_apart a s.heading t.heading) (and_from _ _ (and_from _ _ as' at') (eq-eqb _ _ turns))) in
    let headings : s.heading ≡ t.heading = sym (heading_of-rank_of s.heading) ∙ ap heading_of ranks ∙ heading_of-rank_of t.heading in
    let xs : s.x ≡ t.x = start_x s.x t.x t.heading (ap (end_x s.x) (sym headings) ∙ ex) in
    let ys : s.y ≡ t.y = start_y s.y t.y t.heading (ap (end_y s.y) (sym headings) ∙ ey) in
    ap (λ z. side_of z s.y s.heading) xs ∙ ap (λ z. side_of t.x z s.heading) ys ∙ ap (λ z. side_of t.x t.y z) headings
