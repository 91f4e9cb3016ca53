-- Facets that lie wholly on one side of a row are hit from no cell of it.
use Rattle.std.proofs.Common.{◌≡◌, ℤ, pos, negsuc, zero, suc, ◌+ℤ◌, ◌-ℤ◌, ◌*ℤ◌, ◌≤ℤ◌, ◌<ℤ◌, Bool, true, false, ◌&&◌, ◌||◌, not, cond, arith, refl, ap, sym, ◌∙◌}
use Rattle.std.specs.Prelude.{int_le, int_lt}
use Rattle.std.proofs.lemmas.Int.{ints}
use Rattle.std.proofs.lemmas.Nat.{mul-le}
use Rattle.std.proofs.lemmas.Bool.Decides.{nat_tests}
use Rattle.pl_stl.specs.declared.mesh.Point3.{Point3}
use Rattle.pl_stl.specs.declared.mesh.Facet.{Facet}
use Rattle.pl_layers.specs.Hits.{side_of_edge, crosses, crosses_oddly, either_or}
use Rattle.pl_layers.specs.Rows.{misses_row}
use Rattle.pl_layers.proofs.Slopes.{mul_add, sub_mul}

-- ---- signs of products

down_up : (a b : ℤ) → a ≤ℤ pos 0 → pos 0 ≤ℤ b → (a *ℤ b) ≤ℤ pos 0
down_up (pos zero) (pos m) ha hb = omega (arith, ints)
down_up (pos (suc n)) b ha hb = absurd (omega (arith, ints, ha))
down_up (negsuc n) (pos m) ha hb = omega (arith, ints)
down_up (negsuc n) (negsuc m) ha hb = absurd (omega (arith, ints, hb))
down_up (pos zero) (negsuc m) ha hb = absurd (omega (arith, ints, hb))

down_down : (a b : ℤ) → a ≤ℤ pos 0 → b ≤ℤ pos 0 → pos 0 ≤ℤ (a *ℤ b)
down_down (pos zero) b ha hb = omega (arith, ints)
down_down (pos (suc n)) b ha hb = absurd (omega (arith, ints, ha))
down_down (negsuc n) (pos zero) ha hb = omega (arith, ints)
down_down (negsuc n) (pos (suc m)) ha hb = absurd (omega (arith, ints, hb))
down_down (negsuc n) (negsuc m) ha hb = omega (arith, ints)

up_up : (a b : ℤ) → pos 0 ≤ℤ a → pos 0 ≤ℤ b → pos 0 ≤ℤ (a *ℤ b)
up_up (pos n) (pos m) ha hb = omega (arith, ints)
up_up (negsuc n) b ha hb = absurd (omega (arith, ints, ha))
up_up (pos n) (negsuc m) ha hb = absurd (omega (arith, ints, hb))

over_over : (a b : ℤ) → pos 0 <ℤ a → pos 0 <ℤ b → pos 0 <ℤ (a *ℤ b)
over_over (pos zero) b ha hb = absurd (omega (arith, ints, ha))
over_over (pos (suc n)) (pos zero) ha hb = absurd (omega (arith, ints, hb))
over_over (pos (suc n)) (pos (suc m)) ha hb = omega (arith, ints, mul-le 1 1 (suc n) (suc m) (omega arith) (omega arith))
over_over (pos (suc n)) (negsuc m) ha hb = absurd (omega (arith, ints, hb))
over_over (negsuc n) b ha hb = absurd (omega (arith, ints, ha))

up_down : (a b : ℤ) → pos 0 ≤ℤ a → b ≤ℤ pos 0 → (a *ℤ b) ≤ℤ pos 0
up_down (pos n) (pos zero) ha hb = omega (arith, ints)
up_down (pos n) (pos (suc m)) ha hb = absurd (omega (arith, ints, hb))
up_down (pos n) (negsuc m) ha hb = omega (arith, ints)
up_down (negsuc n) b ha hb = absurd (omega (arith, ints, ha))

over_under : (a b : ℤ) → pos 0 <ℤ a → b <ℤ pos 0 → (a *ℤ b) <ℤ pos 0
over_under (pos zero) b ha hb = absurd (omega (arith, ints, ha))
over_under (pos (suc n)) (pos m) ha hb = absurd (omega (arith, ints, hb))
over_under (pos (suc n)) (negsuc m) ha hb = omega (arith, ints, mul-le 1 1 (suc n) (suc m) (omega arith) (omega arith))
over_under (negsuc n) b ha hb = absurd (omega (arith, ints, ha))

-- ---- one edge

-- the side by how far each end is from the row
side_is : (p u v : Point3) → side_of_edge p u v ≡ (u.y.0 -ℤ p.y.0) *ℤ (v.z.0 -ℤ p.z.0) +ℤ (v.y.0 -ℤ p.y.0) *ℤ (p.z.0 -ℤ u.z.0)
side_is p u v =
    let tall : v.z.0 -ℤ u.z.0 ≡ (v.z.0 -ℤ p.z.0) +ℤ (p.z.0 -ℤ u.z.0) = omega (arith, ints) in
    let deep : v.y.0 -ℤ u.y.0 ≡ (v.y.0 -ℤ p.y.0) -ℤ (u.y.0 -ℤ p.y.0) = omega (arith, ints) in
    ap (λ s. (u.y.0 -ℤ p.y.0) *ℤ s +ℤ (v.y.0 -ℤ u.y.0) *ℤ (p.z.0 -ℤ u.z.0)) tall
    ∙ ap (λ s. (u.y.0 -ℤ p.y.0) *ℤ ((v.z.0 -ℤ p.z.0) +ℤ (p.z.0 -ℤ u.z.0)) +ℤ s *ℤ (p.z.0 -ℤ u.z.0)) deep
    ∙ omega (arith, ints, mul_add (u.y.0 -ℤ p.y.0) (v.z.0 -ℤ p.z.0) (p.z.0 -ℤ u.z.0), sub_mul (v.y.0 -ℤ p.y.0) (u.y.0 -ℤ p.y.0) (p.z.0 -ℤ u.z.0))

side_low : (a b c d s : ℤ) (rises : Bool) → a ≤ℤ pos 0 → b ≤ℤ pos 0 → (rises ≡ true → (pos 0 ≤ℤ c) × (pos 0 ≤ℤ d)) → (rises ≡ false → (c ≤ℤ pos 0) × (d ≤ℤ pos 0)) → s ≡ a *ℤ c +ℤ b *ℤ d → cond rises (int_lt (pos 0) s) (int_lt s (pos 0)) ≡ false
side_low a b c d s true ha hb up down e = grind (arith, ints, nat_tests, e, down_up a c ha (up refl).0, down_up b d hb (up refl).1)
side_low a b c d s false ha hb up down e = grind (arith, ints, nat_tests, e, down_down a c ha (down refl).0, down_down b d hb (down refl).1)

side_high : (a b c d s : ℤ) (rises : Bool) → pos 0 <ℤ a → pos 0 <ℤ b → (rises ≡ true → (pos 0 <ℤ c) × (pos 0 ≤ℤ d)) → (rises ≡ false → (c ≤ℤ pos 0) × (d <ℤ pos 0)) → s ≡ a *ℤ c +ℤ b *ℤ d → cond rises (int_lt (pos 0) s) (int_lt s (pos 0)) ≡ true
side_high a b c d s true ha hb up down e = grind (arith, ints, nat_tests, e, over_over a c ha (up refl).0, up_up b d (omega (arith, ints, hb)) (up refl).1)
side_high a b c d s false ha hb up down e = grind (arith, ints, nat_tests, e, up_down a c (omega (arith, ints, ha)) (down refl).0, over_under b d hb (down refl).1)

heights_up : (u v p : ℤ) → int_lt u v ≡ true → either_or (int_le u p) (int_le v p) ≡ true → (pos 0 <ℤ (v -ℤ p)) × (pos 0 ≤ℤ (p -ℤ u))
heights_up u v p h e = (grind (arith, ints, nat_tests, h, e), grind (arith, ints, nat_tests, h, e))

heights_down : (u v p : ℤ) → int_lt u v ≡ false → either_or (int_le u p) (int_le v p) ≡ true → ((v -ℤ p) ≤ℤ pos 0) × ((p -ℤ u) <ℤ pos 0)
heights_down u v p h e = (grind (arith, ints, nat_tests, h, e), grind (arith, ints, nat_tests, h, e))

weaker : (z : ℤ) → pos 0 <ℤ z → pos 0 ≤ℤ z
weaker z h = omega (arith, ints, h)

weaker_down : (z : ℤ) → z <ℤ pos 0 → z ≤ℤ pos 0
weaker_down z h = omega (arith, ints, h)

below_row : (y p : ℤ) → int_le y p ≡ true → (y -ℤ p) ≤ℤ pos 0
below_row y p h = grind (arith, ints, nat_tests, h)

above_row : (y p : ℤ) → int_le y p ≡ false → pos 0 <ℤ (y -ℤ p)
above_row y p h = grind (arith, ints, nat_tests, h)

-- an edge below the row, or at it, does not cross
low_edge : (p u v : Point3) → int_le u.y.0 p.y.0 ≡ true → int_le v.y.0 p.y.0 ≡ true → (b : Bool) → b ≡ either_or (int_le u.z.0 p.z.0) (int_le v.z.0 p.z.0) → (b && (cond (int_lt u.z.0 v.z.0) (int_lt (pos 0) (side_of_edge p u v)) (int_lt (side_of_edge p u v) (pos 0)))) ≡ false
low_edge p u v hu hv false e = refl
low_edge p u v hu hv true e = side_low _ _ _ _ (side_of_edge p u v) (int_lt u.z.0 v.z.0) (below_row u.y.0 p.y.0 hu) (below_row v.y.0 p.y.0 hv) (λ h. (weaker _ (heights_up u.z.0 v.z.0 p.z.0 h (sym e)).0, (heights_up u.z.0 v.z.0 p.z.0 h (sym e)).1)) (λ h. ((heights_down u.z.0 v.z.0 p.z.0 h (sym e)).0, weaker_down _ (heights_down u.z.0 v.z.0 p.z.0 h (sym e)).1)) (side_is p u v)

-- an edge above the row crosses wherever it spans the height
high_edge : (p u v : Point3) → int_le u.y.0 p.y.0 ≡ false → int_le v.y.0 p.y.0 ≡ false → (b : Bool) → b ≡ either_or (int_le u.z.0 p.z.0) (int_le v.z.0 p.z.0) → (b && (cond (int_lt u.z.0 v.z.0) (int_lt (pos 0) (side_of_edge p u v)) (int_lt (side_of_edge p u v) (pos 0)))) ≡ b
high_edge p u v hu hv false e = refl
high_edge p u v hu hv true e = side_high _ _ _ _ (side_of_edge p u v) (int_lt u.z.0 v.z.0) (above_row u.y.0 p.y.0 hu) (above_row v.y.0 p.y.0 hv) (λ h. heights_up u.z.0 v.z.0 p.z.0 h (sym e)) (λ h. heights_down u.z.0 v.z.0 p.z.0 h (sym e)) (side_is p u v)

three : (a b c : Bool) → either_or (either_or (either_or a b) (either_or b c)) (either_or c a) ≡ false
three true true true = refl
three true true false = refl
three true false true = refl
three true false false = refl
three false true true = refl
three false true false = refl
three false false true = refl
three false false false = refl

-- ---- one facet

pub all_low : (p : Point3) (f : Facet) → int_le f.a.y.0 p.y.0 ≡ true → int_le f.b.y.0 p.y.0 ≡ true → int_le f.c.y.0 p.y.0 ≡ true → crosses_oddly p f ≡ false
all_low p f ha hb hc =
    ap (λ x. either_or (either_or x (crosses p f.b f.c)) (crosses p f.c f.a)) (low_edge p f.a f.b ha hb _ refl)
    ∙ ap (λ x. either_or (either_or false x) (crosses p f.c f.a)) (low_edge p f.b f.c hb hc _ refl)
    ∙ ap (λ x. either_or (either_or false false) x) (low_edge p f.c f.a hc ha _ refl)

pub all_high : (p : Point3) (f : Facet) → int_le f.a.y.0 p.y.0 ≡ false → int_le f.b.y.0 p.y.0 ≡ false → int_le f.c.y.0 p.y.0 ≡ false → crosses_oddly p f ≡ false
all_high p f ha hb hc =
    ap (λ x. either_or (either_or x (crosses p f.b f.c)) (crosses p f.c f.a)) (high_edge p f.a f.b ha hb _ refl)
    ∙ ap (λ x. either_or (either_or (either_or (int_le f.a.z.0 p.z.0) (int_le f.b.z.0 p.z.0)) x) (crosses p f.c f.a)) (high_edge p f.b f.c hb hc _ refl)
    ∙ ap (λ x. either_or (either_or (either_or (int_le f.a.z.0 p.z.0) (int_le f.b.z.0 p.z.0)) (either_or (int_le f.b.z.0 p.z.0) (int_le f.c.z.0 p.z.0))) x) (high_edge p f.c f.a hc ha _ refl)
    ∙ three (int_le f.a.z.0 p.z.0) (int_le f.b.z.0 p.z.0) (int_le f.c.z.0 p.z.0)

by_ends : (p : Point3) (f : Facet) (a b c : Bool) → a ≡ int_le f.a.y.0 p.y.0 → b ≡ int_le f.b.y.0 p.y.0 → c ≡ int_le f.c.y.0 p.y.0 → ((a && b && c) || not (a || b || c)) ≡ true → crosses_oddly p f ≡ false
by_ends p f true true true ea eb ec h = all_low p f (sym ea) (sym eb) (sym ec)
by_ends p f false false false ea eb ec h = all_high p f (sym ea) (sym eb) (sym ec)
by_ends p f true true false ea eb ec h = absurd (grind arith)
by_ends p f true false true ea eb ec h = absurd (grind arith)
by_ends p f true false false ea eb ec h = absurd (grind arith)
by_ends p f false true true ea eb ec h = absurd (grind arith)
by_ends p f false true false ea eb ec h = absurd (grind arith)
by_ends p f false false true ea eb ec h = absurd (grind arith)

-- a facet that lies wholly on one side of a row is hit from no cell of it
pub misses : (p : Point3) (f : Facet) → misses_row p f ≡ true → crosses_oddly p f ≡ false
misses p f h = by_ends p f (int_le f.a.y.0 p.y.0) (int_le f.b.y.0 p.y.0) (int_le f.c.y.0 p.y.0) refl refl refl h
