-- The quotient that rounds up: the cells behind a facet are those before a place on the row.
use Rattle.std.proofs.Common.{w64, of_z, ◌≡◌, ℤ, ℕ, pos, negsuc, suc, zero, neg_ℤ, ◌+ℤ◌, ◌-ℤ◌, ◌*ℤ◌, ◌*◌, ◌/◌, ◌≤◌, ◌<◌, ◌<ℤ◌, Bool, cond, true, false, min, refl, arith, ap, sym, ◌∙◌, unsigned_abs}
use Rattle.std.specs.Prelude.{nat_lt, int_lt}
use Rattle.std.specs.Int.{int_div_euclid}
use Rattle.std.proofs.lemmas.Int.{ints}
use Rattle.std.proofs.lemmas.Nat.{div-add-mod', mod_below, mul-le}
use Rattle.std.proofs.lemmas.Bool.Decides.{nat_tests}
use Rattle.pl_stl.specs.declared.mesh.Point3.{Point3}
use Rattle.pl_stl.specs.declared.mesh.Facet.{Facet}
use Rattle.pl_units.specs.Within.{Within}
use Rattle.pl_layers.specs.declared.arrow.Arrow.{Arrow}
use Rattle.pl_layers.specs.Hits.{arrow, crosses_oddly}
use Rattle.pl_layers.specs.Rows.{turn, normal_of, volume_at, steps_below, columns_behind, columns_hit}
use Rattle.pl_layers.proofs.WithinLemmas.{Within-neg}
use Rattle.pl_layers.proofs.Behind.{steps_below_is}
use Rattle.pl_layers.proofs.Slopes.{mul_add, mul_neg, mul_left, sub_mul, cross_of}

abbrev pub quotient_up : ℤ → ℤ → ℤ
quotient_up e n = neg_ℤ (int_div_euclid (neg_ℤ e) n)

-- ---- what is below it

above_quotient : (a n k : ℕ) → nat_lt (a / suc n) k ≡ nat_lt a (k * suc n)
above_quotient a n k =
    let whole = div-add-mod' a (suc n) in
    let rest = mod_below a (suc n) (omega arith) in
    let below : a / suc n < k → a < k * suc n = λ h. omega (arith, whole, rest, mul-le (suc (a / suc n)) (suc n) k (suc n) h (omega arith)) in
    let above : k ≤ a / suc n → k * suc n ≤ a = λ h. omega (arith, whole, rest, mul-le k (suc n) (a / suc n) (suc n) h (omega arith)) in
    grind (arith, nat_tests, below, above)

below_down : (t : ℤ) (a n : ℕ) → int_lt t (neg_ℤ (pos (a / suc n))) ≡ int_lt (t *ℤ pos (suc n)) (neg_ℤ (pos a))
below_down (pos k) a n = grind (arith, ints, nat_tests)
below_down (negsuc k) a n =
    let e = above_quotient a n (suc k) in
    grind (arith, ints, nat_tests, e)

below_up : (t e : ℤ) (n : ℕ) → int_lt t (quotient_up e (pos (suc n))) ≡ int_lt (t *ℤ pos (suc n)) e
below_up t (pos zero) n = below_down t 0 n
below_up (pos k) (pos (suc a)) n =
    let e = above_quotient a n k in
    grind (arith, ints, nat_tests, e)
below_up (negsuc k) (pos (suc a)) n = grind (arith, ints, nat_tests)
below_up t (negsuc a) n = below_down t (suc a) n

-- ---- one quotient of a product is two after one another

same_count : (a b : ℕ) → ((i : ℕ) → nat_lt i a ≡ nat_lt i b) → a ≡ b
same_count a b h =
    let x = h a in
    let y = h b in
    grind (arith, nat_tests, x, y)

moved : (i start u : ℤ) → int_lt i (start +ℤ u) ≡ int_lt (i -ℤ start) u
moved i start u = grind (arith, ints, nat_tests)

back : (i c n : ℕ) (s e : ℤ) → int_lt (pos (i * c) *ℤ pos (suc n) -ℤ s) e ≡ int_lt (pos (i * (c * suc n))) (s +ℤ e)
back i c n s e =
    let same : i * c * suc n ≡ i * (c * suc n) = omega arith in
    grind (arith, ints, nat_tests, same)

nested : (start e : ℤ) (c n : ℕ) → 0 < c → steps_below (start *ℤ pos (suc n) +ℤ e) (c * suc n) ≡ steps_below (start +ℤ quotient_up e (pos (suc n))) c
nested start e c n h =
    let some : 0 < c * suc n = omega (arith, mul-le 1 1 c (suc n) h (omega arith)) in
    same_count _ _ (λ i.
    steps_below_is i (c * suc n) (start *ℤ pos (suc n) +ℤ e) some
    ∙ sym (back i c n (start *ℤ pos (suc n)) e)
    ∙ sym (ap (λ z. int_lt z e) (sub_mul (pos (i * c)) start (pos (suc n))))
    ∙ sym (below_up (pos (i * c) -ℤ start) e n)
    ∙ sym (moved (pos (i * c)) start (quotient_up e (pos (suc n))))
    ∙ sym (steps_below_is i c (start +ℤ quotient_up e (pos (suc n))) h))

opposite_of : (s r : ℤ) (n : ℕ) → neg_ℤ (s *ℤ negsuc n +ℤ r) ≡ s *ℤ pos (suc n) +ℤ neg_ℤ r
opposite_of s r n = omega (arith, ints, mul_neg s (pos (suc n)))

not_below : (n : ℕ) → int_lt (pos (suc n)) (pos 0) ≡ false
not_below n = grind (arith, nat_tests)

-- the steps of a volume by the size of the normal's x part are those of a place on the row
pub by_place : (s r n v : ℤ) (c : ℕ) → 0 < c → 0 < unsigned_abs n → v ≡ s *ℤ n +ℤ r → steps_below (cond (int_lt n (pos 0)) (neg_ℤ v) v) (c * unsigned_abs n) ≡ steps_below (s +ℤ quotient_up (cond (int_lt n (pos 0)) (neg_ℤ r) r) (pos (unsigned_abs n))) c
by_place s r (pos zero) v c h some e = absurd (omega (arith, some))
by_place s r (pos (suc n)) v c h some e =
    ap (λ b. steps_below (cond b (neg_ℤ v) v) (c * suc n)) (not_below n)
    ∙ ap (λ z. steps_below z (c * suc n)) e
    ∙ nested s r c n h
    ∙ sym (ap (λ b. steps_below (s +ℤ quotient_up (cond b (neg_ℤ r) r) (pos (suc n))) c) (not_below n))
by_place s r (negsuc n) v c h some e = ap (λ z. steps_below z (c * suc n)) (ap neg_ℤ e ∙ opposite_of s r n) ∙ nested s (neg_ℤ r) c n h

-- ---- the volume by the facet's normal

spread : (u x y z : ℤ) → u *ℤ (x +ℤ (y +ℤ z)) ≡ u *ℤ x +ℤ (u *ℤ y +ℤ u *ℤ z)
spread u x y z = mul_add u x (y +ℤ z) ∙ ap (λ s. u *ℤ x +ℤ s) (mul_add u y z)

cancel : (u t a b : ℤ) → b ≡ neg_ℤ a → u *ℤ (t *ℤ a) +ℤ t *ℤ (u *ℤ b) ≡ pos 0
cancel u t a b e = omega (arith, ints, mul_left t u a, ap (λ z. t *ℤ (u *ℤ z)) e ∙ ap (λ z. t *ℤ z) (mul_neg u a) ∙ mul_neg t (u *ℤ a))

volume_of : (ux uy uz vx vy vz wx wy wz : ℤ) → ux *ℤ ((vy -ℤ uy) *ℤ (wz -ℤ uz) -ℤ (vz -ℤ uz) *ℤ (wy -ℤ uy)) +ℤ (uy *ℤ ((vz -ℤ uz) *ℤ (wx -ℤ ux) -ℤ (vx -ℤ ux) *ℤ (wz -ℤ uz)) +ℤ uz *ℤ ((vx -ℤ ux) *ℤ (wy -ℤ uy) -ℤ (vy -ℤ uy) *ℤ (wx -ℤ ux))) ≡ ux *ℤ (vy *ℤ wz -ℤ vz *ℤ wy) +ℤ uy *ℤ (vz *ℤ wx -ℤ vx *ℤ wz) +ℤ uz *ℤ (vx *ℤ wy -ℤ vy *ℤ wx)
volume_of ux uy uz vx vy vz wx wy wz =
    let x = ap (λ z. ux *ℤ z) (cross_of uy uz vy vz wy wz) ∙ spread ux (vy *ℤ wz -ℤ vz *ℤ wy) (uy *ℤ (vz -ℤ wz)) (uz *ℤ (wy -ℤ vy)) in
    let y = ap (λ z. uy *ℤ z) (cross_of uz ux vz vx wz wx) ∙ spread uy (vz *ℤ wx -ℤ vx *ℤ wz) (uz *ℤ (vx -ℤ wx)) (ux *ℤ (wz -ℤ vz)) in
    let z = ap (λ z. uz *ℤ z) (cross_of ux uy vx vy wx wy) ∙ spread uz (vx *ℤ wy -ℤ vy *ℤ wx) (ux *ℤ (vy -ℤ wy)) (uy *ℤ (wx -ℤ vx)) in
    omega (arith, ints, x, y, z, cancel ux uy (vz -ℤ wz) (wz -ℤ vz) (omega (arith, ints)), cancel ux uz (wy -ℤ vy) (vy -ℤ wy) (omega (arith, ints)), cancel uy uz (vx -ℤ wx) (wx -ℤ vx) (omega (arith, ints)))

-- the volume between a point and a facet by the way to its first corner
pub volume_is : (p : Point3) (f : Facet) → volume_at p f ≡ (f.a.x.0 -ℤ p.x.0) *ℤ (normal_of f).x +ℤ ((f.a.y.0 -ℤ p.y.0) *ℤ (normal_of f).y +ℤ (f.a.z.0 -ℤ p.z.0) *ℤ (normal_of f).z)
volume_is p f =
    let bx : f.b.x.0 -ℤ f.a.x.0 ≡ f.b.x.0 -ℤ p.x.0 -ℤ (f.a.x.0 -ℤ p.x.0) = omega (arith, ints) in
    let by : f.b.y.0 -ℤ f.a.y.0 ≡ f.b.y.0 -ℤ p.y.0 -ℤ (f.a.y.0 -ℤ p.y.0) = omega (arith, ints) in
    let bz : f.b.z.0 -ℤ f.a.z.0 ≡ f.b.z.0 -ℤ p.z.0 -ℤ (f.a.z.0 -ℤ p.z.0) = omega (arith, ints) in
    let cx : f.c.x.0 -ℤ f.a.x.0 ≡ f.c.x.0 -ℤ p.x.0 -ℤ (f.a.x.0 -ℤ p.x.0) = omega (arith, ints) in
    let cy : f.c.y.0 -ℤ f.a.y.0 ≡ f.c.y.0 -ℤ p.y.0 -ℤ (f.a.y.0 -ℤ p.y.0) = omega (arith, ints) in
    let cz : f.c.z.0 -ℤ f.a.z.0 ≡ f.c.z.0 -ℤ p.z.0 -ℤ (f.a.z.0 -ℤ p.z.0) = omega (arith, ints) in
    rw (bx, by, bz, cx, cy, cz) (sym (volume_of (f.a.x.0 -ℤ p.x.0) (f.a.y.0 -ℤ p.y.0) (f.a.z.0 -ℤ p.z.0) (f.b.x.0 -ℤ p.x.0) (f.b.y.0 -ℤ p.y.0) (f.b.z.0 -ℤ p.z.0) (f.c.x.0 -ℤ p.x.0) (f.c.y.0 -ℤ p.y.0) (f.c.z.0 -ℤ p.z.0)))

-- the size of a rounded quotient is no more than that of the number
small_quotient : (n b k : ℕ) → n ≤ b → n / suc k ≤ b
small_quotient n b k h = omega (arith, div-add-mod' n (suc k), mul-le (n / suc k) 1 (n / suc k) (suc k) (omega arith) (omega arith), h)

div_small : (b : ℕ) (e : ℤ) (k : ℕ) → Within b e → Within b (int_div_euclid e (pos (suc k)))
div_small b (pos a) k w = record { low = omega (arith, ints); high = omega (arith, ints, small_quotient a b k (omega (arith, ints, w.high))) }
div_small b (negsuc a) k w = record { low = omega (arith, ints, w.low, small_quotient a a k (omega arith)); high = omega (arith, ints) }

pub quotient_small : (b : ℕ) (e n : ℤ) → pos 0 <ℤ n → Within b e → Within b (quotient_up e n)
quotient_small b e (pos zero) h w = absurd (omega (arith, ints, h))
quotient_small b e (pos (suc k)) h w = Within-neg b (int_div_euclid (neg_ℤ e) (pos (suc k))) (div_small b (neg_ℤ e) k (Within-neg b e w))
quotient_small b e (negsuc k) h w = absurd (omega (arith, ints, h))

pub quotient_down_small : (b : ℕ) (e n : ℤ) → pos 0 <ℤ n → Within b e → Within b (int_div_euclid (neg_ℤ e) n)
quotient_down_small b e (pos zero) h w = absurd (omega (arith, ints, h))
quotient_down_small b e (pos (suc k)) h w = div_small b (neg_ℤ e) k (Within-neg b e w)
quotient_down_small b e (negsuc k) h w = absurd (omega (arith, ints, h))

-- a number of 64 bits by its bits
pub flat_of : (z : ℤ) → Within 8016008000000000000 z → of_z w64 z ≡ 0 → z ≡ pos 0
flat_of (pos n) w h = ap pos h
flat_of (negsuc n) w h = absurd (omega (arith, ints, h, w.low))

pub steep_of : (z : ℤ) → (of_z w64 z ≡ 0 → ⊥) → 0 < unsigned_abs z
steep_of (pos zero) h = absurd (h refl)
steep_of (pos (suc n)) h = omega arith
steep_of (negsuc n) h = omega arith

-- no steps are taken where the normal has no x part
none_below : (e : ℤ) → steps_below e 0 ≡ 0
none_below (pos k) = refl
none_below (negsuc k) = refl

either_none : (b : Bool) (n : ℕ) → n ≡ 0 → cond b n 0 ≡ 0
either_none true n h = h
either_none false n h = refl

pub flat_none : (most : ℕ) (p : Point3) (f : Facet) → turn f ≡ pos 0 → 0 ≡ min most (columns_hit 400000 p f)
flat_none most p f e =
    let none : columns_behind 400000 p f ≡ 0 = ap (λ n. steps_below (cond (int_lt n (pos 0)) (neg_ℤ (volume_at p f)) (volume_at p f)) (400000 * unsigned_abs n)) e ∙ none_below _ in
    let hit : columns_hit 400000 p f ≡ 0 = either_none (crosses_oddly p f) (columns_behind 400000 p f) none in
    omega (arith, hit)

-- the place that the code finds
pub behind_place : (p : Point3) (f : Facet) (normal to : Arrow) (across size place far : ℤ) → normal ≡ normal_of f → 0 < unsigned_abs normal.x → to ≡ arrow p f.a → across ≡ cond (int_lt normal.x (pos 0)) (neg_ℤ (to.y *ℤ normal.y +ℤ to.z *ℤ normal.z)) (to.y *ℤ normal.y +ℤ to.z *ℤ normal.z) → size ≡ pos (unsigned_abs normal.x) → place ≡ quotient_up across size → far ≡ to.x +ℤ place → steps_below far 400000 ≡ columns_behind 400000 p f
behind_place p f normal to across size place far en some et ea es ep ef =
    let v : volume_at p f ≡ to.x *ℤ normal.x +ℤ (to.y *ℤ normal.y +ℤ to.z *ℤ normal.z) = volume_is p f ∙ sym (ap (λ (n : Arrow). (f.a.x.0 -ℤ p.x.0) *ℤ n.x +ℤ ((f.a.y.0 -ℤ p.y.0) *ℤ n.y +ℤ (f.a.z.0 -ℤ p.z.0) *ℤ n.z)) en) ∙ sym (ap (λ (t : Arrow). t.x *ℤ normal.x +ℤ (t.y *ℤ normal.y +ℤ t.z *ℤ normal.z)) et) in
    let whole : far ≡ to.x +ℤ quotient_up (cond (int_lt normal.x (pos 0)) (neg_ℤ (to.y *ℤ normal.y +ℤ to.z *ℤ normal.z)) (to.y *ℤ normal.y +ℤ to.z *ℤ normal.z)) (pos (unsigned_abs normal.x)) = ef ∙ ap (λ z. to.x +ℤ z) (ep ∙ ap (quotient_up across) es ∙ ap (λ z. quotient_up z (pos (unsigned_abs normal.x))) ea) in
    ap (λ z. steps_below z 400000) whole
    ∙ sym (by_place to.x (to.y *ℤ normal.y +ℤ to.z *ℤ normal.z) normal.x (volume_at p f) 400000 (omega arith) some v)
    ∙ ap (λ (n : Arrow). steps_below (cond (int_lt n.x (pos 0)) (neg_ℤ (volume_at p f)) (volume_at p f)) (400000 * unsigned_abs n.x)) en
