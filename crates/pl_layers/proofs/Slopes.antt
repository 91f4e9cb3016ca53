-- One facet and one row: the cells whose ray hits it.
use Rattle.std.proofs.Common.{◌≡◌, ℤ, neg_ℤ, ◌*ℤ◌, ◌+ℤ◌, ◌-ℤ◌, ◌*◌, arith, ap, ◌∙◌}
use Rattle.std.proofs.Math.IntN.{*ℤ_comm}
use Rattle.std.proofs.lemmas.Int.{ints}
use borrow.Author.Differences.{up, down, sum_is_lem, neg_is, product_is}
use Rattle.pl_stl.specs.declared.mesh.Point3.{Point3}
use Rattle.pl_stl.specs.declared.mesh.Facet.{Facet}
use Rattle.pl_layers.specs.Rows.{along, turn, volume_at}

pub mul_add : (a b c : ℤ) → a *ℤ (b +ℤ c) ≡ a *ℤ b +ℤ a *ℤ c
mul_add a b c = omega (arith, ints, ap (λ n. up a * n) (sum_is_lem b c), ap (λ n. down a * n) (sum_is_lem b c))

pub mul_neg : (a b : ℤ) → a *ℤ neg_ℤ b ≡ neg_ℤ (a *ℤ b)
mul_neg a b = omega (arith, ints, ap (λ n. up a * n) (neg_is b).0, ap (λ n. up a * n) (neg_is b).1, ap (λ n. down a * n) (neg_is b).0, ap (λ n. down a * n) (neg_is b).1)

mul_sub : (a b c : ℤ) → a *ℤ (b -ℤ c) ≡ a *ℤ b -ℤ a *ℤ c
mul_sub a b c = mul_add a b (neg_ℤ c) ∙ ap (λ z. a *ℤ b +ℤ z) (mul_neg a c)

pub sub_mul : (a b c : ℤ) → (a -ℤ b) *ℤ c ≡ a *ℤ c -ℤ b *ℤ c
sub_mul a b c = *ℤ_comm (a -ℤ b) c ∙ mul_sub c a b ∙ ap (λ z. z -ℤ c *ℤ b) (*ℤ_comm c a) ∙ ap (λ z. a *ℤ c -ℤ z) (*ℤ_comm c b)

pub mul_left : (t u b : ℤ) → u *ℤ (t *ℤ b) ≡ t *ℤ (u *ℤ b)
mul_left t u b = omega (arith, ints, ap (λ n. up u * n) (product_is t b).0, ap (λ n. up u * n) (product_is t b).1, ap (λ n. down u * n) (product_is t b).0, ap (λ n. down u * n) (product_is t b).1, ap (λ n. up t * n) (product_is u b).0, ap (λ n. up t * n) (product_is u b).1, ap (λ n. down t * n) (product_is u b).0, ap (λ n. down t * n) (product_is u b).1)

-- the two products that the shift of the other two arrows changes
shifted_products : (a b x y t : ℤ) → a *ℤ (x -ℤ t) -ℤ (y -ℤ t) *ℤ b ≡ (a *ℤ x -ℤ y *ℤ b) -ℤ t *ℤ (a -ℤ b)
shifted_products a b x y t = omega (arith, ints, mul_sub a x t, sub_mul y t b, mul_sub t a b)

pub cross_of : (uy uz vy vz wy wz : ℤ) → (vy -ℤ uy) *ℤ (wz -ℤ uz) -ℤ (vz -ℤ uz) *ℤ (wy -ℤ uy) ≡ (vy *ℤ wz -ℤ vz *ℤ wy) +ℤ (uy *ℤ (vz -ℤ wz) +ℤ uz *ℤ (wy -ℤ vy))
cross_of uy uz vy vz wy wz =
    omega (arith, ints, sub_mul vy uy (wz -ℤ uz), sub_mul vz uz (wy -ℤ uy), mul_sub vy wz uz, mul_sub uy wz uz, mul_sub vz wy uy, mul_sub uz wy uy, mul_sub uy vz wz, mul_sub uz wy vy)

swap_out : (t u a b : ℤ) → u *ℤ (a -ℤ t *ℤ b) ≡ u *ℤ a -ℤ t *ℤ (u *ℤ b)
swap_out t u a b = mul_sub u a (t *ℤ b) ∙ ap (λ z. u *ℤ a -ℤ z) (mul_left t u b)

-- the determinant falls by the x part of the normal for each unit along the ray
slope_of : (ux uy uz vx vy vz wx wy wz t : ℤ) → (ux -ℤ t) *ℤ (vy *ℤ wz -ℤ vz *ℤ wy) +ℤ uy *ℤ (vz *ℤ (wx -ℤ t) -ℤ (vx -ℤ t) *ℤ wz) +ℤ uz *ℤ ((vx -ℤ t) *ℤ wy -ℤ vy *ℤ (wx -ℤ t)) ≡ (ux *ℤ (vy *ℤ wz -ℤ vz *ℤ wy) +ℤ uy *ℤ (vz *ℤ wx -ℤ vx *ℤ wz) +ℤ uz *ℤ (vx *ℤ wy -ℤ vy *ℤ wx)) -ℤ t *ℤ ((vy -ℤ uy) *ℤ (wz -ℤ uz) -ℤ (vz -ℤ uz) *ℤ (wy -ℤ uy))
slope_of ux uy uz vx vy vz wx wy wz t =
    let second = ap (λ z. uy *ℤ z) (shifted_products vz wz wx vx t) ∙ swap_out t uy (vz *ℤ wx -ℤ vx *ℤ wz) (vz -ℤ wz) in
    let turned : (vx -ℤ t) *ℤ wy -ℤ vy *ℤ (wx -ℤ t) ≡ (vx *ℤ wy -ℤ vy *ℤ wx) -ℤ t *ℤ (wy -ℤ vy) = omega (arith, ints, sub_mul vx t wy, mul_sub vy wx t, mul_sub t wy vy) in
    let third = ap (λ z. uz *ℤ z) turned ∙ swap_out t uz (vx *ℤ wy -ℤ vy *ℤ wx) (wy -ℤ vy) in
    let normal = ap (λ z. t *ℤ z) (cross_of uy uz vy vz wy wz) ∙ mul_add t (vy *ℤ wz -ℤ vz *ℤ wy) (uy *ℤ (vz -ℤ wz) +ℤ uz *ℤ (wy -ℤ vy)) ∙ ap (λ z. t *ℤ (vy *ℤ wz -ℤ vz *ℤ wy) +ℤ z) (mul_add t (uy *ℤ (vz -ℤ wz)) (uz *ℤ (wy -ℤ vy))) in
    omega (arith, ints, second, third, normal, sub_mul ux t (vy *ℤ wz -ℤ vz *ℤ wy))

-- each further unit along the ray takes the x part of the facet's normal from the volume
pub volume_along : (p : Point3) (t : ℤ) (f : Facet) → volume_at (along p t) f ≡ volume_at p f -ℤ t *ℤ turn f
volume_along p t f =
    let ea : f.a.x.0 -ℤ (p.x.0 +ℤ t) ≡ f.a.x.0 -ℤ p.x.0 -ℤ t = omega (arith, ints) in
    let eb : f.b.x.0 -ℤ (p.x.0 +ℤ t) ≡ f.b.x.0 -ℤ p.x.0 -ℤ t = omega (arith, ints) in
    let ec : f.c.x.0 -ℤ (p.x.0 +ℤ t) ≡ f.c.x.0 -ℤ p.x.0 -ℤ t = omega (arith, ints) in
    let by : f.b.y.0 -ℤ f.a.y.0 ≡ f.b.y.0 -ℤ p.y.0 -ℤ (f.a.y.0 -ℤ p.y.0) = omega (arith, ints) in
    let bz : f.b.z.0 -ℤ f.a.z.0 ≡ f.b.z.0 -ℤ p.z.0 -ℤ (f.a.z.0 -ℤ p.z.0) = omega (arith, ints) in
    let cy : f.c.y.0 -ℤ f.a.y.0 ≡ f.c.y.0 -ℤ p.y.0 -ℤ (f.a.y.0 -ℤ p.y.0) = omega (arith, ints) in
    let cz : f.c.z.0 -ℤ f.a.z.0 ≡ f.c.z.0 -ℤ p.z.0 -ℤ (f.a.z.0 -ℤ p.z.0) = omega (arith, ints) in
    rw (ea, eb, ec, by, bz, cy, cz) (slope_of (f.a.x.0 -ℤ p.x.0) (f.a.y.0 -ℤ p.y.0) (f.a.z.0 -ℤ p.z.0) (f.b.x.0 -ℤ p.x.0) (f.b.y.0 -ℤ p.y.0) (f.b.z.0 -ℤ p.z.0) (f.c.x.0 -ℤ p.x.0) (f.c.y.0 -ℤ p.y.0) (f.c.z.0 -ℤ p.z.0) t)
