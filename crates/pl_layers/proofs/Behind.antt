-- One facet and one row: the cells that it hits are those below one place.
use Rattle.std.proofs.Common.{◌≡◌, ℤ, ℕ, pos, negsuc, suc, zero, neg_ℤ, ◌*ℤ◌, ◌-ℤ◌, ◌+◌, ◌≤◌, ◌<◌, ◌*◌, ◌/◌, Bool, true, false, ◌&&◌, cond, arith, refl, ap, sym, ◌∙◌, unsigned_abs}
use Rattle.std.specs.Prelude.{nat_lt, int_lt}
use Rattle.std.proofs.lemmas.Int.{ints}
use Rattle.std.proofs.lemmas.Nat.{div-add-mod', mod_below, mul-le}
use Rattle.std.proofs.lemmas.Bool.Decides.{nat_tests}
use Rattle.pl_layers.specs.Hits.{crosses_oddly, hits, same_sign}
use Rattle.pl_stl.specs.declared.mesh.Point3.{Point3}
use Rattle.pl_stl.specs.declared.mesh.Facet.{Facet}
use Rattle.pl_layers.specs.Rows.{along, turn, volume_at, steps_below, columns_behind, columns_hit}
use Rattle.pl_layers.proofs.Slopes.{volume_along}

-- ---- the quotient that rounds up

steps_pos : (i m k : ℕ) → nat_lt i ((k + m) / suc m) ≡ nat_lt (i * suc m) k
steps_pos i m k =
    let q = (k + m) / suc m in
    let whole = div-add-mod' (k + m) (suc m) in
    let rest = mod_below (k + m) (suc m) (omega arith) in
    let below : i < (k + m) / suc m → i * suc m < k = λ h. omega (arith, whole, rest, mul-le (suc i) (suc m) ((k + m) / suc m) (suc m) h (omega arith)) in
    let above : (k + m) / suc m ≤ i → k ≤ i * suc m = λ h. omega (arith, whole, rest, mul-le ((k + m) / suc m) (suc m) i (suc m) h (omega arith)) in
    grind (arith, nat_tests, below, above)

pub steps_below_is : (i m : ℕ) (e : ℤ) → 0 < m → nat_lt i (steps_below e m) ≡ int_lt (pos (i * m)) e
steps_below_is i zero e h = absurd (omega arith)
steps_below_is i (suc m) (pos k) h = steps_pos i m k
steps_below_is i (suc m) (negsuc k) h = grind (arith, nat_tests)

-- ---- the signs

sign_up : (s : ℤ) (n : ℕ) → same_sign s (pos (suc n)) ≡ int_lt (pos 0) s
sign_up (pos k) n = grind (arith, nat_tests)
sign_up (negsuc k) n = grind (arith, nat_tests)

sign_down : (s : ℤ) (n : ℕ) → same_sign s (negsuc n) ≡ int_lt s (pos 0)
sign_down (pos k) n = grind (arith, nat_tests)
sign_down (negsuc k) n = grind (arith, nat_tests)

sign_none : (s : ℤ) → same_sign s (pos 0) ≡ false
sign_none (pos k) = grind (arith, nat_tests)
sign_none (negsuc k) = grind (arith, nat_tests)

no_steps : (i : ℕ) (e : ℤ) (m : ℕ) → m ≡ 0 → nat_lt i (steps_below e m) ≡ false
no_steps i (pos k) zero h = grind (arith, nat_tests)
no_steps i (negsuc k) zero h = grind (arith, nat_tests)
no_steps i e (suc m) h = absurd (omega arith)

over_pos : (i cell n : ℕ) (d : ℤ) → int_lt (pos 0) (d -ℤ pos (i * cell) *ℤ pos (suc n)) ≡ int_lt (pos (i * (cell * suc n))) d
over_pos i cell n d =
    let e : i * cell * suc n ≡ i * (cell * suc n) = omega arith in
    grind (arith, ints, e)

over_neg : (i cell n : ℕ) (d : ℤ) → int_lt (d -ℤ pos (i * cell) *ℤ negsuc n) (pos 0) ≡ int_lt (pos (i * (cell * suc n))) (neg_ℤ d)
over_neg i cell n d =
    let e : i * cell * suc n ≡ i * (cell * suc n) = omega arith in
    grind (arith, ints, e)

-- ---- one facet

not_below : (n : ℕ) → int_lt (pos (suc n)) (pos 0) ≡ false
not_below n = grind (arith, nat_tests)

-- where the point has gone i cells along the ray, the facet is ahead while i is below the number of columns behind it
ahead_of : (i cell : ℕ) (d n : ℤ) → 0 < cell → same_sign (d -ℤ pos (i * cell) *ℤ n) n ≡ nat_lt i (steps_below (cond (int_lt n (pos 0)) (neg_ℤ d) d) (cell * unsigned_abs n))
ahead_of i cell d (pos zero) h = sign_none (d -ℤ pos (i * cell) *ℤ pos 0) ∙ sym (no_steps i d (cell * 0) (omega arith))
ahead_of i cell d (pos (suc n)) h =
    let some : 0 < cell * suc n = omega (arith, mul-le 1 1 cell (suc n) h (omega arith)) in
    sign_up (d -ℤ pos (i * cell) *ℤ pos (suc n)) n ∙ over_pos i cell n d ∙ sym (ap (λ b. nat_lt i (steps_below (cond b (neg_ℤ d) d) (cell * suc n))) (not_below n) ∙ steps_below_is i (cell * suc n) d some)
ahead_of i cell d (negsuc n) h =
    let some : 0 < cell * suc n = omega (arith, mul-le 1 1 cell (suc n) h (omega arith)) in
    sign_down (d -ℤ pos (i * cell) *ℤ negsuc n) n ∙ over_neg i cell n d ∙ sym (steps_below_is i (cell * suc n) (neg_ℤ d) some)

and_lt : (c : Bool) (i x : ℕ) → (c && nat_lt i x) ≡ nat_lt i (cond c x 0)
and_lt true i x = refl
and_lt false i x = grind (arith, nat_tests)

-- the cells of a row that hit a facet are those below one place
pub hits_along : (cell i : ℕ) (p : Point3) (f : Facet) → 0 < cell → hits (along p (pos (i * cell))) f ≡ nat_lt i (columns_hit cell p f)
hits_along cell i p f h =
    ap (λ v. crosses_oddly p f && same_sign v (turn f)) (volume_along p (pos (i * cell)) f)
    ∙ ap (λ b. crosses_oddly p f && b) (ahead_of i cell (volume_at p f) (turn f) h)
    ∙ and_lt (crosses_oddly p f) i (columns_behind cell p f)
