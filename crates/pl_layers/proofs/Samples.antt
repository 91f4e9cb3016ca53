-- The heights at which layers are sampled ascend, and how many there are.
use Rattle.std.proofs.Common.{◌≡◌, ℤ, ℕ, pos, suc, zero, ◌*ℤ◌, ◌+ℤ◌, ◌≤ℤ◌, ◌+◌, ◌-◌, ◌≤◌, ◌<◌, ◌*◌, ◌/◌, Bool, true, false, arith, refl, ap, ◌∙◌, unsigned_abs}
use Rattle.std.specs.Prelude.{nat_lt, int_lt, IsTrue}
use Rattle.std.specs.Int.{int_div_euclid}
use Rattle.std.proofs.lemmas.Int.{ints}
use Rattle.std.proofs.lemmas.Nat.{div-add-mod', mod_below, mul-le}
use Rattle.std.proofs.lemmas.Bool.Decides.{nat_tests}
use Rattle.pl_layers.specs.declared.heights.Heights.{Heights}
use Rattle.pl_layers.specs.Heights.{AreHeights, z_of, sample, exists_at, layers_from, layers_of}
use Rattle.pl_layers.specs.Samples.{sample_of}

-- ---- samples as natural numbers

pub size_of_positive : (z : ℤ) → pos 0 ≤ℤ z → z ≡ pos (unsigned_abs z)
size_of_positive z h = omega (arith, ints)

z_is : (h : Heights) (f t k : ℕ) → h.first.0 ≡ pos f → h.height.0 ≡ pos t → z_of h k ≡ pos (f + k * t)
z_is h f t k ef et = ap (λ z. z +ℤ pos k *ℤ h.height.0) ef ∙ ap (λ z. pos f +ℤ pos k *ℤ z) et ∙ omega (arith, ints)

half_of : (f t k : ℕ) → (f + k * t + (f + suc k * t)) / 2 ≡ f + k * t + t / 2
half_of f t k = omega arith

pub sample_is : (h : Heights) (f t k : ℕ) → h.first.0 ≡ pos f → h.height.0 ≡ pos t → sample h k ≡ pos (sample_of f t k)
sample_is h f t zero ef et = ap (λ z. int_div_euclid z (pos 2)) (z_is h f t 0 ef et) ∙ omega (arith, ints)
sample_is h f t (suc k) ef et =
    ap (λ z. int_div_euclid (z +ℤ z_of h (suc k)) (pos 2)) (z_is h f t k ef et)
    ∙ ap (λ z. int_div_euclid (pos (f + k * t) +ℤ z) (pos 2)) (z_is h f t (suc k) ef et)
    ∙ ap (λ n. pos n) (half_of f t k)

exists_is : (h : Heights) (f t tall k : ℕ) → h.first.0 ≡ pos f → h.height.0 ≡ pos t → exists_at h tall k ≡ nat_lt (sample_of f t k) tall
exists_is h f t tall k ef et = ap (λ z. int_lt z (pos tall)) (sample_is h f t k ef et) ∙ grind (arith, nat_tests)

pub sample_above : (h : Heights) (k : ℕ) (a b s r : ℤ) → 0 < k → a ≡ z_of h (k - 1) → b ≡ z_of h k → s ≡ a +ℤ b → r ≡ int_div_euclid s (pos 2) → r ≡ sample h k
sample_above h zero a b s r some ea eb es er = absurd (omega arith)
sample_above h (suc k) a b s r some ea eb es er =
    let less : suc k - 1 ≡ k = omega arith in
    er ∙ ap (λ z. int_div_euclid z (pos 2)) (es ∙ ap (λ z. z +ℤ b) (ea ∙ ap (z_of h) less) ∙ ap (λ z. z_of h k +ℤ z) eb)

-- ---- how many samples lie below a height

below_ceil : (k room m : ℕ) → (k < (room + m) / suc m → k * suc m < room) × (k * suc m < room → k < (room + m) / suc m)
below_ceil k room m =
    let whole = div-add-mod' (room + m) (suc m) in
    let rest = mod_below (room + m) (suc m) (omega arith) in
    let above : (room + m) / suc m ≤ k → room ≤ k * suc m = λ h. omega (arith, whole, rest, mul-le ((room + m) / suc m) (suc m) k (suc m) h (omega arith)) in
    (λ h. omega (arith, whole, rest, mul-le (suc k) (suc m) ((room + m) / suc m) (suc m) h (omega arith)), λ h. grind (arith, above))

later : (f t tall k : ℕ) → (k * t < tall - (f + t / 2) → f + k * t + t / 2 < tall) × (f + k * t + t / 2 < tall → k * t < tall - (f + t / 2))
later f t tall k = (λ h. omega arith, λ h. omega arith)

-- the first layer, and then as many as the height has room for
pub count_exact : (f t tall k : ℕ) → 0 < t → f / 2 < tall → (k < 1 + (tall - (f + t / 2) + (t - 1)) / t → sample_of f t k < tall) × (sample_of f t k < tall → k < 1 + (tall - (f + t / 2) + (t - 1)) / t)
count_exact f zero tall k some first = absurd (omega arith)
count_exact f (suc m) tall zero some first = (λ h. first, λ h. omega arith)
count_exact f (suc m) tall (suc k) some first =
    let less : suc m - 1 ≡ m = omega arith in
    let ceil = below_ceil k (tall - (f + suc m / 2)) m in
    let room = later f (suc m) tall k in
    rw less (λ h. room.0 (ceil.0 (omega arith)), λ h. omega (arith, ceil.1 (room.1 h)))

-- ---- the count of the definition

step : (b : Bool) (k n x : ℕ) → b ≡ nat_lt k n → k ≤ n → (k < n → x + (k + 1) ≡ n) → (elim b [ true ↦ suc x | false ↦ 0 ]) + k ≡ n
step true k n x e low more =
    let less : k < n = grind (arith, nat_tests, e) in
    omega (arith, more less)
step false k n x e low more =
    let most : n ≤ k = grind (arith, nat_tests, e) in
    omega arith

layers_from_is : (h : Heights) (tall n most k : ℕ) → ((j : ℕ) → exists_at h tall j ≡ nat_lt j n) → k ≤ n → n ≤ k + most → layers_from h tall most k + k ≡ n
layers_from_is h tall n zero k e low high = omega arith
layers_from_is h tall n (suc most) k e low high =
    step (exists_at h tall k) k n (layers_from h tall most (k + 1)) (e k) low (λ less. layers_from_is h tall n most (k + 1) e (omega arith) (omega arith))

-- samples are a nanometre apart or more
sample_of_high : (f t k : ℕ) → 0 < t → k ≤ sample_of f t k + 1
sample_of_high f t zero some = omega arith
sample_of_high f t (suc k) some = omega (arith, mul-le k 1 k t (omega arith) some)

count_few : (f t tall n : ℕ) → 0 < t → ((k : ℕ) → k < n → sample_of f t k < tall) → n ≤ tall + 1
count_few f t tall zero some each = omega arith
count_few f t tall (suc n) some each = omega (arith, sample_of_high f t n some, each n (omega arith))

same_test : (a b c d : ℕ) → (a < b → c < d) → (c < d → a < b) → nat_lt c d ≡ nat_lt a b
same_test a b c d to from = grind (arith, nat_tests, to, from)

-- a number below which the layers lie that exist is how many there are
pub layers_of_is : (h : Heights) (f t tall n : ℕ) → h.first.0 ≡ pos f → h.height.0 ≡ pos t → 0 < t → ((k : ℕ) → (k < n → sample_of f t k < tall) × (sample_of f t k < tall → k < n)) → layers_of h tall ≡ n
layers_of_is h f t tall n ef et some each =
    let few : n ≤ tall + 1 = count_few f t tall n some (λ k. (each k).0) in
    let all : layers_from h tall (tall + 1) 0 + 0 ≡ n = layers_from_is h tall n (tall + 1) 0 (λ j. exists_is h f t tall j ef et ∙ same_test j n (sample_of f t j) tall (each j).0 (each j).1) (omega arith) (omega arith) in
    omega (arith, all)

exists_true : (h : Heights) (f t tall k : ℕ) → h.first.0 ≡ pos f → h.height.0 ≡ pos t → (IsTrue (exists_at h tall k) → sample_of f t k < tall) × (sample_of f t k < tall → IsTrue (exists_at h tall k))
exists_true h f t tall k ef et = rw (exists_is h f t tall k ef et) (grind (arith, nat_tests), grind (arith, nat_tests))

pub exact_at : (h : Heights) (f t tall k n : ℕ) → h.first.0 ≡ pos f → h.height.0 ≡ pos t → (k < n → sample_of f t k < tall) × (sample_of f t k < tall → k < n) → (k < n → IsTrue (exists_at h tall k)) × (IsTrue (exists_at h tall k) → k < n)
exact_at h f t tall k n ef et (to, from) =
    let there = exists_true h f t tall k ef et in
    (λ less. there.1 (to less), λ holds. from (there.0 holds))

-- ---- layers that exist

sample_of_low : (f t k : ℕ) → f / 2 ≤ sample_of f t k
sample_of_low f t zero = omega arith
sample_of_low f t (suc k) = omega arith

counted : (f t tall : ℕ) (b : Bool) → b ≡ nat_lt (f / 2) tall → 0 < t → (n : ℕ) × ((k : ℕ) → (k < n → sample_of f t k < tall) × (sample_of f t k < tall → k < n))
counted f t tall true e some = (1 + (tall - (f + t / 2) + (t - 1)) / t, λ k. count_exact f t tall k some (grind (arith, nat_tests, e)))
counted f t tall false e some =
    let most : tall ≤ f / 2 = grind (arith, nat_tests, e) in
    (0, λ k. (λ h. absurd (omega arith), λ h. absurd (omega (arith, sample_of_low f t k))))

below_from_count : (h : Heights) (f t tall k : ℕ) → h.first.0 ≡ pos f → h.height.0 ≡ pos t → 0 < t → ((n : ℕ) × ((k : ℕ) → (k < n → sample_of f t k < tall) × (sample_of f t k < tall → k < n))) → k < layers_of h tall → sample_of f t k < tall
below_from_count h f t tall k ef et some (n, each) less = (each k).0 (omega (arith, layers_of_is h f t tall n ef et some each))

sample_of_wide : (f t k : ℕ) → 20000 ≤ t → k * 20000 ≤ sample_of f t k + 20000
sample_of_wide f t zero wide = omega arith
sample_of_wide f t (suc k) wide = omega (arith, mul-le k 20000 k t (omega arith) wide)

-- a layer that a mesh has is sampled above its bottom and below its top, and its number is small
pub record IsSampled (h : Heights) (tall k : ℕ) : Type 0 where
  pub low : pos 0 ≤ℤ sample h k
  pub high : sample h k ≤ℤ pos tall
  pub few : k ≤ 2000000

pub IsSampled-from_count : (h : Heights) (tall k : ℕ) → AreHeights h → tall ≤ 2000000000 → k < layers_of h tall → IsSampled h tall k
IsSampled-from_count h tall k are small less =
    let f : ℕ = unsigned_abs h.first.0 in
    let t : ℕ = unsigned_abs h.height.0 in
    let ef : h.first.0 ≡ pos (unsigned_abs h.first.0) = size_of_positive h.first.0 (omega (arith, ints, are.first_low)) in
    let et : h.height.0 ≡ pos (unsigned_abs h.height.0) = size_of_positive h.height.0 (omega (arith, ints, are.low)) in
    let wide : 20000 ≤ unsigned_abs h.height.0 = omega (arith, ints, are.low) in
    let below : sample_of (unsigned_abs h.first.0) (unsigned_abs h.height.0) k < tall = below_from_count h _ _ tall k ef et (omega (arith, wide)) (counted _ _ tall _ refl (omega (arith, wide))) less in
    let e : sample h k ≡ pos (sample_of (unsigned_abs h.first.0) (unsigned_abs h.height.0) k) = sample_is h _ _ k ef et in
    record { low = omega (arith, ints, e); high = omega (arith, ints, e, below); few = omega (arith, below, sample_of_wide (unsigned_abs h.first.0) (unsigned_abs h.height.0) k wide) }
