-- The layers of an object: their planes, and which of them has a top.
use Rattle.std.proofs.Common.{◌≡◌, ℤ, ℕ, zero, suc, pos, ◌<◌, ◌+◌, ◌+ℤ◌, ◌<ℤ◌, ◌≤ℤ◌, Bool, true, false, not, cond, List, [], ◌∷◌, length, Some, None, refl, sym, ap, subst, ◌∙◌, ⊎_elim, arith}
use Rattle.std.specs.Prelude.{is_some, slice_index_or, nat_lt}
use Rattle.std.specs.Ordering.{int_eq}
use Rattle.std.specs.List.{position_or_len}
use Rattle.std.proofs.lemmas.Int.{ints}
use Rattle.std.proofs.lemmas.Bool.{cases_lt}
use Rattle.std.proofs.lemmas.Bool.Decides.{nat_tests}
use Rattle.std.proofs.lemmas.List.FromFn.{length-map-range_with_len, get_or-map-range_with_len}
use Rattle.std.proofs.lemmas.List.Quantifiers.{position-Some}
use Rattle.std.proofs.lemmas.List.Sums.{position_or_len_is}
use Rattle.pl_layers.specs.declared.heights.Heights.{Heights}
use Rattle.pl_layers.specs.Heights.{AreHeights, z_of}
use Rattle.pl_layers.specs.Slices.{slice_of}
use Rattle.pl_fill.specs.Surfaces.{layer_at}
use Rattle.pl_options.specs.KeyMap.{KeyMap}
use Rattle.pl_model.specs.declared.object.Object.{Object}
use Rattle.pl_model.specs.Problem.{heights_for}
use Rattle.pl_values.specs.ObjectValues.{layers_for, slices_for}
use Rattle.pl_values.specs.PrintValues.{tops_for, layer_with_top}
use Rattle.pl_values.proofs.Members.{Contains-map_range}

-- ---- planes

pub count_of_slices : (config : KeyMap) (object : Object) → length (slices_for config object) ≡ layers_for config object
count_of_slices config object = length-map-range_with_len (slice_of object.mesh object.quarter (heights_for config object)) 0 (layers_for config object)

pub slice_at_layer : (config : KeyMap) (object : Object) (k : ℕ) → k < layers_for config object → layer_at (slices_for config object) k ≡ slice_of object.mesh object.quarter (heights_for config object) k
slice_at_layer config object k below = get_or-map-range_with_len (slice_of object.mesh object.quarter (heights_for config object)) 0 (layers_for config object) k k _ below (omega arith)

-- ---- tops

passes_early : (p : ℤ → Bool) (zs : List ℤ) (k : ℕ) (d : ℤ) → k < length zs → p (slice_index_or zs k d) ≡ true → position_or_len p zs < length zs
passes_early p [] k d l h = absurd (omega arith)
passes_early p (z ∷ zs) zero d l h = rw h (omega arith)
passes_early p (z ∷ zs) (suc k) d l h =
    elim (p z) as (λ b. cond (not b) (1 + position_or_len p zs) 0 < suc (length zs)) [ true ↦ omega arith | false ↦ omega (arith, passes_early p zs k d (omega arith) h) ]

found : (n m : ℕ) → n < m → is_some (cond (nat_lt n m) (Some n) None) ≡ true
found n m l = let w : nat_lt n m ≡ true = grind (arith, nat_tests) in rw w refl

same_int : (z y : ℤ) → y ≡ z → int_eq y z ≡ true
same_int z y e = grind (arith, ints)

-- an object has a layer with a top of its own
pub has_layer : (config : KeyMap) (object : Object) (k : ℕ) → k < layers_for config object → is_some (layer_with_top config object (z_of (heights_for config object) k)) ≡ true
has_layer config object k below =
    let z : ℤ = z_of (heights_for config object) k in
    let at = Contains-map_range (z_of (heights_for config object)) (layers_for config object) k below in
    found (position_or_len (λ top. int_eq top z) (tops_for config object)) (length (tops_for config object)) (passes_early (λ top. int_eq top z) (tops_for config object) at.0 z at.1 (same_int z _ at.2))

int_same : (z y : ℤ) → int_eq y z ≡ true → y ≡ z
int_same z y e = grind (arith, ints)

int_apart : (z y : ℤ) → y <ℤ z → int_eq y z ≡ false
int_apart z y l = grind (arith, ints)

top_at : (config : KeyMap) (object : Object) (k : ℕ) (d : ℤ) → k < layers_for config object → slice_index_or (tops_for config object) k d ≡ z_of (heights_for config object) k
top_at config object k d below = get_or-map-range_with_len (z_of (heights_for config object)) 0 (layers_for config object) k k d below (omega arith)

count_of_tops : (config : KeyMap) (object : Object) → length (tops_for config object) ≡ layers_for config object
count_of_tops config object = length-map-range_with_len (z_of (heights_for config object)) 0 (layers_for config object)

-- the layer that is found has the top
pub layer_is : (config : KeyMap) (object : Object) (z : ℤ) (k : ℕ) → layer_with_top config object z ≡ Some k → (k < layers_for config object) × (z_of (heights_for config object) k ≡ z)
layer_is config object z k is =
    let found = position-Some (λ top. int_eq top z) (tops_for config object) k (pos 0) is in
    let below : k < layers_for config object = subst (λ n. k < n) (count_of_tops config object) found.0 in
    (below, sym (top_at config object k (pos 0) below) ∙ int_same z _ found.1)

tops_rise : (h : Heights) (j k : ℕ) → AreHeights h → j < k → z_of h j <ℤ z_of h k
tops_rise h j zero r l = absurd (omega arith)
tops_rise h j (suc k) r l =
    let low : pos 20000 ≤ℤ h.height.0 = r.low in
    let next : z_of h (suc k) ≡ z_of h k +ℤ h.height.0 = omega (arith, ints) in
    ⊎_elim
    (λ below. let before : z_of h j <ℤ z_of h k = tops_rise h j k r below in omega (arith, ints))
    (λ same. let e : j ≡ k = omega arith in let is : z_of h j ≡ z_of h k = ap (z_of h) e in omega (arith, ints))
    (cases_lt j k)

-- and a layer that has the top is found: it is the only one
pub layer_found : (config : KeyMap) (object : Object) (k : ℕ) → AreHeights (heights_for config object) → k < layers_for config object → layer_with_top config object (z_of (heights_for config object) k) ≡ Some k
layer_found config object k r below =
    let h : Heights = heights_for config object in
    let test : ℤ → Bool = λ top. int_eq top (z_of h k) in
    let all : List ℤ = tops_for config object in
    let within : k < length all = subst (λ n. k < n) (sym (count_of_tops config object)) below in
    let at : position_or_len test all ≡ k = position_or_len_is test all k (pos 0) (omega arith)
    (λ j l. int_apart (z_of h k) _ (subst (λ y. y <ℤ z_of h k) (sym (top_at config object j (pos 0) (omega arith))) (tops_rise h j k r l)))
    (λ l. same_int (z_of h k) _ (top_at config object k (pos 0) below)) in
    let passes : nat_lt k (length all) ≡ true = grind (arith, nat_tests) in
    ap (λ n. cond (nat_lt n (length all)) (Some n) None) at ∙ ap (λ b. cond b (Some k) None) passes
