-- The heights of a print are the tops of the layers.
use Rattle.std.proofs.Common.{◌≡◌, ℤ, ℕ, zero, suc, pos, ◌<◌, ◌+ℤ◌, ◌<ℤ◌, ◌≤ℤ◌, List, Some, length, sym, ap, subst, ◌∙◌, inl, inr, ⊎_elim, arith}
use Rattle.std.specs.Prelude.{◌⊎◌, Contains, slice_index_or}
use Rattle.std.specs.Option.{IfSome}
use Rattle.std.specs.List.{flat_map}
use Rattle.std.proofs.lemmas.Bool.{cases_lt}
use Rattle.std.proofs.lemmas.Int.{ints}
use Rattle.std.proofs.lemmas.List.{get_or_default}
use Rattle.std.proofs.lemmas.List.Elements.{Contains-get_or}
use Rattle.std.proofs.lemmas.Option.{slice_get_within, slice_get-get_or, same_Some}
use Rattle.pl_options.specs.KeyMap.{IsOverrides}
use Rattle.pl_layers.specs.declared.heights.Heights.{Heights}
use Rattle.pl_layers.specs.Heights.{AreHeights, z_of}
use Rattle.pl_model.specs.declared.object.Object.{Object}
use Rattle.pl_model.specs.Contents.{Contents}
use Rattle.pl_model.specs.Editing.{IsAt}
use Rattle.pl_model.specs.Problem.{heights_for}
use Rattle.pl_values.specs.Ascending.{Ascend}
use Rattle.pl_values.specs.ObjectValues.{layers_for}
use Rattle.pl_values.specs.PrintValues.{objects_of, tops_for, tops_of}
use Rattle.pl_values.specs.Ranges.{IsInRange, IsTop}
use Rattle.pl_values.proofs.Members.{Contains-flat_map, Contains-from_flat_map, Contains-map_range, Contains-from_map_range, Contains-filled, Contains-from_filled}
use Rattle.pl_values.proofs.Ascends.{Ascend-ascending, Contains-ascending, Contains-from_ascending}
use Rattle.pl_values.proofs.OptionRanges.{heights_fit}

pub Ascend-tops_of : (plate : Contents) → Ascend (tops_of plate)
Ascend-tops_of plate = Ascend-ascending (flat_map (tops_for plate.config) (objects_of plate))

pub IsTop-from_Contains : (plate : Contents) (z : ℤ) → Contains (tops_of plate) z → IsTop plate z
IsTop-from_Contains plate z c =
    let found = Contains-from_flat_map (tops_for plate.config) (objects_of plate) z (Contains-from_ascending (flat_map (tops_for plate.config) (objects_of plate)) z c) in
    let at = Contains-from_filled plate.places found.0 found.1 in
    let layer = Contains-from_map_range (z_of (heights_for plate.config found.0)) (layers_for plate.config found.0) z found.2 in
    record { place = at.0; object = found.0; layer = layer.0; there = at.1; below = layer.1; top = layer.2 }

pub Contains-tops_for : (plate : Contents) (place : ℕ) (object : Object) (k : ℕ) → IsAt plate.places place object → k < layers_for plate.config object → Contains (tops_of plate) (z_of (heights_for plate.config object) k)
Contains-tops_for plate place object k there below =
    Contains-ascending (flat_map (tops_for plate.config) (objects_of plate)) (z_of (heights_for plate.config object) k)
    (Contains-flat_map (tops_for plate.config) (objects_of plate) object (z_of (heights_for plate.config object) k)
    (Contains-filled plate.places place object there)
    (Contains-map_range (z_of (heights_for plate.config object)) (layers_for plate.config object) k below))

pub Contains-from_IsTop : (plate : Contents) (z : ℤ) → IsTop plate z → Contains (tops_of plate) z
Contains-from_IsTop plate z t = subst (λ y. Contains (tops_of plate) y) (sym t.top) (Contains-tops_for plate t.place t.object t.layer t.there t.below)

pub IsOverrides-at : (plate : Contents) (place : ℕ) (object : Object) → IsInRange plate → IsAt plate.places place object → IsOverrides object.overrides
IsOverrides-at plate place object p there =
    let low : place < length plate.places = slice_get_within plate.places place (Some object) there in
    let is : slice_index_or plate.places place (Some object) ≡ Some object = same_Some _ _ (sym (slice_get-get_or plate.places place (Some object) low) ∙ there) in
    subst (λ o. IfSome o (λ object. IsOverrides object.overrides)) is (p.overrides place (Some object) low)

-- ---- from a number to the next

-- a number of a list is 1 or more, and at most 1,000,000 more than nothing or than another number of it, which it is above
pub record IsReached (zs : List ℤ) (z : ℤ) : Type 0 where
  pub low : pos 1 ≤ℤ z
  pub near : (z ≤ℤ pos 1000000) ⊎ ((y : ℤ) × Contains zs y × (y <ℤ z) × (z ≤ℤ (y +ℤ pos 1000000)))

-- no number of an ascending list lies below the first, and none between two neighbours
least_at : (zs : List ℤ) (y : ℤ) (j : ℕ) → Ascend zs → j < length zs → slice_index_or zs j y ≡ y → slice_index_or zs 0 y ≤ℤ y
least_at zs y zero a l e = omega (arith, ints)
least_at zs y (suc j) a l e = let below : slice_index_or zs 0 y <ℤ slice_index_or zs (suc j) y = a 0 (suc j) y (omega arith) l in omega (arith, ints)

between : (zs : List ℤ) (i : ℕ) (y : ℤ) (j : ℕ) → Ascend zs → suc i < length zs → j < length zs → slice_index_or zs j y ≡ y → y <ℤ slice_index_or zs (suc i) y → y ≤ℤ slice_index_or zs i y
between zs i y j a less l e h = ⊎_elim
    (λ early. ⊎_elim
    (λ earlier. let below : slice_index_or zs j y <ℤ slice_index_or zs i y = a j i y earlier (omega arith) in omega (arith, ints))
    (λ same. let is : slice_index_or zs j y ≡ slice_index_or zs i y = ap (λ k. slice_index_or zs k y) same in omega (arith, ints))
    early)
    (λ late. absurd (⊎_elim
    (λ later. let above : slice_index_or zs (suc i) y <ℤ slice_index_or zs j y = a (suc i) j y later l in omega (arith, ints))
    (λ same. let is : slice_index_or zs j y ≡ slice_index_or zs (suc i) y = ap (λ k. slice_index_or zs k y) same in omega (arith, ints))
    late))
    (places j i)
  where
    places : (j i : ℕ) → ((j < i) ⊎ (j ≡ i)) ⊎ ((suc i < j) ⊎ (j ≡ suc i))
    places j i = ⊎_elim (λ h. inl (inl h)) (λ h. ⊎_elim (λ k. inr (inl k)) (λ k. ⊎_elim (λ q. inl (inr (omega arith))) (λ q. inr (inr (omega arith))) (cases_lt j (suc i))) (cases_lt (suc i) j)) (cases_lt j i)

-- the first number is a track's height, and so is each further one less the one before
pub first_rise : (zs : List ℤ) → Ascend zs → ((z : ℤ) → Contains zs z → IsReached zs z) → 0 < length zs → slice_index_or zs 0 (pos 0) ≤ℤ pos 1000000
first_rise zs a each some =
    let z : ℤ = slice_index_or zs 0 (pos 0) in
    let r : IsReached zs z = each z (Contains-get_or zs 0 (pos 0) some) in
    ⊎_elim
    (λ h. h)
    (λ h.
    let y : ℤ = h.0 in
    let least : slice_index_or zs 0 y ≤ℤ y = least_at zs y h.1.0 a h.1.1 h.1.2 in
    let is : slice_index_or zs 0 y ≡ z = get_or_default zs 0 y (pos 0) some in
    let above : y <ℤ z = h.2 in
    absurd (omega (arith, ints)))
    r.near

pub next_rise : (zs : List ℤ) (i : ℕ) → Ascend zs → ((z : ℤ) → Contains zs z → IsReached zs z) → suc i < length zs → slice_index_or zs (suc i) (pos 0) ≤ℤ (slice_index_or zs i (pos 0) +ℤ pos 1000000)
next_rise zs i a each less =
    let z : ℤ = slice_index_or zs (suc i) (pos 0) in
    let before : ℤ = slice_index_or zs i (pos 0) in
    let within : i < length zs = omega arith in
    let r : IsReached zs z = each z (Contains-get_or zs (suc i) (pos 0) less) in
    let b : IsReached zs before = each before (Contains-get_or zs i (pos 0) within) in
    let low : pos 1 ≤ℤ before = b.low in
    ⊎_elim
    (λ h. let near : z ≤ℤ pos 1000000 = h in omega (arith, ints))
    (λ h.
    let y : ℤ = h.0 in
    let at : slice_index_or zs (suc i) y ≡ z = get_or_default zs (suc i) y (pos 0) less in
    let at_before : slice_index_or zs i y ≡ before = get_or_default zs i y (pos 0) within in
    let above : y <ℤ z = h.2 in
    let below : y <ℤ slice_index_or zs (suc i) y = subst (λ x. y <ℤ x) (sym at) above in
    let here : y ≤ℤ slice_index_or zs i y = between zs i y h.1.0 a less h.1.1 h.1.2 below in
    let near : z ≤ℤ (y +ℤ pos 1000000) = h.3 in
    omega (arith, ints))
    r.near

-- ---- tops are reached

z_first : (h : Heights) → z_of h 0 ≡ h.first.0
z_first h = omega (arith, ints)

z_next : (h : Heights) (k : ℕ) → z_of h (suc k) ≡ z_of h k +ℤ h.height.0
z_next h k = omega (arith, ints)

low_z : (h : Heights) (k : ℕ) → AreHeights h → pos 1 ≤ℤ z_of h k
low_z h zero r = let low : pos 20000 ≤ℤ h.first.0 = r.first_low in omega (arith, ints, z_first h)
low_z h (suc k) r =
    let low : pos 20000 ≤ℤ h.height.0 = r.low in
    let before : pos 1 ≤ℤ z_of h k = low_z h k r in
    omega (arith, ints, z_next h k)

reached_at : (plate : Contents) (place : ℕ) (object : Object) (k : ℕ) → AreHeights (heights_for plate.config object) → IsAt plate.places place object → k < layers_for plate.config object → IsReached (tops_of plate) (z_of (heights_for plate.config object) k)
reached_at plate place object zero r there below =
    let h : Heights = heights_for plate.config object in
    let high : h.first.0 ≤ℤ pos 1000000 = r.first_high in
    record { low = low_z h 0 r; near = inl (omega (arith, ints, z_first h)) }
reached_at plate place object (suc k) r there below =
    let h : Heights = heights_for plate.config object in
    let low : pos 20000 ≤ℤ h.height.0 = r.low in
    let high : h.height.0 ≤ℤ pos 1000000 = r.high in
    record {
      low = low_z h (suc k) r;
      near = inr (z_of h k, Contains-tops_for plate place object k there (omega arith), omega (arith, ints, z_next h k), omega (arith, ints, z_next h k));
    }

pub each_reached : (plate : Contents) → IsInRange plate → (z : ℤ) → Contains (tops_of plate) z → IsReached (tops_of plate) z
each_reached plate p z c =
    let t = IsTop-from_Contains plate z c in
    let o = IsOverrides-at plate t.place t.object p t.there in
    subst (λ y. IsReached (tops_of plate) y) (sym t.top) (reached_at plate t.place t.object t.layer (heights_fit plate.config t.object p.config o) t.there t.below)
