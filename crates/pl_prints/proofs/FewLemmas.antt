-- How many layers an object and how many heights a plate has.
use Rattle.std.proofs.Common.{◌≡◌, ℤ, ℕ, pos, negsuc, ◌/◌, ◌+ℤ◌, ◌-ℤ◌, ◌*ℤ◌, ◌≤ℤ◌, ◌≤◌, ◌<◌, ◌+◌, ◌*◌, ◌^◌, ◌++◌, List, length, map, get_or, take, Option, Some, refl, sym, ap, ◌∙◌, arith, unsigned_abs}
use Rattle.std.specs.Int.{int_div_euclid}
use Rattle.std.specs.List.{flat_map, filter_map}
use Rattle.std.proofs.lemmas.Int.{ints}
use Rattle.std.proofs.lemmas.List.{length-map, length-append, take_all}
use Rattle.std.proofs.lemmas.List.Folds.{flat_map-map}
use Rattle.std.proofs.lemmas.List.FromFn.{length-map-range_with_len}
use Rattle.pl_units.specs.Within.{Within}
use Rattle.pl_stl.specs.Mesh.{IsMesh}
use Rattle.pl_stl.specs.declared.mesh.Facet.{Facet}
use Rattle.pl_layers.specs.declared.heights.Heights.{Heights}
use Rattle.pl_layers.specs.Heights.{AreHeights, layer_count_of, z_of}
use Rattle.pl_layers.specs.Turned.{reach}
use Rattle.pl_stl.specs.Coordinates.{part_z}
use Rattle.pl_layers.proofs.Samples.{IsSampled}
use Rattle.pl_layers.proofs.Extremes.{IsReached, IsReached-from_near}
use Rattle.pl_layers.proofs.Points.{layer_sampled}
use Rattle.pl_options.specs.KeyMap.{KeyMap}
use Rattle.pl_model.specs.declared.object.Object.{Object}
use Rattle.pl_model.specs.Contents.{Contents}
use Rattle.pl_model.specs.Problem.{heights_for}
use Rattle.pl_values.specs.Ascending.{ascending}
use Rattle.pl_values.specs.ObjectValues.{layers_for}
use Rattle.pl_values.specs.PrintValues.{objects_of, tops_for, tops_of, heights_of}
use Rattle.pl_prints.specs.Layers.{layers_in, tops_in}
use Rattle.pl_prints.specs.Heights.{nm_of, of_object, heights_in}
use Rattle.pl_prints.proofs.PlaceLemmas.{gives_step}
use Rattle.pl_prints.proofs.OrderLemmas.{few_ascending}

tall_small : (low high : ℤ) → Within (10 ^ 9) low → Within (10 ^ 9) high → unsigned_abs (high -ℤ low) ≤ 2000000000
tall_small low high hl hh = omega (arith, ints, hl.low, hl.high, hh.low, hh.high)

-- the layer of number 100,000 would be sampled above the top
far_up : (first height : ℤ) (tall : ℕ) → pos 20000 ≤ℤ first → pos 20000 ≤ℤ height → tall ≤ 2000000000 → int_div_euclid ((first +ℤ pos 99999 *ℤ height) +ℤ (first +ℤ pos 100000 *ℤ height)) (pos 2) ≤ℤ pos tall → 1 ≤ 0
far_up (pos f) (pos t) tall wide high small under =
    let below : pos ((f + 99999 * t + (f + 100000 * t)) / 2) ≤ℤ pos tall = under in
    omega (arith, ints, wide, high, small, below)
far_up (pos f) (negsuc t) tall wide high small under = absurd (omega (arith, ints, high))
far_up (negsuc f) height tall wide high small under = absurd (omega (arith, ints, wide))

no_further : (h : Heights) (mesh : List Facet) → AreHeights h → IsMesh mesh → 100000 < layer_count_of h mesh → 1 ≤ 0
no_further h mesh are is more =
    let reached : IsReached part_z mesh = IsReached-from_near part_z mesh (λ p near. near.z) is.near in
    let sampled : IsSampled h (reach part_z mesh) 100000 = layer_sampled h mesh 100000 is are more in
    far_up h.first.0 h.height.0 (reach part_z mesh) are.first_low are.low (tall_small _ _ reached.low reached.high) sampled.high

pub few_layers : (h : Heights) (mesh : List Facet) → AreHeights h → IsMesh mesh → layer_count_of h mesh ≤ 100000
few_layers h mesh are is = let none : 100000 < layer_count_of h mesh → 1 ≤ 0 = no_further h mesh are is in grind (arith, none)

-- the heights of a plate are those of its objects' layers
pub heights_printed : (plate : Contents) → heights_in (map (layers_in plate.config) (objects_of plate)) ≡ heights_of plate
heights_printed plate = ap (λ zs. map nm_of (ascending zs)) (flat_map-map tops_in (layers_in plate.config) (objects_of plate))

few_tops : (config : KeyMap) (object : Object) → layers_for config object ≤ 100000 → length (tops_for config object) ≤ 100000
few_tops config object few = omega (arith, few, length-map-range_with_len (z_of (heights_for config object)) 0 (layers_for config object))

pub few_at : (config : KeyMap) (place : Option Object) (object : Object) → place ≡ Some object → layers_for config object ≤ 100000 → length (of_object (tops_for config) place) ≤ 100000
few_at config place object is few = omega (arith, few_tops config object few, ap (λ p. length (of_object (tops_for config) p)) is)

-- the places up to one and the next
pub few_more : {X : Type 0} (gives : Object → List X) (items places : List (Option Object)) (i : ℕ) (place d : Option Object) → items ≡ places → i < length items → place ≡ get_or items i d → length (of_object gives place) ≤ 100000
    → length (flat_map gives (filter_map (λ p. p) (take i places))) ≤ 100000 * i → length (flat_map gives (filter_map (λ p. p) (take (i + 1) places))) ≤ 100000 * (i + 1)
few_more gives items places i place d same less here few before =
    let old = flat_map gives (filter_map (λ p. p) (take i places)) in
    let more = gives_step gives items places i place d old (old ++ of_object gives place) same less here refl refl in
    omega (arith, before, few, ap length more, length-append old (of_object gives place))

pub few_all : (plate : Contents) (items : List (Option Object)) (i : ℕ) → items ≡ plate.places → length items ≤ i → i ≤ 16 → length (flat_map (tops_for plate.config) (filter_map (λ p. p) (take i plate.places))) ≤ 100000 * i → length (heights_of plate) ≤ 1600000
few_all plate items i same all low few =
    let whole : take i plate.places ≡ plate.places = take_all i plate.places (omega (arith, all, ap length same)) in
    let tops = flat_map (tops_for plate.config) (objects_of plate) in
    omega (arith, few, low, ap (λ ps. length (flat_map (tops_for plate.config) (filter_map (λ p. p) ps))) whole, few_ascending tops, length-map (ascending tops) nm_of)
