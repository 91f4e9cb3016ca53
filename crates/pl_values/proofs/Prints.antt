-- What the G-code wants of the print of a plate.
use Rattle.std.proofs.Common.{◌≡◌, ℤ, ℕ, zero, suc, pos, ◌<◌, ◌-ℤ◌, ◌+ℤ◌, ◌<ℤ◌, ◌≤ℤ◌, length, Option, Some, None, refl, sym, ap, subst, arith}
use Rattle.std.specs.Prelude.{slice_index_or}
use Rattle.std.specs.Option.{option_map_or}
use Rattle.std.proofs.lemmas.Int.{ints}
use Rattle.std.proofs.lemmas.List.{get_or-map, length-map}
use Rattle.std.proofs.lemmas.List.Elements.{Contains-get_or}
use Rattle.std.proofs.lemmas.Option.{none-some}
use Rattle.pl_units.specs.declared.Nm.{Nm}
use Rattle.pl_layers.specs.Heights.{AreHeights, layer_height_of}
use Rattle.pl_layers.specs.declared.heights.Heights.{Heights}
use Rattle.pl_gcode.specs.Gcode.{gap, height_at}
use Rattle.pl_gcode.specs.IsPrint.{IsPrint, IsTrack}
use Rattle.pl_model.specs.declared.object.Object.{Object}
use Rattle.pl_model.specs.Contents.{Contents}
use Rattle.pl_model.specs.Places.{place_in}
use Rattle.pl_model.specs.Problem.{heights_for}
use Rattle.pl_options.specs.KeyMap.{KeyMap}
use Rattle.pl_values.specs.ObjectValues.{layers_for}
use Rattle.pl_values.specs.PrintValues.{tops_of, layer_with_top}
use Rattle.pl_values.specs.Whole.{print_of}
use Rattle.pl_values.specs.Ranges.{IsInRange}
use Rattle.pl_values.proofs.Places.{IsAt-from_place_in}
use Rattle.pl_values.proofs.OptionRanges.{heights_fit}
use Rattle.pl_values.proofs.Tops.{Ascend-tops_of, IsOverrides-at, each_reached, first_rise, next_rise}
use Rattle.pl_values.proofs.LayerLemmas.{layer_is}
use Rattle.pl_values.proofs.HeightTools.{some_tools, few_tools}

-- ---- heights

height_of : ℤ → Nm
height_of z = record { 0 = z }

count_of_heights : (plate : Contents) → length (print_of plate).heights ≡ length (tops_of plate)
count_of_heights plate = length-map (tops_of plate) (λ z. record { 0 = z })

below_count : (plate : Contents) (i : ℕ) → i < length (print_of plate).heights → i < length (tops_of plate)
below_count plate i less = subst (λ n. i < n) (count_of_heights plate) less

height_is : (plate : Contents) (i : ℕ) → i < length (tops_of plate) → (height_at (print_of plate) i).0 ≡ slice_index_or (tops_of plate) i (pos 0)
height_is plate i less = ap (λ (h : Nm). h.0) (get_or-map (λ z. record { 0 = z }) (tops_of plate) i (pos 0) (record { 0 = pos 0 }) less)

gap_track : (plate : Contents) (i : ℕ) → IsInRange plate → i < length (tops_of plate) → IsTrack (gap (print_of plate) i)
gap_track plate zero p less =
    let at = height_is plate 0 less in
    let r = each_reached plate p _ (Contains-get_or (tops_of plate) 0 (pos 0) less) in
    let high = first_rise (tops_of plate) (Ascend-tops_of plate) (each_reached plate p) less in
    record { low = subst (λ z. pos 1 ≤ℤ z) (sym at) r.low; high = subst (λ z. z ≤ℤ pos 1000000) (sym at) high }
gap_track plate (suc i) p less =
    let within : i < length (tops_of plate) = omega arith in
    let z : ℤ = slice_index_or (tops_of plate) (suc i) (pos 0) in
    let y : ℤ = slice_index_or (tops_of plate) i (pos 0) in
    let at : (height_at (print_of plate) (suc i)).0 ≡ z = height_is plate (suc i) less in
    let before : (height_at (print_of plate) i).0 ≡ y = height_is plate i within in
    let above : y <ℤ z = Ascend-tops_of plate i (suc i) (pos 0) (omega arith) less in
    let near : z ≤ℤ (y +ℤ pos 1000000) = next_rise (tops_of plate) i (Ascend-tops_of plate) (each_reached plate p) less in
    let is : (gap (print_of plate) (suc i)).0 ≡ z -ℤ y = λ j. at j -ℤ before j in
    record { low = subst (λ g. pos 1 ≤ℤ g) (sym is) (omega (arith, ints)); high = subst (λ g. g ≤ℤ pos 1000000) (sym is) (omega (arith, ints)) }

-- ---- layers

-- of what stands at a place, if anything does
layered_at : (config : KeyMap) (place : Option Object) (z : ℤ) (k : ℕ) → option_map_or (λ object. layer_with_top config object z) place None ≡ Some k → k < option_map_or (layers_for config) place 0
layered_at config None z k is = absurd (none-some k is)
layered_at config (Some object) z k is = (layer_is config object z k is).0

layer_track : (h : Heights) (k : ℕ) → AreHeights h → IsTrack (layer_height_of h k)
layer_track h zero r = let low : pos 20000 ≤ℤ h.first.0 = r.first_low in record { low = omega (arith, ints); high = r.first_high }
layer_track h (suc k) r = let low : pos 20000 ≤ℤ h.height.0 = r.low in record { low = omega (arith, ints); high = r.high }

track_of : (plate : Contents) (place : ℕ) (there : Option Object) (k : ℕ) → IsInRange plate → place_in plate.places place ≡ there → k < option_map_or (layers_for plate.config) there 0
    → IsTrack (option_map_or (λ object. layer_height_of (heights_for plate.config object) k) there (record { 0 = pos 0 }))
track_of plate place None k p is below = absurd (omega arith)
track_of plate place (Some object) k p is below =
    let o = IsOverrides-at plate place object p (IsAt-from_place_in plate.places place object is) in
    layer_track (heights_for plate.config object) k (heights_fit plate.config object p.config o)

-- ---- all of it

pub IsPrint-print_of : (plate : Contents) → IsInRange plate → IsPrint (print_of plate)
IsPrint-print_of plate p = record {
  tooled = λ i less. some_tools plate i p (below_count plate i less);
  few_tools = λ i less. few_tools plate i (below_count plate i less);
  gaps = λ i less. gap_track plate i p (below_count plate i less);
  layered = λ place i k there less is. layered_at plate.config (place_in plate.places place) (slice_index_or (tops_of plate) i (pos 0)) k is;
  tracks = λ place k there below. track_of plate place (place_in plate.places place) k p refl below;
}
