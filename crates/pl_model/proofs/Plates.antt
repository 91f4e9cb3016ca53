-- The plate at the start, and the objects of equal places.
use Rattle.std.proofs.Common.{◌≡◌, List, Option, None, Some, replicate, length, map, sym, ap, ◌∙◌}
use Rattle.std.specs.FinMap.{get, get-from_entries}
use Rattle.std.proofs.lemmas.List.{length-replicate}
use Rattle.std.proofs.lemmas.List.Elements.{All-same, All-replicate}
use Rattle.pl_keys.specs.declared.key.Key.{Key}
use Rattle.pl_keys.specs.declared.key.Key.TheVariants as k
use Rattle.pl_keys.specs.Keys.{keys}
use Rattle.pl_keys.specs.Values.{default_of}
use Rattle.pl_options.specs.KeyMap.{IsDefaults}
use Rattle.pl_options.proofs.KeyMaps.{key_cmp_total, same_values}
use Rattle.pl_model.specs.declared.object.Object.{Object}
use Rattle.pl_model.specs.Places.{IsTurned, ArePlaces}
use Rattle.pl_model.specs.Contents.{Contents, defaults, blank}

pub no_places : (places : List (Option Object)) → places ≡ replicate 16 None → ArePlaces places
no_places places e = record { sixteen = ap length e ∙ length-replicate {A = Option Object} 16 None; turned = All-same IsTurned places (replicate 16 None) e (All-replicate IsTurned 16 None tt) }

get-defaults : (key : Key) → get defaults key ≡ Some (default_of key)
get-defaults k.LayerHeight = get-from_entries key_cmp_total (map (λ key. (key, default_of key)) keys) _
get-defaults k.FirstLayerHeight = get-from_entries key_cmp_total (map (λ key. (key, default_of key)) keys) _
get-defaults k.Perimeters = get-from_entries key_cmp_total (map (λ key. (key, default_of key)) keys) _
get-defaults k.TopSolidLayers = get-from_entries key_cmp_total (map (λ key. (key, default_of key)) keys) _
get-defaults k.BottomSolidLayers = get-from_entries key_cmp_total (map (λ key. (key, default_of key)) keys) _
get-defaults k.FillDensity = get-from_entries key_cmp_total (map (λ key. (key, default_of key)) keys) _
get-defaults k.Ironing = get-from_entries key_cmp_total (map (λ key. (key, default_of key)) keys) _
get-defaults k.SupportMaterial = get-from_entries key_cmp_total (map (λ key. (key, default_of key)) keys) _
get-defaults k.SupportMaterialBuildplateOnly = get-from_entries key_cmp_total (map (λ key. (key, default_of key)) keys) _
get-defaults k.Extruder = get-from_entries key_cmp_total (map (λ key. (key, default_of key)) keys) _
get-defaults k.Skirts = get-from_entries key_cmp_total (map (λ key. (key, default_of key)) keys) _
get-defaults k.SkirtDistance = get-from_entries key_cmp_total (map (λ key. (key, default_of key)) keys) _
get-defaults k.SkirtHeight = get-from_entries key_cmp_total (map (λ key. (key, default_of key)) keys) _
get-defaults k.BrimWidth = get-from_entries key_cmp_total (map (λ key. (key, default_of key)) keys) _
get-defaults k.WipeTower = get-from_entries key_cmp_total (map (λ key. (key, default_of key)) keys) _
get-defaults k.WipeTowerX = get-from_entries key_cmp_total (map (λ key. (key, default_of key)) keys) _
get-defaults k.WipeTowerY = get-from_entries key_cmp_total (map (λ key. (key, default_of key)) keys) _
get-defaults k.WipeTowerWidth = get-from_entries key_cmp_total (map (λ key. (key, default_of key)) keys) _
get-defaults k.PerimeterSpeed = get-from_entries key_cmp_total (map (λ key. (key, default_of key)) keys) _
get-defaults k.InfillSpeed = get-from_entries key_cmp_total (map (λ key. (key, default_of key)) keys) _
get-defaults k.TravelSpeed = get-from_entries key_cmp_total (map (λ key. (key, default_of key)) keys) _
get-defaults k.Temperature = get-from_entries key_cmp_total (map (λ key. (key, default_of key)) keys) _
get-defaults k.FirstLayerTemperature = get-from_entries key_cmp_total (map (λ key. (key, default_of key)) keys) _
get-defaults k.BedTemperature = get-from_entries key_cmp_total (map (λ key. (key, default_of key)) keys) _
get-defaults k.FirstLayerBedTemperature = get-from_entries key_cmp_total (map (λ key. (key, default_of key)) keys) _
get-defaults k.FilamentDiameter = get-from_entries key_cmp_total (map (λ key. (key, default_of key)) keys) _
get-defaults k.ExtrusionMultiplier = get-from_entries key_cmp_total (map (λ key. (key, default_of key)) keys) _
get-defaults k.StartGcode = get-from_entries key_cmp_total (map (λ key. (key, default_of key)) keys) _
get-defaults k.EndGcode = get-from_entries key_cmp_total (map (λ key. (key, default_of key)) keys) _
get-defaults k.Notes = get-from_entries key_cmp_total (map (λ key. (key, default_of key)) keys) _

pub blank_made : (plate : Contents) → IsDefaults plate.config → plate.places ≡ replicate 16 None → plate ≡ blank
blank_made plate d p =
    let config : plate.config ≡ defaults = same_values _ _ (λ q. d q ∙ sym (get-defaults q)) in
    λ i. record { config = config i; places = p i }
