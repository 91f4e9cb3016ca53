-- The options of the plate with one box are in their ranges, and its print is one that G-code is written of.
use Rattle.std.proofs.Common.{◌≡◌, true, Some, None, replicate, refl, sym, subst, arith}
use Rattle.std.specs.Option.{IfSome, IsSomeAnd}
use Rattle.std.specs.FinMap.{find, get-empty}
use Rattle.std.proofs.lemmas.List.Elements.{All-cons, All-replicate}
use Rattle.pl_keys.specs.declared.key.Key.{Key}
use Rattle.pl_keys.specs.declared.key.Key.TheVariants as key
use Rattle.pl_keys.specs.Keys.{is_object_key}
use Rattle.pl_keys.specs.Values.{IsValueOf}
use Rattle.pl_options.specs.KeyMap.{key_cmp, IsOverrides}
use Rattle.pl_gcode.specs.IsPrint.{IsPrint}
use Rattle.pl_values.specs.Ranges.{IsInRange}
use Rattle.pl_values.specs.Whole.{print_of}
use Rattle.pl_values.proofs.Prints.{IsPrint-print_of}
use Rattle.pl_values.proofs.WorkedBox.{entries, box, plate, option_is}

each_fits : (key : Key) → IsSomeAnd (find key_cmp key entries) (IsValueOf key)
each_fits key.LayerHeight = (refl, refl)
each_fits key.FirstLayerHeight = (refl, refl)
each_fits key.Perimeters = (refl, refl)
each_fits key.TopSolidLayers = (refl, refl)
each_fits key.BottomSolidLayers = (refl, refl)
each_fits key.FillDensity = (refl, refl)
each_fits key.Ironing = refl
each_fits key.SupportMaterial = refl
each_fits key.SupportMaterialBuildplateOnly = refl
each_fits key.Extruder = (refl, refl)
each_fits key.Skirts = (refl, refl)
each_fits key.SkirtDistance = (refl, refl)
each_fits key.SkirtHeight = (refl, refl)
each_fits key.BrimWidth = (refl, refl)
each_fits key.WipeTower = refl
each_fits key.WipeTowerX = (refl, refl)
each_fits key.WipeTowerY = (refl, refl)
each_fits key.WipeTowerWidth = (refl, refl)
each_fits key.PerimeterSpeed = (refl, refl)
each_fits key.InfillSpeed = (refl, refl)
each_fits key.TravelSpeed = (refl, refl)
each_fits key.Temperature = (refl, refl)
each_fits key.FirstLayerTemperature = (refl, refl)
each_fits key.BedTemperature = (refl, refl)
each_fits key.FirstLayerBedTemperature = (refl, refl)
each_fits key.FilamentDiameter = (refl, refl)
each_fits key.ExtrusionMultiplier = (refl, refl)
each_fits key.StartGcode = (refl, omega arith)
each_fits key.EndGcode = (refl, omega arith)
each_fits key.Notes = (refl, omega arith)

no_overrides : IsOverrides box.overrides
no_overrides key = subst (λ value. IfSome value (λ value. (is_object_key key ≡ true) × IsValueOf key value)) (sym (get-empty key_cmp key)) tt

pub plate_in_range : IsInRange plate
plate_in_range = record {
  config = λ key. subst (λ value. IsSomeAnd value (IsValueOf key)) (sym (option_is key)) (each_fits key);
  overrides =
      All-cons (λ place. IfSome place (λ object. IsOverrides object.overrides)) (Some box) (replicate 15 None) no_overrides
      (All-replicate (λ place. IfSome place (λ object. IsOverrides object.overrides)) 15 None tt);
}

pub box_print : IsPrint (print_of plate)
box_print = IsPrint-print_of plate plate_in_range
