-- The settings that the text speaks of, from the options.
use Rattle.std.specs.Prelude.{ℕ, ◌≤◌, pos, ◌≤ℤ◌, List, [], Option, Some, unsigned_abs}
use Rattle.std.specs.FinMap.{get}
use Rattle.pl_units.specs.declared.Nm.{Nm}
use Rattle.pl_keys.specs.declared.value.Value.{Value}
use Rattle.pl_keys.specs.declared.value.Value.TheVariants.{Length, Whole, Words}
use Rattle.pl_keys.specs.declared.key.Key.TheVariants as key
use Rattle.pl_options.specs.KeyMap.{KeyMap}
use Rattle.pl_gcode.specs.Print.{Settings}

-- the number, the length or the bytes that a value is; where it is of another kind, nought
abbrev pub whole_in : Option Value → ℕ
whole_in (Some (Whole number)) = unsigned_abs number
whole_in _ = 0

abbrev pub length_in : Option Value → Nm
length_in (Some (Length length)) = length
length_in _ = record { 0 = pos 0 }

abbrev pub words_in : Option Value → List ℕ
words_in (Some (Words words)) = words
words_in _ = []

abbrev pub settings_of : KeyMap → Settings
settings_of options = record {
  perimeter_speed = whole_in (get options key.PerimeterSpeed);
  infill_speed = whole_in (get options key.InfillSpeed);
  travel_speed = whole_in (get options key.TravelSpeed);
  temperature = whole_in (get options key.Temperature);
  first_layer_temperature = whole_in (get options key.FirstLayerTemperature);
  bed_temperature = whole_in (get options key.BedTemperature);
  first_layer_bed_temperature = whole_in (get options key.FirstLayerBedTemperature);
  filament_diameter = length_in (get options key.FilamentDiameter);
  extrusion_multiplier = whole_in (get options key.ExtrusionMultiplier);
  skirt_height = whole_in (get options key.SkirtHeight);
  start_gcode = words_in (get options key.StartGcode);
  end_gcode = words_in (get options key.EndGcode);
}

-- settings in the ranges of their options
pub record InRange (s : Settings) : Type 0 where
  pub perimeter_speed : s.perimeter_speed ≤ 1000
  pub infill_speed : s.infill_speed ≤ 1000
  pub travel_speed : s.travel_speed ≤ 1000
  pub multiplier : s.extrusion_multiplier ≤ 200
  pub diameter_low : pos 500000 ≤ℤ s.filament_diameter.0
  pub diameter_high : s.filament_diameter.0 ≤ℤ pos 5000000
