-- What a print consists of: all that its G-code speaks of.
use Rattle.std.specs.Prelude.{ℕ, List}
use Rattle.std.specs.declared.option.Option.{Option}
use Rattle.pl_units.specs.declared.Nm.{Nm}
use Rattle.pl_grid.specs.declared.stroke.Corner.{Corner}
use Rattle.pl_grid.specs.declared.stroke.Stroke.{Stroke}

-- the settings that the text speaks of: speeds in mm per second, temperatures in degrees, the multiplier in hundredths
pub record Settings : Type 0 where
  pub perimeter_speed : ℕ
  pub infill_speed : ℕ
  pub travel_speed : ℕ
  pub temperature : ℕ
  pub first_layer_temperature : ℕ
  pub bed_temperature : ℕ
  pub first_layer_bed_temperature : ℕ
  pub filament_diameter : Nm
  pub extrusion_multiplier : ℕ
  pub skirt_height : ℕ
  pub start_gcode : List ℕ
  pub end_gcode : List ℕ

pub record Print : Type 0 where
  pub settings : Settings
  -- the heights of the print, ascending
  pub heights : List Nm
  -- the tools of height i, in order
  pub tools : ℕ → List ℕ
  -- the tower's strokes of a change of tools at height i, counted from 0; none where the tower is off
  pub block : ℕ → ℕ → List Stroke
  pub skirt : List (List Corner)
  pub brim : List (List Corner)
  -- the filled places, ascending
  pub places : List ℕ
  -- the tool of a place
  pub tool : ℕ → ℕ
  -- the bed cell of each instance of a place, in order
  pub instances : ℕ → List Corner
  -- how many layers a place has
  pub layers : ℕ → ℕ
  -- the layer of a place at height i, where it has one there
  pub layer_at : ℕ → ℕ → Option ℕ
  pub layer_height : ℕ → ℕ → Nm
  -- of a place and a layer: the loops of its perimeters from the outermost on, and its strokes
  pub loops : ℕ → ℕ → List (List Corner)
  pub infill : ℕ → ℕ → List Stroke
  pub ironing : ℕ → ℕ → List Stroke
  pub support : ℕ → ℕ → List Stroke
