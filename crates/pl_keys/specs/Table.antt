-- The table of the thirty options.
use Rattle.std.specs.Prelude.{ℕ, ◌==◌, Bool, Option, List, [], ◌∷◌, codes}
use Rattle.std.specs.List.{find, list_any}
use Rattle.std.specs.Str.{bytes_eq}
use Rattle.pl_keys.specs.declared.key.Kind.{Kind}
use Rattle.pl_keys.specs.declared.key.Kind.TheVariants.{Length, Whole, Percent, Factor, Flag, Text}
use Rattle.pl_keys.specs.declared.key.Key.{Key}
use Rattle.pl_keys.specs.declared.key.Key.TheVariants.{LayerHeight, FirstLayerHeight, Perimeters, TopSolidLayers, BottomSolidLayers, FillDensity, Ironing, SupportMaterial, SupportMaterialBuildplateOnly, Extruder, Skirts, SkirtDistance, SkirtHeight, BrimWidth, WipeTower, WipeTowerX, WipeTowerY, WipeTowerWidth, PerimeterSpeed, InfillSpeed, TravelSpeed, Temperature, FirstLayerTemperature, BedTemperature, FirstLayerBedTemperature, FilamentDiameter, ExtrusionMultiplier, StartGcode, EndGcode, Notes}
use Rattle.pl_keys.specs.Keys.{keys}
use Rattle.pl_keys.specs.Steps.{slice, perimeters, prepare, infill, ironing, support, tower, skirt, brim, export}

-- lengths are in nanometres, factors in hundredths; a flag is 1 for yes; the numbers of a text are those of its bytes
pub record Row : Type 0 where
  pub name : List ℕ
  pub kind : Kind
  pub least : ℕ
  pub greatest : ℕ
  pub default : ℕ
  -- the steps that a change touches directly
  pub steps : List ℕ

abbrev pub row_of : List ℕ → Kind → ℕ → ℕ → ℕ → List ℕ → Row
row_of name kind least greatest default steps = record { name = name; kind = kind; least = least; greatest = greatest; default = default; steps = steps }

abbrev pub row : Key → Row
row LayerHeight = row_of (codes "layer_height") Length 20000 1000000 200000 (slice ∷ [])
row FirstLayerHeight = row_of (codes "first_layer_height") Length 20000 1000000 200000 (slice ∷ [])
row Perimeters = row_of (codes "perimeters") Whole 0 32 2 (perimeters ∷ [])
row TopSolidLayers = row_of (codes "top_solid_layers") Whole 0 100 4 (prepare ∷ [])
row BottomSolidLayers = row_of (codes "bottom_solid_layers") Whole 0 100 3 (prepare ∷ [])
row FillDensity = row_of (codes "fill_density") Percent 0 100 20 (infill ∷ [])
row Ironing = row_of (codes "ironing") Flag 0 1 0 (ironing ∷ [])
row SupportMaterial = row_of (codes "support_material") Flag 0 1 0 (support ∷ [])
row SupportMaterialBuildplateOnly = row_of (codes "support_material_buildplate_only") Flag 0 1 0 (support ∷ [])
row Extruder = row_of (codes "extruder") Whole 0 4 1 (tower ∷ [])
row Skirts = row_of (codes "skirts") Whole 0 32 1 (skirt ∷ [])
row SkirtDistance = row_of (codes "skirt_distance") Length 0 100000000 6000000 (skirt ∷ [])
row SkirtHeight = row_of (codes "skirt_height") Whole 0 1000 1 (skirt ∷ [])
row BrimWidth = row_of (codes "brim_width") Length 0 40000000 0 (skirt ∷ brim ∷ [])
row WipeTower = row_of (codes "wipe_tower") Flag 0 1 0 (tower ∷ [])
row WipeTowerX = row_of (codes "wipe_tower_x") Length 0 1000000000 180000000 (tower ∷ [])
row WipeTowerY = row_of (codes "wipe_tower_y") Length 0 1000000000 140000000 (tower ∷ [])
row WipeTowerWidth = row_of (codes "wipe_tower_width") Length 400000 1000000000 60000000 (tower ∷ [])
row PerimeterSpeed = row_of (codes "perimeter_speed") Whole 1 1000 45 (export ∷ [])
row InfillSpeed = row_of (codes "infill_speed") Whole 1 1000 80 (export ∷ [])
row TravelSpeed = row_of (codes "travel_speed") Whole 1 1000 130 (export ∷ [])
row Temperature = row_of (codes "temperature") Whole 0 500 210 (export ∷ [])
row FirstLayerTemperature = row_of (codes "first_layer_temperature") Whole 0 500 215 (export ∷ [])
row BedTemperature = row_of (codes "bed_temperature") Whole 0 200 60 (export ∷ [])
row FirstLayerBedTemperature = row_of (codes "first_layer_bed_temperature") Whole 0 200 60 (export ∷ [])
row FilamentDiameter = row_of (codes "filament_diameter") Length 500000 5000000 1750000 (export ∷ [])
row ExtrusionMultiplier = row_of (codes "extrusion_multiplier") Factor 1 200 100 (export ∷ [])
row StartGcode = row_of (codes "start_gcode") Text 0 65536 0 (export ∷ [])
row EndGcode = row_of (codes "end_gcode") Text 0 65536 0 (export ∷ [])
row Notes = row_of (codes "notes") Text 0 65536 0 []

-- the option of a name
abbrev pub named : List ℕ → Option Key
named name = find (λ key. bytes_eq (row key).name name) keys

-- whether a change of the option touches the step directly
abbrev pub touches : Key → ℕ → Bool
touches key step = list_any (λ touched. touched == step) (row key).steps
