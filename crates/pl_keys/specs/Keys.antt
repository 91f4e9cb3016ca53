-- The thirty options in order.
use Rattle.std.specs.Prelude.{ℕ, nat_lt, Bool, List, [], ◌∷◌}
use Rattle.pl_keys.specs.declared.key.Key.{Key}
use Rattle.pl_keys.specs.declared.key.Key.TheVariants.{LayerHeight, FirstLayerHeight, Perimeters, TopSolidLayers, BottomSolidLayers, FillDensity, Ironing, SupportMaterial, SupportMaterialBuildplateOnly, Extruder, Skirts, SkirtDistance, SkirtHeight, BrimWidth, WipeTower, WipeTowerX, WipeTowerY, WipeTowerWidth, PerimeterSpeed, InfillSpeed, TravelSpeed, Temperature, FirstLayerTemperature, BedTemperature, FirstLayerBedTemperature, FilamentDiameter, ExtrusionMultiplier, StartGcode, EndGcode, Notes}

abbrev pub keys : List Key
keys = LayerHeight ∷ FirstLayerHeight ∷ Perimeters ∷ TopSolidLayers ∷ BottomSolidLayers ∷ FillDensity ∷ Ironing ∷ SupportMaterial ∷ SupportMaterialBuildplateOnly ∷ Extruder
    ∷ Skirts ∷ SkirtDistance ∷ SkirtHeight ∷ BrimWidth ∷ WipeTower ∷ WipeTowerX ∷ WipeTowerY ∷ WipeTowerWidth ∷ PerimeterSpeed ∷ InfillSpeed
    ∷ TravelSpeed ∷ Temperature ∷ FirstLayerTemperature ∷ BedTemperature ∷ FirstLayerBedTemperature ∷ FilamentDiameter ∷ ExtrusionMultiplier ∷ StartGcode ∷ EndGcode ∷ Notes ∷ []

-- the place of an option among them, from 0
abbrev pub place : Key → ℕ
place LayerHeight = 0
place FirstLayerHeight = 1
place Perimeters = 2
place TopSolidLayers = 3
place BottomSolidLayers = 4
place FillDensity = 5
place Ironing = 6
place SupportMaterial = 7
place SupportMaterialBuildplateOnly = 8
place Extruder = 9
place Skirts = 10
place SkirtDistance = 11
place SkirtHeight = 12
place BrimWidth = 13
place WipeTower = 14
place WipeTowerX = 15
place WipeTowerY = 16
place WipeTowerWidth = 17
place PerimeterSpeed = 18
place InfillSpeed = 19
place TravelSpeed = 20
place Temperature = 21
place FirstLayerTemperature = 22
place BedTemperature = 23
place FirstLayerBedTemperature = 24
place FilamentDiameter = 25
place ExtrusionMultiplier = 26
place StartGcode = 27
place EndGcode = 28
place Notes = 29

-- the first ten are object keys
abbrev pub is_object_key : Key → Bool
is_object_key key = nat_lt (place key) 10
