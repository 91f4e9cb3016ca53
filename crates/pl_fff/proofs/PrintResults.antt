-- What the results of the steps of a print are computed as.
use Rattle.std.proofs.Common.{◌≡◌, ℕ, ◌≤◌, ◌<◌, ◌^◌, ◌+◌, ◌++◌, List, [], ◌∷◌, length, map, get_or, take, Option, Some, subst, sym, ap, ◌∙◌, arith}
use Rattle.std.specs.Option.{option_map, unwrap_or}
use Rattle.std.proofs.lemmas.List.{take_more, take_all, map-append}
use Rattle.pl_units.specs.declared.Nm.{Nm}
use Rattle.pl_options.specs.KeyMap.{KeyMap}
use Rattle.pl_grid.specs.declared.stroke.Corner.{Corner}
use Rattle.pl_grid.specs.declared.stroke.Stroke.{Stroke}
use Rattle.pl_adhesion.specs.Skirt.{skirt_of}
use Rattle.pl_adhesion.specs.Brim.{brim_of}
use Rattle.pl_tower.specs.Heights.{tools_along}
use Rattle.pl_gcode.specs.Gcode.{gcode_of}
use Rattle.pl_model.specs.declared.object.Object.{Object}
use Rattle.pl_model.specs.Contents.{Contents}
use Rattle.pl_values.specs.ObjectValues.{corners_for}
use Rattle.pl_values.specs.PrintValues.{objects_of, heights_of, tools_of, blocks_of, places_of, tool_set_of, skirt_for, brim_for}
use Rattle.pl_values.specs.Ranges.{IsInRange}
use Rattle.pl_values.specs.Whole.{plate_gcode}
use Rattle.pl_prints.specs.Layers.{Layers, layers_in, has_printed}
use Rattle.pl_prints.specs.Heights as prints
use Rattle.pl_prints.specs.Rounds.{skirt_distance, skirt_count, brim_width}
use Rattle.pl_prints.specs.Footprints.{Footprint, footprint_in, footing_of}
use Rattle.pl_prints.proofs.FewLemmas.{heights_printed}
use Rattle.pl_prints.proofs.ToolLemmas.{used_is}
use Rattle.pl_prints.proofs.RoomLemmas.{footing_is}
use Rattle.pl_parts.specs.Parts.{ObjectData, PrintData, IsPrintData, print_from, data_of, object_data, filled_places}
use Rattle.pl_parts.proofs.PlateLists.{places_are, print_is, IsPrintData-data_of}
use Rattle.pl_slots.specs.declared.output.FffOutput.{FffOutput}
use Rattle.pl_slots.specs.declared.output.FffOutput.TheVariants.{Perimeters, Strokes, Support, Tower, Loops, Gcode}
use Rattle.pl_slots.specs.Values.{tower_for}
use Rattle.pl_slots.specs.ObjectSteps.{perimeters_for, infill_strokes_for, ironing_strokes_for, support_set_for}
use Rattle.pl_slots.proofs.Results.{loops_printed, infill_printed, ironing_printed, support_printed}
use Rattle.pl_fff.specs.Held.{loops_in, strokes_in, support_strokes_in, export_data}

-- what is kept is one result
pub held : {X : Type 0} (x y : X) → Some x ≡ Some y → x ≡ y
held x y same = ap (λ o. unwrap_or o x) same

-- one more item of a list that is read in order
pub map_step : {X Y : Type 0} (f : X → Y) (items xs : List X) (i : ℕ) (x : X) (y : Y) (old new : List Y) → items ≡ xs → i < length items → x ≡ get_or items i x → old ≡ map f (take i xs) → y ≡ f x → new ≡ old ++ y ∷ [] → new ≡ map f (take (i + 1) xs)
map_step f items xs i x y old new same less read before is push =
    let last : f (get_or xs i x) ≡ y = sym (is ∙ ap f (read ∙ ap (λ list. get_or list i x) same)) in
    push
    ∙ ap (λ ys. ys ++ y ∷ []) before
    ∙ sym (ap (map f) (take_more xs i x (rw (← same) less)) ∙ map-append f (take i xs) (get_or xs i x ∷ []) ∙ ap (λ z. map f (take i xs) ++ z ∷ []) last)

pub map_whole : {X Y : Type 0} (f : X → Y) (items xs : List X) (i : ℕ) (ys : List Y) → items ≡ xs → length items ≤ i → ys ≡ map f (take i xs) → ys ≡ map f xs
map_whole f items xs i ys same all is = is ∙ ap (map f) (take_all i xs (rw (← same) all))

module _ (plate : Contents) where
  -- ---- heights and tools

  module _ (layers : List Layers) (are : layers ≡ map (layers_in plate.config) (objects_of plate)) where
    pub heights_are : prints.heights_in layers ≡ heights_of plate
    heights_are = ap prints.heights_in are ∙ heights_printed plate

    tools_are : tools_along 0 (map (λ top. tool_set_of (has_printed layers top.0)) (prints.heights_in layers)) ≡ tools_of plate
    tools_are = ap (tools_along 0) (used_is plate layers (prints.heights_in layers) (map (λ top. tool_set_of (has_printed layers top.0)) (prints.heights_in layers)) are heights_are (λ i. map (λ top. tool_set_of (has_printed layers top.0)) (prints.heights_in layers)))

    pub tower_is : (blocks : List (List Stroke)) → blocks ≡ blocks_of plate
        → Tower (record { heights = prints.heights_in layers; tools = tools_along 0 (map (λ top. tool_set_of (has_printed layers top.0)) (prints.heights_in layers)); blocks = blocks }) ≡ Tower (tower_for plate)
    tower_is blocks same = λ i. Tower (record { heights = heights_are i; tools = tools_are i; blocks = same i })

  -- ---- skirt and brim

  module _ (feet : List Footprint) (are : feet ≡ map (footprint_in plate.config) (objects_of plate)) (config : KeyMap) (same : config ≡ plate.config) where
    pub skirt_is : (distance count : ℕ) → distance ≡ skirt_distance config → count ≡ skirt_count config → Loops (skirt_of (footing_of feet) distance count) ≡ Loops (skirt_for plate)
    skirt_is distance count far many = λ i. Loops (skirt_of (footing_is plate feet are i) ((far ∙ ap skirt_distance same) i) ((many ∙ ap skirt_count same) i))

    pub brim_is : (width : ℕ) → width ≡ brim_width config → Loops (brim_of (footing_of feet) width) ≡ Loops (brim_for plate)
    brim_is width wide = λ i. Loops (brim_of (footing_is plate feet are i) ((wide ∙ ap brim_width same) i))

  -- ---- the export

  module _ (config : KeyMap) (tower skirt brim : FffOutput) (objects : List (Option ObjectData)) (of_config : config ≡ plate.config) (of_tower : tower ≡ Tower (tower_for plate)) (of_skirt : skirt ≡ Loops (skirt_for plate)) (of_brim : brim ≡ Loops (brim_for plate)) (of_objects : objects ≡ map (option_map (object_data plate.config)) plate.places) where
    pub data_is : export_data config tower skirt brim objects ≡ data_of plate
    data_is = λ i. export_data (of_config i) (of_tower i) (of_skirt i) (of_brim i) (of_objects i)

    pub is_print : IsInRange plate → length (heights_of plate) ≤ 1600000 → length plate.places ≤ 16 → IsPrintData (export_data config tower skirt brim objects)
    is_print ranges few sixteen = subst IsPrintData (sym data_is) (IsPrintData-data_of plate ranges (omega (arith, few)) sixteen)

    pub filled_are : (places : List ℕ) → places ≡ places_of plate → places ≡ filled_places (export_data config tower skirt brim objects)
    filled_are places are = are ∙ sym (ap filled_places data_is ∙ places_are plate)

    pub few_are : length (heights_of plate) ≤ 1600000 → length (export_data config tower skirt brim objects).heights ≤ 1600000
    few_are few = subst (λ (d : PrintData). length d.heights ≤ 1600000) (sym data_is) few

    pub export_is : Gcode (gcode_of (print_from (export_data config tower skirt brim objects))) ≡ Gcode (plate_gcode plate)
    export_is = ap (λ print. Gcode (gcode_of print)) (ap print_from data_is ∙ print_is plate)

-- ---- what an object is printed as

module _ (config : KeyMap) (object : Object) where
  pub object_is : (corners : List Corner) (layers : Layers) (perimeters infill ironing support : FffOutput) → corners ≡ corners_for object → layers ≡ layers_in config object → perimeters ≡ Perimeters (perimeters_for config object) → infill ≡ Strokes (infill_strokes_for config object)
      → ironing ≡ Strokes (ironing_strokes_for config object) → support ≡ Support (support_set_for config object)
      → record { corners = corners; layers = layers; loops = loops_in perimeters; infill = strokes_in infill; ironing = strokes_in ironing; support = support_strokes_in support } ≡ object_data config object
  object_is corners layers perimeters infill ironing support stand are left filled ironed held = λ i. record {
    corners = stand i;
    layers = are i;
    loops = (ap loops_in left ∙ loops_printed config object) i;
    infill = (ap strokes_in filled ∙ infill_printed config object) i;
    ironing = (ap strokes_in ironed ∙ ironing_printed config object) i;
    support = (ap support_strokes_in held ∙ support_printed config object) i;
  }
