-- The lists of the print of a plate, and its text.
use Rattle.std.proofs.Common.{◌≡◌, ℕ, ◌<◌, ◌≤◌, ◌^◌, List, length, map, Option, sym, subst, ap, ◌∙◌, arith}
use Rattle.std.specs.Option.{option_map}
use Rattle.pl_options.specs.KeyMap.{KeyMap}
use Rattle.pl_gcode.specs.SettingsOf.{settings_of}
use Rattle.pl_model.specs.Contents.{Contents}
use Rattle.pl_values.specs.PrintValues.{places_of, heights_of}
use Rattle.pl_values.specs.Ranges.{IsInRange}
use Rattle.pl_values.specs.Whole.{print_of}
use Rattle.pl_parts.specs.Parts.{ObjectData, PrintData, IsPrintData, filled_places, print_from, object_data, data_of}
use Rattle.pl_parts.proofs.PlateLists.{print_is, places_are, IsPrintData-data_of}
use Rattle.pl_whole.specs.Printed.{AroundData, around_of}

abbrev pub lists_with : KeyMap → AroundData → List (Option ObjectData) → PrintData
lists_with config around objects = record {
  settings = settings_of config;
  heights = around.heights;
  tools = around.tools;
  blocks = around.blocks;
  skirt = around.skirt;
  brim = around.brim;
  objects = objects;
}

pub lists_are : (plate : Contents) (config : KeyMap) (around : AroundData) (objects : List (Option ObjectData)) → config ≡ plate.config → around ≡ around_of plate → objects ≡ map (option_map (object_data plate.config)) plate.places → lists_with config around objects ≡ data_of plate
unfolding around_of
lists_are plate config around objects config_is around_is objects_are i = lists_with (config_is i) (around_is i) (objects_are i)

-- ---- parts

pub written : (plate : Contents) (around : AroundData) (lists : PrintData) → IsInRange plate → around ≡ around_of plate → length around.heights ≤ 1600000 → length plate.places ≡ 16 → lists ≡ data_of plate → IsPrintData lists
unfolding around_of
written plate around lists ranges around_is few sixteen is =
    let same : length around.heights ≡ length (heights_of plate) = ap (λ (a : AroundData). length a.heights) around_is in
    let heights : length (heights_of plate) < 2 ^ 32 = omega (arith, few, same) in
    subst IsPrintData (sym is) (IsPrintData-data_of plate ranges heights (omega (arith, sixteen)))

pub filled : (plate : Contents) (places : List ℕ) (lists : PrintData) → places ≡ places_of plate → lists ≡ data_of plate → places ≡ filled_places lists
filled plate places lists are is = are ∙ sym (ap filled_places is ∙ places_are plate)

pub made_print : (plate : Contents) (made lists : PrintData) → made ≡ lists → lists ≡ data_of plate → print_from made ≡ print_of plate
made_print plate made lists same is = ap print_from (same ∙ is) ∙ print_is plate
