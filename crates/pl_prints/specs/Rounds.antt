-- What goes round the cells of the bed on which something stands, and the wipe tower, by the configuration.
use Rattle.std.specs.Prelude.{ℕ, List, [], if◌then◌else◌}
use Rattle.std.specs.FinMap.{get}
use Rattle.pl_units.specs.declared.Nm.{Nm}
use Rattle.pl_keys.specs.declared.key.Key.{Key}
use Rattle.pl_keys.specs.declared.key.Key.TheVariants as key
use Rattle.pl_options.specs.KeyMap.{KeyMap}
use Rattle.pl_grid.specs.Planes.{Cells}
use Rattle.pl_grid.specs.declared.stroke.Corner.{Corner}
use Rattle.pl_grid.specs.declared.stroke.Stroke.{Stroke}
use Rattle.pl_adhesion.specs.Skirt.{skirt_of}
use Rattle.pl_adhesion.specs.Brim.{brim_of}
use Rattle.pl_tower.specs.Tower.{block_of}
use Rattle.pl_gcode.specs.SettingsOf.{whole_in}
use Rattle.pl_model.specs.Problem.{cell_of, length_in}
use Rattle.pl_values.specs.Options.{flag_in, cells_in}
use Rattle.pl_values.specs.PrintValues.{farther}

abbrev pub length_option : KeyMap → Key → Nm
length_option config key = length_in (get config key)

-- the skirt lies beyond the brim, so many cells away
abbrev pub skirt_distance : KeyMap → ℕ
skirt_distance config = cells_in (farther (length_option config key.SkirtDistance) (length_option config key.BrimWidth))

abbrev pub skirt_count : KeyMap → ℕ
skirt_count config = whole_in (get config key.Skirts)

abbrev pub brim_width : KeyMap → ℕ
brim_width config = cells_in (length_option config key.BrimWidth)

abbrev pub skirt_round : KeyMap → Cells → List (List Corner)
skirt_round config footing = skirt_of footing (skirt_distance config) (skirt_count config)

abbrev pub brim_round : KeyMap → Cells → List (List Corner)
brim_round config footing = brim_of footing (brim_width config)

-- the strokes of the wipe tower at a change of tools, where there is a tower
abbrev pub block_in : KeyMap → ℕ → List Stroke
block_in config change =
    if flag_in (get config key.WipeTower)
    then block_of (cell_of (length_option config key.WipeTowerX)) (cell_of (length_option config key.WipeTowerY)) (cells_in (length_option config key.WipeTowerWidth)) change
    else []
