-- What the results of slots hold: nothing where a result is that of another step.
use Rattle.std.specs.Prelude.{ℕ, List, [], Option}
use Rattle.pl_units.specs.declared.Nm.{Nm}
use Rattle.pl_options.specs.KeyMap.{KeyMap}
use Rattle.pl_grid.specs.Planes.{Cells}
use Rattle.pl_grid.specs.declared.stroke.Corner.{Corner}
use Rattle.pl_grid.specs.declared.stroke.Stroke.{Stroke}
use Rattle.pl_fill.specs.declared.surface.SurfaceSet.{SurfaceSet}
use Rattle.pl_gcode.specs.SettingsOf.{settings_of}
use Rattle.pl_slots.specs.declared.output.FffOutput.{FffOutput}
use Rattle.pl_slots.specs.declared.output.FffOutput.TheVariants.{Slices, Perimeters, Surfaces, Strokes, Support, Tower, Loops}
use Rattle.pl_parts.specs.Parts.{ObjectData, PrintData}

-- ---- of an object

-- the slices of its layers
abbrev pub planes_in : FffOutput → List Cells
planes_in (Slices sliced) = sliced.planes
planes_in _ = []

-- the loops of its perimeters
abbrev pub loops_in : FffOutput → List (List (List Corner))
loops_in (Perimeters set) = set.loops
loops_in _ = []

-- what its perimeters leave
abbrev pub inner_in : FffOutput → List Cells
inner_in (Perimeters set) = set.inner
inner_in _ = []

abbrev pub surfaces_in : FffOutput → List SurfaceSet
surfaces_in (Surfaces sets) = sets
surfaces_in _ = []

-- the strokes of its infill or ironing
abbrev pub strokes_in : FffOutput → List (List Stroke)
strokes_in (Strokes lists) = lists
strokes_in _ = []

abbrev pub support_cells_in : FffOutput → List Cells
support_cells_in (Support set) = set.cells
support_cells_in _ = []

abbrev pub support_strokes_in : FffOutput → List (List Stroke)
support_strokes_in (Support set) = set.strokes
support_strokes_in _ = []

-- ---- of the print

abbrev pub heights_in : FffOutput → List Nm
heights_in (Tower set) = set.heights
heights_in _ = []

abbrev pub tools_in : FffOutput → List (List ℕ)
tools_in (Tower set) = set.tools
tools_in _ = []

abbrev pub blocks_in : FffOutput → List (List Stroke)
blocks_in (Tower set) = set.blocks
blocks_in _ = []

-- the loops of its skirt or brim
abbrev pub rounds_in : FffOutput → List (List Corner)
rounds_in (Loops loops) = loops
rounds_in _ = []

-- what the export writes: by the configuration, the results of tower, skirt and brim, and what each place is printed as
abbrev pub export_data : KeyMap → FffOutput → FffOutput → FffOutput → List (Option ObjectData) → PrintData
export_data config tower skirt brim objects = record {
  settings = settings_of config;
  heights = heights_in tower;
  tools = tools_in tower;
  blocks = blocks_in tower;
  skirt = rounds_in skirt;
  brim = rounds_in brim;
  objects = objects;
}
