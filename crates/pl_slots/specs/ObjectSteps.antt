-- The results of the steps of an object, each by the results that it needs.
use Rattle.std.specs.Prelude.{ℕ, ◌==◌, List, [], length, map, if◌then◌else◌}
use Rattle.pl_keys.specs.Steps as steps
use Rattle.pl_options.specs.KeyMap.{KeyMap}
use Rattle.pl_grid.specs.Planes.{Cells}
use Rattle.pl_grid.specs.declared.stroke.Stroke.{Stroke}
use Rattle.pl_fill.specs.declared.surface.SurfaceSet.{SurfaceSet}
use Rattle.pl_support.specs.Support.{support_of}
use Rattle.pl_model.specs.declared.object.Object.{Object}
use Rattle.pl_model.specs.Problem.{heights_for}
use Rattle.pl_values.specs.ObjectValues.{slices_for}
use Rattle.pl_steps.specs.declared.options.ObjectOptions.{ObjectOptions}
use Rattle.pl_steps.specs.declared.outlines.PerimeterSet.{PerimeterSet}
use Rattle.pl_steps.specs.declared.filling.SupportSet.{SupportSet}
use Rattle.pl_steps.specs.Options.{options_for}
use Rattle.pl_steps.specs.Layers.{each, loops_in, inner_of, surfaces_at, infill_at, ironing_at, support_in}
use Rattle.pl_slots.specs.declared.output.Sliced.{Sliced}
use Rattle.pl_slots.specs.declared.output.FffOutput.{FffOutput}
use Rattle.pl_slots.specs.declared.output.FffOutput.TheVariants.{Slices, Perimeters, Surfaces, Strokes, Support, Gcode}

-- ---- one step after another

-- so many perimeters of each slice, and what they leave
abbrev pub perimeters_of : ObjectOptions → List Cells → PerimeterSet
perimeters_of options slices = record { loops = map (loops_in options.perimeters) slices; inner = inner_of options.perimeters slices }

-- the surfaces of each layer, by the slices and by what the perimeters leave
abbrev pub surface_sets_of : ObjectOptions → List Cells → List Cells → List SurfaceSet
surface_sets_of options slices inner = each (length inner) (surfaces_at slices inner options.top options.bottom)

-- the strokes that fill each layer
abbrev pub infill_strokes_of : ObjectOptions → List SurfaceSet → List (List Stroke)
infill_strokes_of options sets = each (length sets) (infill_at sets options.density)

-- the strokes that iron each layer
abbrev pub ironing_strokes_of : ObjectOptions → List SurfaceSet → List (List Stroke)
ironing_strokes_of options sets = each (length sets) (ironing_at options.ironing sets)

-- the support of each layer
abbrev pub support_set_on : List Cells → SupportSet
support_set_on cells = record { cells = cells; strokes = each (length cells) (support_in cells) }

abbrev pub support_set_of : ObjectOptions → List Cells → SupportSet
support_set_of options slices = support_set_on (support_of options.support options.plate_only slices)

-- ---- of an object

abbrev pub sliced_for : KeyMap → Object → Sliced
sliced_for config object = record { heights = heights_for config object; planes = slices_for config object }

abbrev pub perimeters_for : KeyMap → Object → PerimeterSet
perimeters_for config object = perimeters_of (options_for config object) (slices_for config object)

abbrev pub surface_sets_for : KeyMap → Object → List SurfaceSet
surface_sets_for config object = surface_sets_of (options_for config object) (slices_for config object) (perimeters_for config object).inner

abbrev pub infill_strokes_for : KeyMap → Object → List (List Stroke)
infill_strokes_for config object = infill_strokes_of (options_for config object) (surface_sets_for config object)

abbrev pub ironing_strokes_for : KeyMap → Object → List (List Stroke)
ironing_strokes_for config object = ironing_strokes_of (options_for config object) (surface_sets_for config object)

abbrev pub support_set_for : KeyMap → Object → SupportSet
support_set_for config object = support_set_of (options_for config object) (slices_for config object)

-- the result of a step of an object
abbrev pub object_value : KeyMap → Object → ℕ → FffOutput
object_value config object step =
    if step == steps.slice then Slices (sliced_for config object)
    else if step == steps.perimeters then Perimeters (perimeters_for config object)
    else if step == steps.prepare then Surfaces (surface_sets_for config object)
    else if step == steps.infill then Strokes (infill_strokes_for config object)
    else if step == steps.ironing then Strokes (ironing_strokes_for config object)
    else if step == steps.support then Support (support_set_for config object)
    else Gcode []
