-- Why a plate can't be printed.
use Rattle.std.specs.Prelude.{ℤ, ℕ, pos, ◌+◌, ◌*◌, ◌^◌, ◌+ℤ◌, nat_le, int_le, Bool, ◌&&◌, not, if◌then◌else◌, List, [], ◌∷◌, position, Option, Some, None}
use Rattle.std.specs.Int.{int_div_euclid}
use Rattle.std.specs.Option.{option_or, is_none}
use Rattle.std.specs.List.{list_all}
use Rattle.pl_units.specs.declared.Nm.{Nm}
use Rattle.pl_keys.specs.declared.key.Key.TheVariants.{LayerHeight, FirstLayerHeight}
use Rattle.pl_keys.specs.declared.value.Value.{Value}
use Rattle.pl_keys.specs.declared.value.Value.TheVariants.{Length}
use Rattle.pl_options.specs.KeyMap.{KeyMap}
use Rattle.pl_tech.specs.declared.problem.Problem.{Problem}
use Rattle.pl_tech.specs.declared.problem.Problem.TheVariants.{Empty, OutOfBed, TooManyCells}
use Rattle.pl_grid.specs.Extent.{Extent}
use Rattle.pl_layers.specs.declared.heights.Heights.{Heights}
use Rattle.pl_layers.specs.Turned.{box_of}
use Rattle.pl_layers.specs.Heights.{layer_count_of}
use Rattle.pl_model.specs.declared.instances.Shift.{Shift}
use Rattle.pl_model.specs.declared.object.Object.{Object}
use Rattle.pl_model.specs.Contents.{Contents}
use Rattle.pl_model.specs.Effective.{value_for}

-- the column or row of cells of 400,000 nm that a length falls into
abbrev pub cell_of : Nm → ℤ
cell_of length = int_div_euclid length.0 (pos 400000)

-- so many columns or rows from one on lie among the first `most`
abbrev pub is_among : ℕ → ℤ → ℕ → Bool
is_among most first count = int_le (pos 0) first && int_le (first +ℤ pos count) (pos most)

-- a box that is shifted lies in the bed of 625 by 525 cells, as a rectangle
abbrev pub is_in_bed : Extent → Shift → Bool
is_in_bed box shift = is_among 625 (cell_of shift.x) box.cols && is_among 525 (cell_of shift.y) box.rows

-- the first instance that leaves the bed
abbrev pub outside : Extent → List Shift → Option ℕ
outside box instances = position (λ shift. not (is_in_bed box shift)) instances

abbrev pub length_in : Option Value → Nm
length_in (Some (Length length)) = length
length_in _ = record { 0 = pos 0 }

-- the heights of an object's layers
abbrev pub heights_for : KeyMap → Object → Heights
heights_for config object = record { first = length_in (value_for config object FirstLayerHeight); height = length_in (value_for config object LayerHeight) }

abbrev pub has_few_cells : Extent → ℕ → Bool
has_few_cells box layers = nat_le (box.cols * box.rows * layers) (2 ^ 24)

-- the problem of an object at a place, of this box and so many layers: its instances come before its cells
abbrev pub problem_by : ℕ → Option ℕ → Bool → Option Problem
problem_by place (Some instance) few = Some (OutOfBed place instance)
problem_by place None few = if few then None else Some (TooManyCells place)

abbrev pub object_problem : KeyMap → ℕ → Object → Option Problem
object_problem config place object =
    let box = box_of object.quarter object.mesh in
    problem_by place (outside box object.instances) (has_few_cells box (layer_count_of (heights_for config object) object.mesh))

abbrev pub place_problem : KeyMap → ℕ → Option Object → Option Problem
place_problem config place None = None
place_problem config place (Some object) = object_problem config place object

-- the first problem of the objects from a place on
abbrev pub first_problem : KeyMap → ℕ → List (Option Object) → Option Problem
first_problem config place [] = None
first_problem config place (object ∷ rest) = option_or (place_problem config place object) (first_problem config (place + 1) rest)

abbrev pub problem_of : Contents → Option Problem
problem_of plate = if list_all is_none plate.places then Some Empty else first_problem plate.config 0 plate.places
