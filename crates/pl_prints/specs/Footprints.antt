-- What the objects put on the bed.
use Rattle.std.specs.Prelude.{◌≡◌, ℤ, pos, ◌-ℤ◌, ◌≤ℤ◌, Bool, ◌||◌, List}
use Rattle.std.specs.List.{list_any}
use Rattle.pl_options.specs.KeyMap.{KeyMap}
use Rattle.pl_grid.specs.Planes.{Cells, IsFull, filled, plane_of}
use Rattle.pl_fill.specs.Surfaces.{layer_at}
use Rattle.pl_adhesion.specs.Bed.{IsRoomFor}
use Rattle.pl_model.specs.declared.instances.Shift.{Shift}
use Rattle.pl_model.specs.declared.object.Object.{Object}
use Rattle.pl_model.specs.Problem.{cell_of}
use Rattle.pl_values.specs.ObjectValues.{slices_for, supports_for}
use Rattle.pl_values.specs.PrintValues.{bed}

-- the first slice of an object, the support cells of its first layer, and where its instances stand
pub record Footprint : Type 0 where
  pub slice : Cells
  pub support : Cells
  pub instances : List Shift

abbrev pub footprint_in : KeyMap → Object → Footprint
footprint_in config object = record { slice = layer_at (slices_for config object) 0; support = layer_at (supports_for config object) 0; instances = object.instances }

-- an instance stands on the cell
abbrev pub stands_at : Footprint → Shift → ℤ → ℤ → Bool
stands_at f shift x y = filled f.slice (x -ℤ cell_of shift.x) (y -ℤ cell_of shift.y) || filled f.support (x -ℤ cell_of shift.x) (y -ℤ cell_of shift.y)

-- some instance stands on it
abbrev pub covers : Footprint → ℤ → ℤ → Bool
covers f x y = list_any (λ shift. stands_at f shift x y) f.instances

-- the cells of the bed on which some instance stands
abbrev pub footing_of : List Footprint → Cells
footing_of footprints = plane_of bed (λ x y. list_any (λ f. covers f x y) footprints)

-- the instance lies in the bed
pub record IsPlaced (f : Footprint) (shift : Shift) : Type 0 where
  pub left : pos 0 ≤ℤ cell_of shift.x
  pub right : cell_of shift.x ≤ℤ pos 625
  pub bottom : pos 0 ≤ℤ cell_of shift.y
  pub top : cell_of shift.y ≤ℤ pos 525
  pub slice : IsRoomFor f.slice (cell_of shift.x) (cell_of shift.y) bed
  pub support : IsRoomFor f.support (cell_of shift.x) (cell_of shift.y) bed

-- a plane of the whole bed
pub record IsBed (p : Cells) : Type 0 where
  pub bounds : p.bounds ≡ bed
  pub full : IsFull p
