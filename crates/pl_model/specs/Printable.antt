-- Which plates can be printed, and what is wrong with the others.
use Rattle.std.specs.Prelude.{◌≡◌, ℕ, ◌*◌, ◌^◌, ◌<◌, ◌≤◌, true, false, Some, length, slice_get}
use Rattle.pl_options.specs.KeyMap.{KeyMap}
use Rattle.pl_tech.specs.declared.problem.Problem.{Problem}
use Rattle.pl_tech.specs.declared.problem.Problem.TheVariants.{Empty, OutOfBed, TooManyCells}
use Rattle.pl_grid.specs.Extent.{Extent}
use Rattle.pl_layers.specs.Turned.{box_of}
use Rattle.pl_layers.specs.Heights.{layer_count_of}
use Rattle.pl_model.specs.declared.instances.Shift.{Shift}
use Rattle.pl_model.specs.declared.object.Object.{Object}
use Rattle.pl_model.specs.Contents.{Contents}
use Rattle.pl_model.specs.Problem.{is_in_bed, heights_for}
use Rattle.pl_model.specs.Editing.{IsAt}

-- the box of an object's cells
abbrev pub box_for : Object → Extent
box_for object = box_of object.quarter object.mesh

-- columns times rows times layers
abbrev pub cells_for : KeyMap → Object → ℕ
cells_for config object = (box_for object).cols * (box_for object).rows * layer_count_of (heights_for config object) object.mesh

-- the first so many instances lie in the bed
abbrev pub AreInBed : Object → ℕ → Type 0
AreInBed object count = (instance : ℕ) (shift : Shift) → instance < count → slice_get object.instances instance ≡ Some shift → is_in_bed (box_for object) shift ≡ true

-- the instance leaves the bed, and no earlier one does
pub record IsFirstOut (object : Object) (instance : ℕ) : Type 0 where
  pub shift : Shift
  pub there : slice_get object.instances instance ≡ Some shift
  pub out : is_in_bed (box_for object) shift ≡ false
  pub before : AreInBed object instance

-- all instances lie in the bed, and the cells are few
pub record IsPrintable (config : KeyMap) (object : Object) : Type 0 where
  pub inside : AreInBed object (length object.instances)
  pub few : cells_for config object ≤ 2 ^ 24

-- the objects at the places below this one are printable
abbrev pub ArePrintable : Contents → ℕ → Type 0
ArePrintable plate place = (earlier : ℕ) (object : Object) → earlier < place → IsAt plate.places earlier object → IsPrintable plate.config object

-- why a plate can't be printed
pub data HasProblem (plate : Contents) : Problem → Type 0 where
  -- no place is filled
  empty : ((place : ℕ) (object : Object) → IsAt plate.places place object → ⊥) → HasProblem plate Empty
  -- the least place whose object is not printable has an instance that leaves the bed; the first such one is named
  out_of_bed : (place instance : ℕ) (object : Object) → ArePrintable plate place → IsAt plate.places place object → IsFirstOut object instance → HasProblem plate (OutOfBed place instance)
  -- the object at that place has all instances in the bed, and too many cells
  too_many_cells : (place : ℕ) (object : Object) → ArePrintable plate place → IsAt plate.places place object → AreInBed object (length object.instances) → 2 ^ 24 < cells_for plate.config object
      → HasProblem plate (TooManyCells place)

-- a place is filled, and each object is printable
pub record CanBePrinted (plate : Contents) : Type 0 where
  pub place : ℕ
  pub object : Object
  pub there : IsAt plate.places place object
  pub printable : ArePrintable plate (length plate.places)
