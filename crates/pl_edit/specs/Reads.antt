-- What a block keeps of its reading.
use Rattle.std.specs.Prelude.{◌≡◌, ℕ, List, Result, Ok, Err}
use Rattle.pl_stl.specs.declared.mesh.Facet.{Facet}
use Rattle.pl_stl.specs.Reading.{Breach, breach, mesh_of}
use Rattle.pl_edit.specs.declared.block.Read.{Read}
use Rattle.pl_edit.specs.declared.block.Read.TheVariants as read

-- what was read, as reading says it
abbrev pub told : Read → Result (List Facet) Breach
told (read.Mesh mesh) = Ok mesh
told (read.Breach line fault) = Err (breach line fault)

-- it is what reading gives of the text
abbrev pub IsReadingOf : List ℕ → Read → Type 0
IsReadingOf bytes r = told r ≡ mesh_of bytes
