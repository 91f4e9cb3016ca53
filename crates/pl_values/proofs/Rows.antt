-- Small worked rows of the definitions.
use Rattle.std.proofs.Common.{◌≡◌, pos, negsuc, ◌==◌, ◌||◌, true, [], ◌∷◌, refl}
use Rattle.std.specs.List.{flat_map}
use Rattle.pl_grid.specs.Planes.{Cells, plane_of, cells_of}
use Rattle.pl_rings.specs.Rings.{rings_of}
use Rattle.pl_rings.specs.Sides.{loops_of}
use Rattle.pl_tower.specs.Tools.{members}
use Rattle.pl_values.specs.Ascending.{ascending}
use Rattle.pl_values.specs.ObjectValues.{corner_for}
use Rattle.pl_values.specs.Options.{cells_in}
use Rattle.pl_values.specs.PrintValues.{tool_set_of, farther}

-- tops of three objects, of which two share one
merged : ascending (pos 400000 ∷ pos 200000 ∷ pos 400000 ∷ pos 300000 ∷ []) ≡ pos 200000 ∷ pos 300000 ∷ pos 400000 ∷ []
unfolding ascending
merged = refl

-- a nanometre to the left of the bed is the column before its first; a nanometre below 0.8 mm is the second row
floored : corner_for (record { x = record { 0 = negsuc 0 }; y = record { 0 = pos 799999 } }) ≡ record { x = negsuc 0; y = pos 1 }
floored = refl

-- a distance of 6 mm and a brim of 8.1 mm: 20 whole cells
beyond_brim : cells_in (farther (record { 0 = pos 6000000 }) (record { 0 = pos 8100000 })) ≡ 20
beyond_brim = refl

-- the tools 1 and 3
two_tools : members (tool_set_of (λ tool. (tool == 3) || (tool == 1))) ≡ 1 ∷ 3 ∷ []
unfolding members
two_tools = refl

abbrev four_by_four : Cells
unfolding cells_of
four_by_four = plane_of (record { x0 = pos 0; y0 = pos 0; cols = 4; rows = 4 }) (λ _ _. true)

-- two perimeters of a square of 4 by 4 cells: the outermost first
two_perimeters : flat_map loops_of (rings_of 2 four_by_four) ≡ (record { x = pos 0; y = pos 0 } ∷ record { x = pos 4; y = pos 0 } ∷ record { x = pos 4; y = pos 4 } ∷ record { x = pos 0; y = pos 4 } ∷ []) ∷ (record { x = pos 1; y = pos 1 } ∷ record { x = pos 3; y = pos 1 } ∷ record { x = pos 3; y = pos 3 } ∷ record { x = pos 1; y = pos 3 } ∷ []) ∷ []
unfolding cells_of
two_perimeters = refl
