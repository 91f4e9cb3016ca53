-- The rings and loops of small planes, computed.
use Rattle.std.proofs.Common.{◌≡◌, ℤ, ℕ, pos, List, [], ◌∷◌, replicate, refl, Bool, true, false}
use Rattle.pl_grid.specs.Planes.{Cells, cells_of}
use Rattle.pl_grid.specs.declared.stroke.Corner.{Corner}
use Rattle.pl_rings.specs.Rings.{eroded_times, rings_of}
use Rattle.pl_rings.specs.Sides.{loops_of}

abbrev at : ℤ → ℤ → Corner
at x y = record { x = x; y = y }

abbrev square : ℕ → List Bool → Cells
square n cells = record { bounds = record { x0 = pos 0; y0 = pos 0; cols = n; rows = n }; cells = cells }

-- two cells on a diagonal are in one loop, which turns right where they meet
crossing : loops_of (square 2 (true ∷ false ∷ false ∷ true ∷ [])) ≡ (at (pos 0) (pos 0) ∷ at (pos 1) (pos 0) ∷ at (pos 1) (pos 1) ∷ at (pos 2) (pos 1) ∷ at (pos 2) (pos 2) ∷ at (pos 1) (pos 2) ∷ at (pos 1) (pos 1) ∷ at (pos 0) (pos 1) ∷ []) ∷ []
crossing = refl

abbrev nine : Cells
nine = square 3 (replicate 9 true)

abbrev middle : Cells
middle = square 3 (false ∷ false ∷ false ∷ false ∷ true ∷ false ∷ false ∷ false ∷ false ∷ [])

-- the rings of nine cells are all of them and the middle one
nested : rings_of 2 nine ≡ nine ∷ middle ∷ []
unfolding cells_of
nested = refl

-- and nothing is inside
inside : eroded_times 2 nine ≡ square 3 (replicate 9 false)
unfolding cells_of
inside = refl

around_all : loops_of nine ≡ (at (pos 0) (pos 0) ∷ at (pos 3) (pos 0) ∷ at (pos 3) (pos 3) ∷ at (pos 0) (pos 3) ∷ []) ∷ []
around_all = refl

around_one : loops_of middle ≡ (at (pos 1) (pos 1) ∷ at (pos 2) (pos 1) ∷ at (pos 2) (pos 2) ∷ at (pos 1) (pos 2) ∷ []) ∷ []
around_one = refl
