-- The text of a box.
use Rattle.std.specs.Prelude.{ℕ, ◌/◌, ◌%◌, ◌==◌, if◌then◌else◌, List, [], ◌∷◌, ◌++◌, flat_map, codes}
use Rattle.std.specs.Fmt.{decimal}
use Rattle.pl_demo.specs.Lines.{line_of, text_of}
use Rattle.pl_demo.specs.declared.solid.Size.{Size}
use Rattle.pl_demo.specs.declared.solid.Corners.{Corners}

-- a corner's number from 0 to 7 has a bit for each axis: it lies at the length there where the bit is 1, and at 0 where it is not
abbrev pub coordinate_of : ℕ → ℕ → ℕ
coordinate_of length bit = if bit == 1 then length else 0

-- the words of a corner
abbrev pub vertex_words : Size → ℕ → List (List ℕ)
vertex_words size corner =
    codes "vertex" ∷ decimal (coordinate_of size.x (corner % 2)) ∷ decimal (coordinate_of size.y (corner / 2 % 2)) ∷ decimal (coordinate_of size.z (corner / 4 % 2)) ∷ []

unfoldable pub facet_text : Size → Corners → List ℕ
facet_text size corners = text_of (
    (codes "facet" ∷ codes "normal" ∷ codes "0" ∷ codes "0" ∷ codes "0" ∷ [])
    ∷ (codes "outer" ∷ codes "loop" ∷ [])
    ∷ vertex_words size corners.0 ∷ vertex_words size corners.1 ∷ vertex_words size corners.2
    ∷ (codes "endloop" ∷ []) ∷ (codes "endfacet" ∷ []) ∷ []
    )

abbrev pub corners_of : ℕ → ℕ → ℕ → Corners
corners_of a b c = record { 0 = a; 1 = b; 2 = c }

-- two facets of each side
abbrev pub facets : List Corners
facets =
    corners_of 0 2 1 ∷ corners_of 1 2 3 ∷ corners_of 4 5 6 ∷ corners_of 5 7 6 ∷ corners_of 0 1 4 ∷ corners_of 1 5 4
    ∷ corners_of 2 6 3 ∷ corners_of 3 6 7 ∷ corners_of 0 4 2 ∷ corners_of 2 4 6 ∷ corners_of 1 3 5 ∷ corners_of 3 7 5 ∷ []

unfoldable pub facets_text : Size → List ℕ
facets_text size = flat_map (facet_text size) facets

abbrev pub box_text : Size → List ℕ
box_text size = line_of (codes "solid" ∷ codes "box" ∷ []) ++ (facets_text size ++ line_of (codes "endsolid" ∷ codes "box" ∷ []))
