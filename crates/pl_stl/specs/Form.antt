-- The keywords, and the form of a facet.
use Rattle.std.specs.Prelude.{ℕ, Bool, List, [], ◌∷◌, codes}
use Rattle.std.specs.Str.{str_eq_ignore_ascii_case}
use Rattle.pl_stl.specs.declared.form.Keyword.{Keyword}
use Rattle.pl_stl.specs.declared.form.Keyword.TheVariants as key
use Rattle.pl_stl.specs.declared.form.Class.{Class}
use Rattle.pl_stl.specs.declared.form.Class.TheVariants as class

-- how a keyword is written
abbrev pub text : Keyword → List ℕ
text key.Solid = codes "solid"
text key.Facet = codes "facet"
text key.Normal = codes "normal"
text key.Outer = codes "outer"
text key.Loop = codes "loop"
text key.Vertex = codes "vertex"
text key.EndLoop = codes "endloop"
text key.EndFacet = codes "endfacet"
text key.EndSolid = codes "endsolid"

-- letters of either case are the same
abbrev pub is_keyword : List ℕ → Keyword → Bool
is_keyword word k = str_eq_ignore_ascii_case word (text k)

-- the words of a facet after its first
abbrev pub form : List Class
form = class.Keyword key.Normal ∷ class.Any ∷ class.Any ∷ class.Any ∷ class.Keyword key.Outer ∷ class.Keyword key.Loop ∷ class.Keyword key.Vertex ∷ class.Coordinate ∷ class.Coordinate ∷ class.Coordinate ∷ class.Keyword key.Vertex ∷ class.Coordinate ∷ class.Coordinate ∷ class.Coordinate ∷ class.Keyword key.Vertex ∷ class.Coordinate ∷ class.Coordinate ∷ class.Coordinate ∷ class.Keyword key.EndLoop ∷ class.Keyword key.EndFacet ∷ []
