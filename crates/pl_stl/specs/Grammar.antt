-- The texts of meshes, and the first breach of any other text.
use Rattle.std.specs.Prelude.{◌≡◌, ◌==◌, ◌≤◌, ℕ, true, List, [], ◌∷◌, ◌++◌, length, if◌then◌else◌, codes, Ok, Err}
use Rattle.pl_units.specs.declared.Nm.{Nm}
use Rattle.pl_units.specs.declared.numeral.NumberFault.{NumberFault}
use Rattle.pl_units.specs.declared.numeral.NumberFault.TheVariants as number
use Rattle.pl_units.specs.Lengths.{length_of}
use Rattle.pl_stl.specs.declared.mesh.Facet.{Facet}
use Rattle.pl_stl.specs.declared.fault.StlFault.{StlFault}
use Rattle.pl_stl.specs.declared.fault.StlFault.TheVariants.{BadToken, BadNumber, TooFar, TooManyFacets, Cut, NoFacet}
use Rattle.pl_stl.specs.declared.form.Keyword.{Keyword}
use Rattle.pl_stl.specs.declared.form.Keyword.TheVariants as key
use Rattle.pl_stl.specs.declared.form.Class.{Class}
use Rattle.pl_stl.specs.declared.form.Class.TheVariants as class
use Rattle.pl_stl.specs.Tokens.{Token, tokens, last_line}
use Rattle.pl_stl.specs.Form.{is_keyword, form}

abbrev pub IsKeyword : Token → Keyword → Type 0
IsKeyword t k = is_keyword t.word k ≡ true

-- the tokens after the rest of a line
abbrev pub beyond : ℕ → List Token → List Token
beyond line [] = []
beyond line (t ∷ ts) = if line == t.line then beyond line ts else t ∷ ts

-- tokens of these classes, with the lengths that they write
pub data Fits : List Class → List Token → List Nm → Type 0 where
  done : Fits [] [] []
  any : (t : Token) {cs : List Class} {ts : List Token} {ns : List Nm} → Fits cs ts ns → Fits (class.Any ∷ cs) (t ∷ ts) ns
  keyword : (t : Token) (k : Keyword) {cs : List Class} {ts : List Token} {ns : List Nm} → IsKeyword t k → Fits cs ts ns → Fits (class.Keyword k ∷ cs) (t ∷ ts) ns
  coordinate : (t : Token) (n : Nm) {cs : List Class} {ts : List Token} {ns : List Nm} → length_of t.word ≡ Ok n → Fits cs ts ns → Fits (class.Coordinate ∷ cs) (t ∷ ts) (n ∷ ns)

abbrev pub corners : Facet → List Nm
corners f = f.a.x ∷ f.a.y ∷ f.a.z ∷ f.b.x ∷ f.b.y ∷ f.b.z ∷ f.c.x ∷ f.c.y ∷ f.c.z ∷ []

mutual
  -- any number of solids, with their facets
  pub data IsText : List Token → List Facet → Type 0 where
    empty : IsText [] []
    solid : (t : Token) {ts : List Token} {fs : List Facet} → IsKeyword t key.Solid → IsBody (beyond t.line ts) fs → IsText (t ∷ ts) fs

  -- any number of facets, and the end of their solid
  pub data IsBody : List Token → List Facet → Type 0 where
    facet : (t : Token) (ts : List Token) (f : Facet) {rest : List Token} {fs : List Facet} → IsKeyword t key.Facet → Fits form ts (corners f) → IsBody rest fs → IsBody (t ∷ (ts ++ rest)) (f ∷ fs)
    end : (t : Token) {ts : List Token} {fs : List Facet} → IsKeyword t key.EndSolid → IsText (beyond t.line ts) fs → IsBody (t ∷ ts) fs

-- the bytes are the text of a mesh: of 1 to 300,000 facets
pub record IsMeshText (bytes : List ℕ) (facets : List Facet) : Type 0 where
  pub is_text : IsText (tokens bytes) facets
  pub some : 1 ≤ length facets
  pub few : length facets ≤ 300000

-- tokens that begin a text of at most 300,000 facets, and of any number of facets
abbrev pub Begins : List Token → Type 0
Begins ts = (rest : List Token) × (fs : List Facet) × IsText (ts ++ rest) fs × (length fs ≤ 300000)

abbrev pub BeginsAny : List Token → Type 0
BeginsAny ts = (rest : List Token) × (fs : List Facet) × IsText (ts ++ rest) fs

-- a number may stand after tokens, at this line
abbrev pub TakesNumber : List Token → ℕ → Type 0
TakesNumber before line = Begins (before ++ record { word = codes "0"; line = line } ∷ [])

abbrev pub of_number : NumberFault → StlFault
of_number number.BadNumber = BadNumber
of_number number.TooFar = TooFar

-- why a token may not stand after others: in a number's place by its reading; else as a facet too many; else as a bad token
pub data IsFault (before : List Token) (t : Token) : StlFault → Type 0 where
  bad_number : (fault : NumberFault) → TakesNumber before t.line → length_of t.word ≡ Err fault → IsFault before t (of_number fault)
  too_many : (TakesNumber before t.line → ⊥) → BeginsAny (before ++ t ∷ []) → IsFault before t TooManyFacets
  bad_token : (TakesNumber before t.line → ⊥) → (BeginsAny (before ++ t ∷ []) → ⊥) → IsFault before t BadToken

-- the first breach of tokens whose text ends at a line: its line and its fault
pub data Breaks (last : ℕ) (ts : List Token) : ℕ → StlFault → Type 0 where
  -- the tokens before one begin a text, and with that one they don't
  at_token : (before : List Token) (t : Token) (rest : List Token) (fault : StlFault) → ts ≡ before ++ t ∷ rest → Begins before → (Begins (before ++ t ∷ []) → ⊥) → IsFault before t fault → Breaks last ts t.line fault
  -- all the tokens begin a text, and are none
  cut : Begins ts → ((fs : List Facet) → IsText ts fs → ⊥) → Breaks last ts last Cut
  no_facet : IsText ts [] → Breaks last ts last NoFacet

abbrev pub IsFirstBreach : List ℕ → ℕ → StlFault → Type 0
IsFirstBreach bytes line fault = Breaks (last_line bytes) (tokens bytes) line fault
