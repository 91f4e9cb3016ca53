-- Reading by what may stand next.
use Rattle.std.specs.Prelude.{◌≡◌, ◌==◌, nat_lt, ℕ, ◌+◌, List, [], ◌∷◌, ◌++◌, length, if◌then◌else◌, Option, Some, None, Result, Ok, Err, pos, slice_get}
use Rattle.pl_units.specs.declared.Nm.{Nm}
use Rattle.pl_units.specs.declared.Refusal.{Refusal}
use Rattle.pl_units.specs.declared.Refusal.TheVariants.{Fault, NoMemory}
use Rattle.pl_units.specs.declared.numeral.NumberFault.{NumberFault}
use Rattle.pl_units.specs.Lengths.{length_of}
use Rattle.pl_stl.specs.declared.mesh.Point3.{Point3}
use Rattle.pl_stl.specs.declared.mesh.Facet.{Facet}
use Rattle.pl_stl.specs.declared.fault.StlFault.{StlFault}
use Rattle.pl_stl.specs.declared.fault.StlFault.TheVariants.{BadToken, TooManyFacets, Cut, NoFacet}
use Rattle.pl_stl.specs.declared.form.Keyword.TheVariants as key
use Rattle.pl_stl.specs.declared.form.Class.{Class}
use Rattle.pl_stl.specs.declared.form.Class.TheVariants as class
use Rattle.pl_stl.specs.declared.form.Place.{Place}
use Rattle.pl_stl.specs.declared.form.Place.TheVariants as at
use Rattle.pl_stl.specs.Tokens.{Token, tokens, last_line}
use Rattle.pl_stl.specs.Form.{is_keyword, form}
use Rattle.pl_stl.specs.Grammar.{of_number}

abbrev pub origin : Point3
origin = record { x = record { 0 = pos 0 }; y = record { 0 = pos 0 }; z = record { 0 = pos 0 } }

-- a facet with no coordinate read
abbrev pub blank : Facet
blank = record { a = origin; b = origin; c = origin }

-- the last nine coordinates, where one comes after those of a facet
abbrev pub shifted : Facet → Nm → Facet
shifted f n = record {
  a = record { x = f.a.y; y = f.a.z; z = f.b.x };
  b = record { x = f.b.y; y = f.b.z; z = f.c.x };
  c = record { x = f.c.y; y = f.c.z; z = n };
}

abbrev pub with_coordinate : Facet → Result Nm NumberFault → Result Facet StlFault
with_coordinate f (Ok n) = Ok (shifted f n)
with_coordinate f (Err fault) = Err (of_number fault)

-- a facet after a word of a class, if it is one
abbrev pub taken : Class → Facet → List ℕ → Result Facet StlFault
taken class.Any f word = Ok f
taken (class.Keyword k) f word = if is_keyword word k then Ok f else Err BadToken
taken class.Coordinate f word = with_coordinate f (length_of word)

-- where a class is left
abbrev pub taken_at : Option Class → Facet → List ℕ → Result Facet StlFault
taken_at None f word = Err BadToken
taken_at (Some c) f word = taken c f word

abbrev pub Next : Type 0
Next = Result (Place × Option Facet) StlFault

abbrev pub at_solid : List ℕ → ℕ → Next
at_solid word line = if is_keyword word key.Solid then Ok (at.Title line, None) else Err BadToken

abbrev pub at_facet : ℕ → List ℕ → ℕ → Next
at_facet found word line =
    if is_keyword word key.Facet then (if nat_lt found 300000 then Ok (at.Inside 0 blank, None) else Err TooManyFacets)
    else (if is_keyword word key.EndSolid then Ok (at.Tail line, None) else Err BadToken)

-- behind so many words of a facet
abbrev pub inside : ℕ → Result Facet StlFault → Next
inside count (Err fault) = Err fault
inside count (Ok f) = if count == 20 then Ok (at.Facets, Some f) else Ok (at.Inside count f, None)

-- What may stand after a word, and the facet that it ends.
abbrev pub step : Place → ℕ → List ℕ → ℕ → Next
step at.Outside found word line = at_solid word line
step (at.Title title) found word line = if title == line then Ok (at.Title title, None) else at_facet found word line
step at.Facets found word line = at_facet found word line
step (at.Inside count f) found word line = inside (count + 1) (taken_at (slice_get form count) f word)
step (at.Tail tail) found word line = if tail == line then Ok (at.Tail tail, None) else at_solid word line

-- where the reader stands, and the facets so far
pub record State : Type 0 where
  pub place : Place
  pub mesh : List Facet

abbrev pub start : State
start = record { place = at.Outside; mesh = [] }

abbrev pub added : List Facet → Option Facet → List Facet
added mesh None = mesh
added mesh (Some f) = mesh ++ f ∷ []

-- a fault and its line
pub data Breach : Type 0 where
  breach : ℕ → StlFault → Breach

abbrev pub moved : List Facet → ℕ → Next → Result State Breach
moved mesh line (Ok p) = Ok (record { place = p.0; mesh = added mesh p.1 })
moved mesh line (Err fault) = Err (breach line fault)

-- the state after a token, or the breach
abbrev pub after : State → Token → Result State Breach
after s t = moved s.mesh t.line (step s.place (length s.mesh) t.word t.line)

-- the state after a word at a line, where an empty one is none
abbrev pub after_word : State → ℕ → List ℕ → Result State Breach
after_word s line [] = Ok s
after_word s line (b ∷ bs) = after s (record { word = b ∷ bs; line = line })

abbrev pub some_facets : ℕ → List Facet → Result (List Facet) Breach
some_facets last [] = Err (breach last NoFacet)
some_facets last (f ∷ fs) = Ok (f ∷ fs)

-- what the end of the text makes of a state
abbrev pub finished : ℕ → Place → List Facet → Result (List Facet) Breach
finished last at.Outside mesh = some_facets last mesh
finished last (at.Tail tail) mesh = some_facets last mesh
finished last _ mesh = Err (breach last Cut)

abbrev pub bind : {A B E : Type 0} → Result A E → (A → Result B E) → Result B E
bind (Ok x) f = f x
bind (Err e) f = Err e

-- the facets of tokens, on from a state
abbrev pub run : ℕ → State → List Token → Result (List Facet) Breach
run last s [] = finished last s.place s.mesh
run last s (t ∷ ts) = bind (after s t) (λ s'. run last s' ts)

abbrev pub mesh_of : List ℕ → Result (List Facet) Breach
mesh_of bytes = run (last_line bytes) start (tokens bytes)

-- What a call returned is what reading gives, unless memory ran out.
abbrev pub Refuses : {Y : Type 0} → Refusal StlFault → Result Y Breach → Type 0
Refuses (Fault line fault) read = read ≡ Err (breach line fault)
Refuses NoMemory read = Unit {0}

abbrev pub Gives : {X Y : Type 0} → (X → Y) → Result X (Refusal StlFault) → Result Y Breach → Type 0
Gives view (Ok x) read = read ≡ Ok (view x)
Gives view (Err e) read = Refuses e read
