-- Why a token may not stand at a place, and what may follow each place.
use Rattle.std.proofs.Common.{◌≡◌, ◌==◌, ◌+◌, ◌≤◌, ℕ, suc, Bool, true, false, List, [], ◌∷◌, length, drop, refl, ap, ◌∙◌, arith, Ok, Err, Result, Option, Some, None, ◌⊎◌, inl, inr, pos}
use Rattle.std.specs.Prelude.{codes, nat_lt, slice_get}
use Rattle.std.proofs.lemmas.Bool.{ltb-false, eqb-true}
use Rattle.pl_units.specs.declared.Nm.{Nm}
use Rattle.pl_units.specs.declared.numeral.NumberFault.{NumberFault}
use Rattle.pl_units.specs.Lengths.{length_of}
use Rattle.pl_stl.specs.declared.mesh.Facet.{Facet}
use Rattle.pl_stl.specs.declared.fault.StlFault.{StlFault}
use Rattle.pl_stl.specs.declared.fault.StlFault.TheVariants.{BadToken, TooManyFacets}
use Rattle.pl_stl.specs.declared.form.Class.{Class}
use Rattle.pl_stl.specs.declared.form.Class.TheVariants as class
use Rattle.pl_stl.specs.declared.form.Keyword.TheVariants as key
use Rattle.pl_stl.specs.declared.form.Keyword.{Keyword}
use Rattle.pl_stl.specs.declared.form.Place.{Place}
use Rattle.pl_stl.specs.declared.form.Place.TheVariants as at
use Rattle.pl_stl.specs.Tokens.{Token}
use Rattle.pl_stl.specs.Form.{text, is_keyword, form}
use Rattle.pl_stl.specs.Grammar.{IsText, empty, IsBody, end, of_number}
use Rattle.pl_stl.specs.Reading.{blank, shifted, with_coordinate, taken, taken_at, at_solid, at_facet, inside, step}
use Rattle.pl_stl.proofs.Follows.{Within, Rest, Stands, Move, chosen, not_both, only_one, body_facet, text_cases, body_cases, some_within, can_take, left, class_left}

abbrev pub token : List ℕ → ℕ → Token
token word line = record { word = word; line = line }

-- A text at each place.

pub keyword_itself : (k : Keyword) → is_keyword (text k) k ≡ true
keyword_itself key.Solid = refl
keyword_itself key.Facet = refl
keyword_itself key.Normal = refl
keyword_itself key.Outer = refl
keyword_itself key.Loop = refl
keyword_itself key.Vertex = refl
keyword_itself key.EndLoop = refl
keyword_itself key.EndFacet = refl
keyword_itself key.EndSolid = refl

pub zero_is_no_keyword : (k : Keyword) → is_keyword (codes "0") k ≡ false
zero_is_no_keyword key.Solid = refl
zero_is_no_keyword key.Facet = refl
zero_is_no_keyword key.Normal = refl
zero_is_no_keyword key.Outer = refl
zero_is_no_keyword key.Loop = refl
zero_is_no_keyword key.Vertex = refl
zero_is_no_keyword key.EndLoop = refl
zero_is_no_keyword key.EndFacet = refl
zero_is_no_keyword key.EndSolid = refl

abbrev pub no_length : Nm
no_length = record { 0 = pos 0 }

pub zero_is_a_number : length_of (codes "0") ≡ Ok no_length
zero_is_a_number = refl

pub ended : (line : ℕ) → IsBody (token (codes "endsolid") line ∷ []) []
ended line = end (token (codes "endsolid") line) refl empty

pub complete : (cs : List Class) (f : Facet) → (ts : List Token) × (g : Facet) × Within cs f ts (g ∷ [])
complete [] f = (token (codes "endsolid") 0 ∷ [], f, (refl, ended 0))
complete (class.Any ∷ cs) f = let r = complete cs f in (token (codes "0") 0 ∷ r.0, r.1, r.2)
complete (class.Keyword k ∷ cs) f = let r = complete cs f in (token (text k) 0 ∷ r.0, r.1, (keyword_itself k, r.2))
complete (class.Coordinate ∷ cs) f = let r = complete cs (shifted f no_length) in (token (codes "0") 0 ∷ r.0, r.1, (no_length, zero_is_a_number, r.2))

pub other_line : (line : ℕ) → (line == suc line) ≡ false
other_line line = go (line == suc line) refl
  where
    go : (v : Bool) → (line == suc line) ≡ v → (line == suc line) ≡ false
    go true e = let same : line ≡ suc line = eqb-true line (suc line) e in absurd (omega (arith, same))
    go false e = e

pub record Followed (place : Place) (found : ℕ) : Type 0 where
  pub ts : List Token
  pub gs : List Facet
  pub rest : Rest place ts gs
  pub few : found + length gs ≤ 300000

pub follows : (place : Place) (found : ℕ) → Stands place found → Followed place found
follows at.Outside found s = record { ts = []; gs = []; rest = empty; few = omega (arith, s) }
follows (at.Title title) found s = record { ts = token (codes "endsolid") (suc title) ∷ []; gs = []; rest = rw (other_line title) (ended (suc title)); few = omega (arith, s) }
follows at.Facets found s = record { ts = token (codes "endsolid") 0 ∷ []; gs = []; rest = ended 0; few = omega (arith, s) }
follows (at.Inside count f) found s = let r = complete (drop count form) f in record { ts = r.0; gs = r.1 ∷ []; rest = (s.0, r.2); few = omega (arith, s.1) }
follows (at.Tail tail) found s = record { ts = []; gs = []; rest = empty; few = omega (arith, s) }

-- A token that may not stand at a place: no text goes on with it, or it has a facet too many.

abbrev pub TooManyAt : ℕ → List Facet → StlFault → Type 0
TooManyAt found gs fault = (1 ≤ length gs) × (300000 ≤ found) × (fault ≡ TooManyFacets)

pub stops_solid : (t : Token) (fault : StlFault) (ts : List Token) (gs : List Facet) → at_solid t.word t.line ≡ Err fault → IsText (t ∷ ts) gs → ⊥
stops_solid t fault ts gs e h =
    elim (chosen (is_keyword t.word key.Solid) _ _ _ e) [
      | inl c ↦ cc
      | inr c ↦ not_both (is_keyword t.word key.Solid) (text_cases h).0 c.0
    ]

pub stops_facet : (found : ℕ) (t : Token) (fault : StlFault) (ts : List Token) (gs : List Facet) → at_facet found t.word t.line ≡ Err fault → IsBody (t ∷ ts) gs → TooManyAt found gs fault
stops_facet found t fault ts gs e h =
    elim (body_cases h) [
      | inl k ↦ elim (chosen (is_keyword t.word key.Facet) _ _ _ e) [
        | inl c ↦ elim (chosen (nat_lt found 300000) _ _ _ c.1) [
          | inl d ↦ absurd (cc d.1)
          | inr d ↦ (some_within form blank ts gs k.1, ltb-false found 300000 d.0, cc)
        ]
        | inr c ↦ absurd (not_both (is_keyword t.word key.Facet) k.0 c.0)
      ]
      | inr k ↦ elim (chosen (is_keyword t.word key.Facet) _ _ _ e) [
        | inl c ↦ absurd (only_one t c.0 k.0)
        | inr c ↦ elim (chosen (is_keyword t.word key.EndSolid) _ _ _ c.1) [
          | inl d ↦ absurd (cc d.1)
          | inr d ↦ absurd (not_both (is_keyword t.word key.EndSolid) k.0 d.0)
        ]
      ]
    ]

pub goes_on : (count : ℕ) (f : Facet) → (p : Move) × (inside count (Ok f) ≡ Ok p)
goes_on count f = go (count == 20) refl
  where
    go : (v : Bool) → (count == 20) ≡ v → (p : Move) × (inside count (Ok f) ≡ Ok p)
    go true e = ((at.Facets, Some f), rw e refl)
    go false e = ((at.Inside count f, None), rw e refl)

pub stops_inside : (count found : ℕ) (f : Facet) (t : Token) (fault : StlFault) (ts : List Token) (gs : List Facet) → step (at.Inside count f) found t.word t.line ≡ Err fault → Rest (at.Inside count f) (t ∷ ts) gs → ⊥
stops_inside count found f t fault ts gs e h =
    let c = class_left count h.0 in
    let g = can_take c.0 (drop (count + 1) form) f t ts gs (rw (left count c.0 c.1).1 at h.1) in
    let p = goes_on (count + 1) g.0 in
    let on : step (at.Inside count f) found t.word t.line ≡ Ok p.0 = ap (λ o. inside (count + 1) (taken_at o f t.word)) c.1 ∙ ap (λ r. inside (count + 1) r) g.1 ∙ p.1 in
    cc

pub stops : (place : Place) (found : ℕ) (t : Token) (fault : StlFault) (ts : List Token) (gs : List Facet) → step place found t.word t.line ≡ Err fault → Rest place (t ∷ ts) gs → TooManyAt found gs fault
stops at.Outside found t fault ts gs e h = absurd (stops_solid t fault ts gs e h)
stops (at.Title title) found t fault ts gs e h =
    elim (chosen (title == t.line) _ _ _ e) [
      | inl c ↦ absurd (cc c.1)
      | inr c ↦ stops_facet found t fault ts gs c.1 (rw c.0 at h)
    ]
stops at.Facets found t fault ts gs e h = stops_facet found t fault ts gs e h
stops (at.Inside count f) found t fault ts gs e h = absurd (stops_inside count found f t fault ts gs e h)
stops (at.Tail tail) found t fault ts gs e h =
    elim (chosen (tail == t.line) _ _ _ e) [
      | inl c ↦ absurd (cc c.1)
      | inr c ↦ absurd (stops_solid t fault ts gs c.1 (rw c.0 at h))
    ]

-- The kinds of faults, each by what a number makes of the same place.
pub data Kind (place : Place) (found : ℕ) (t : Token) : StlFault → Type 0 where
  of_reading : (fault : NumberFault) (p : Move) → step place found (codes "0") t.line ≡ Ok p → length_of t.word ≡ Err fault → Kind place found t (of_number fault)
  of_many : step place found (codes "0") t.line ≡ Err BadToken → (ts : List Token) (gs : List Facet) → Rest place (t ∷ ts) gs → Kind place found t TooManyFacets
  of_token : step place found (codes "0") t.line ≡ Err BadToken → Kind place found t BadToken

pub kind_solid : (found : ℕ) (t : Token) (fault : StlFault) → at_solid t.word t.line ≡ Err fault → fault ≡ BadToken
kind_solid found t fault e =
    elim (chosen (is_keyword t.word key.Solid) _ _ _ e) [
      | inl c ↦ absurd (cc c.1)
      | inr c ↦ cc
    ]

pub kind_facet : (found : ℕ) (t : Token) (fault : StlFault) → at_facet found t.word t.line ≡ Err fault → (fault ≡ BadToken) ⊎ ((fault ≡ TooManyFacets) × (ts : List Token) × (gs : List Facet) × IsBody (t ∷ ts) gs)
kind_facet found t fault e =
    elim (chosen (is_keyword t.word key.Facet) _ _ _ e) [
      | inl c ↦ elim (chosen (nat_lt found 300000) _ _ _ c.1) [
        | inl d ↦ absurd (cc d.1)
        | inr d ↦ let r = complete form blank in inr (cc, r.0, r.1 ∷ [], body_facet t r.0 (r.1 ∷ []) c.0 r.2)
      ]
      | inr c ↦ elim (chosen (is_keyword t.word key.EndSolid) _ _ _ c.1) [
        | inl d ↦ absurd (cc d.1)
        | inr d ↦ inl cc
      ]
    ]

pub zero_inside : (count found : ℕ) (f : Facet) (line : ℕ) (c : Class) (r : Result Facet StlFault) → slice_get form count ≡ Some c → taken c f (codes "0") ≡ r → step (at.Inside count f) found (codes "0") line ≡ inside (count + 1) r
zero_inside count found f line c r is e = ap (λ o. inside (count + 1) (taken_at o f (codes "0"))) is ∙ ap (λ r. inside (count + 1) r) e

pub kind_number : (count found : ℕ) (f : Facet) (t : Token) (fault : StlFault) → slice_get form count ≡ Some class.Coordinate → (r : Result Nm NumberFault) → length_of t.word ≡ r → inside (count + 1) (with_coordinate f r) ≡ Err fault → Kind (at.Inside count f) found t fault
kind_number count found f t fault is (Ok n) k e = let p = goes_on (count + 1) (shifted f n) in absurd (cc p.1)
kind_number count found f t fault is (Err number) k e =
    let same : fault ≡ of_number number = cc in
    let p = goes_on (count + 1) (shifted f no_length) in
    let zero = zero_inside count found f t.line class.Coordinate (Ok (shifted f no_length)) is (ap (λ r. with_coordinate f r) zero_is_a_number) in
    rw same (of_reading number p.0 (zero ∙ p.1) k)

pub kind_class : (count found : ℕ) (f : Facet) (t : Token) (fault : StlFault) (c : Class) → slice_get form count ≡ Some c → inside (count + 1) (taken c f t.word) ≡ Err fault → Kind (at.Inside count f) found t fault
kind_class count found f t fault class.Any is e = let p = goes_on (count + 1) f in absurd (cc p.1)
kind_class count found f t fault (class.Keyword k) is e =
    go (is_keyword t.word k) refl
  where
    zero : step (at.Inside count f) found (codes "0") t.line ≡ Err BadToken
    zero = zero_inside count found f t.line (class.Keyword k) (Err BadToken) is (rw (zero_is_no_keyword k) refl)

    go : (v : Bool) → is_keyword t.word k ≡ v → Kind (at.Inside count f) found t fault
    go true y =
        let p = goes_on (count + 1) f in
        let on : inside (count + 1) (taken (class.Keyword k) f t.word) ≡ Ok p.0 = rw y p.1 in
        absurd (cc on)
    go false y =
        let off : inside (count + 1) (taken (class.Keyword k) f t.word) ≡ Err BadToken = rw y refl in
        let same : fault ≡ BadToken = cc in
        rw same (of_token zero)
kind_class count found f t fault class.Coordinate is e = kind_number count found f t fault is (length_of t.word) refl e

pub kind_inside : (count found : ℕ) (f : Facet) (t : Token) (fault : StlFault) (o : Option Class) → slice_get form count ≡ o → inside (count + 1) (taken_at o f t.word) ≡ Err fault → Kind (at.Inside count f) found t fault
kind_inside count found f t fault None is e =
    let same : fault ≡ BadToken = cc in
    rw same (of_token (ap (λ o. inside (count + 1) (taken_at o f (codes "0"))) is))
kind_inside count found f t fault (Some c) is e = kind_class count found f t fault c is e

pub kind : (place : Place) (found : ℕ) (t : Token) (fault : StlFault) → step place found t.word t.line ≡ Err fault → Kind place found t fault
kind at.Outside found t fault e = rw (kind_solid found t fault e) (of_token refl)
kind (at.Title title) found t fault e =
    elim (chosen (title == t.line) _ _ _ e) [
      | inl c ↦ absurd (cc c.1)
      | inr c ↦ elim (kind_facet found t fault c.1) [
        | inl d ↦ rw d (of_token (rw c.0 refl))
        | inr d ↦ rw d.0 (of_many (rw c.0 refl) d.1 d.2 (rw c.0 d.3))
      ]
    ]
kind at.Facets found t fault e =
    elim (kind_facet found t fault e) [
      | inl d ↦ rw d (of_token refl)
      | inr d ↦ rw d.0 (of_many refl d.1 d.2 d.3)
    ]
kind (at.Inside count f) found t fault e = kind_inside count found f t fault (slice_get form count) refl e
kind (at.Tail tail) found t fault e =
    elim (chosen (tail == t.line) _ _ _ e) [
      | inl c ↦ absurd (cc c.1)
      | inr c ↦ rw (kind_solid found t fault c.1) (of_token (rw c.0 refl))
    ]
