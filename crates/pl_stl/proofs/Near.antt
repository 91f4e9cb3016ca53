-- Each facet of a text is near.
use Rattle.std.proofs.Common.{◌≡◌, ◌*◌, ◌^◌, ◌≤◌, ℕ, Bool, true, false, List, [], ◌∷◌, arith, Ok, Option, Some, None, inl, inr}
use Rattle.std.specs.Prelude.{nat_le}
use Rattle.std.specs.List.{All}
use Rattle.std.proofs.lemmas.Int.{ints}
use Rattle.std.proofs.lemmas.Bool.{leb-true}
use Rattle.std.proofs.lemmas.List.Elements.{All-cons, All-nil}
use Rattle.pl_units.specs.declared.Nm.{Nm}
use Rattle.pl_units.specs.declared.numeral.Numeral.{Numeral}
use Rattle.pl_units.specs.Within as size
use Rattle.pl_units.specs.Numeral.{raised, lowered, signed}
use Rattle.pl_units.specs.Lengths.{numeral_of, rounded, up_to_a_metre, length_of_numeral}
use Rattle.pl_stl.specs.declared.mesh.Facet.{Facet}
use Rattle.pl_stl.specs.declared.form.Class.{Class}
use Rattle.pl_stl.specs.Tokens.{Token}
use Rattle.pl_stl.specs.Grammar.{Fits, done, any, keyword, coordinate, corners, IsText, empty, solid, IsBody, facet, end, IsMeshText}
use Rattle.pl_stl.specs.Mesh.{IsNearFacet, IsMesh}
use Rattle.pl_stl.proofs.Follows.{chosen}

pub near_signed : (negative : Bool) (n : ℕ) → n ≤ 1000000000 → size.Within (10 ^ 9) (signed negative n)
near_signed true n h = record { low = omega (arith, ints, h); high = omega (arith, ints, h) }
near_signed false n h = record { low = omega (arith, ints, h); high = omega (arith, ints, h) }

pub near_size : (negative : Bool) (n : ℕ) (nm : Nm) → up_to_a_metre negative n ≡ Ok nm → size.Within (10 ^ 9) nm.0
near_size negative n nm e =
    elim (chosen (nat_le n 1000000000) _ _ _ e) [
      | inl c ↦
          let same : nm ≡ record { 0 = signed negative n } = cc in
          rw same (near_signed negative n (leb-true n 1000000000 c.0))
      | inr c ↦ absurd (cc c.1)
    ]

pub near_numeral : (o : Option Numeral) (nm : Nm) → length_of_numeral o ≡ Ok nm → size.Within (10 ^ 9) nm.0
near_numeral None nm e = absurd (cc e)
near_numeral (Some n) nm e = near_size n.negative (rounded (n.number * 10 ^ raised n) (10 ^ lowered n)) nm e

abbrev pub AllNear : List Nm → Type 0
AllNear [] = Unit {0}
AllNear (n ∷ ns) = size.Within (10 ^ 9) n.0 × AllNear ns

pub near_fits : {cs : List Class} {ts : List Token} {ns : List Nm} → Fits cs ts ns → AllNear ns
near_fits done = tt
near_fits (any t h) = near_fits h
near_fits (keyword t k is h) = near_fits h
near_fits (coordinate t n is h) = (near_numeral (numeral_of t.word) n is, near_fits h)

pub near_facet : (f : Facet) → AllNear (corners f) → IsNearFacet f
near_facet f (ax, (ay, (az, (bx, (by, (bz, (cx, (cy, (cz, none))))))))) = record {
  a = record { x = ax; y = ay; z = az };
  b = record { x = bx; y = by; z = bz };
  c = record { x = cx; y = cy; z = cz };
}

mutual
  pub near_text : {ts : List Token} {fs : List Facet} → IsText ts fs → All IsNearFacet fs
  near_text empty = All-nil IsNearFacet
  near_text (solid t k body) = near_body body

  pub near_body : {ts : List Token} {fs : List Facet} → IsBody ts fs → All IsNearFacet fs
  near_body (facet t ts f {rest} {fs} k fits body) = All-cons IsNearFacet f fs (near_facet f (near_fits fits)) (near_body body)
  near_body (end t k text) = near_text text

pub is_mesh : (bytes : List ℕ) (fs : List Facet) → IsMeshText bytes fs → IsMesh fs
is_mesh bytes fs t = record { some = t.some; few = t.few; near = near_text t.is_text }
