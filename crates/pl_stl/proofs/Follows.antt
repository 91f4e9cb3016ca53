-- What may follow at each place, as the grammar says it, and what a token makes of it.
use Rattle.std.proofs.Common.{◌≡◌, ◌==◌, ◌+◌, ◌<◌, ◌≤◌, ℕ, suc, Bool, true, false, List, [], ◌∷◌, ◌++◌, length, drop, refl, ap, sym, ◌∙◌, arith, cond, subst, Ok, Err, Result, Option, Some, None, ◌⊎◌, inl, inr, get_or}
use Rattle.std.specs.Prelude.{codes, nat_lt, slice_get}
use Rattle.std.proofs.lemmas.List.{drop_more}
use Rattle.std.proofs.lemmas.Option.{slice_get_within, get_or_from_slice_get, slice_get-get_or}
use Rattle.std.proofs.lemmas.Bool.{ltb-true, eqb-true, eqb-false}
use Rattle.std.proofs.lemmas.Slice.Eq.{bytes_eq-Decides}
use Rattle.std.specs.Str.{str_to_ascii_lowercase}
use Rattle.pl_units.specs.declared.Nm.{Nm}
use Rattle.pl_units.specs.declared.numeral.NumberFault.{NumberFault}
use Rattle.pl_units.specs.Lengths.{length_of}
use Rattle.pl_stl.specs.declared.mesh.Facet.{Facet}
use Rattle.pl_stl.specs.declared.fault.StlFault.{StlFault}
use Rattle.pl_stl.specs.declared.form.Class.{Class}
use Rattle.pl_stl.specs.declared.form.Class.TheVariants as class
use Rattle.pl_stl.specs.declared.form.Keyword.TheVariants as key
use Rattle.pl_stl.specs.declared.form.Place.{Place}
use Rattle.pl_stl.specs.declared.form.Place.TheVariants as at
use Rattle.pl_stl.specs.Tokens.{Token}
use Rattle.pl_stl.specs.Form.{text, is_keyword, form}
use Rattle.pl_stl.specs.Grammar.{IsKeyword, beyond, Fits, done, any, keyword, coordinate, corners, IsText, solid, IsBody, facet, end}
use Rattle.pl_stl.specs.Reading.{blank, shifted, with_coordinate, taken, taken_at, at_solid, at_facet, inside, step}

-- Tokens of these classes and then more of a body, with its facets, where the first one has some coordinates.
abbrev pub Within : List Class → Facet → List Token → List Facet → Type 0
Within [] f ts [] = ⊥
Within [] f ts (g ∷ gs) = (g ≡ f) × IsBody ts gs
Within (c ∷ cs) f [] gs = ⊥
Within (class.Any ∷ cs) f (t ∷ ts) gs = Within cs f ts gs
Within (class.Keyword k ∷ cs) f (t ∷ ts) gs = IsKeyword t k × Within cs f ts gs
Within (class.Coordinate ∷ cs) f (t ∷ ts) gs = (n : Nm) × (length_of t.word ≡ Ok n) × Within cs (shifted f n) ts gs

-- what may follow at a place, with its facets
abbrev pub Rest : Place → List Token → List Facet → Type 0
Rest at.Outside ts gs = IsText ts gs
Rest (at.Title title) ts gs = IsBody (beyond title ts) gs
Rest at.Facets ts gs = IsBody ts gs
Rest (at.Inside count f) ts gs = (count < 20) × Within (drop count form) f ts gs
Rest (at.Tail tail) ts gs = IsText (beyond tail ts) gs

-- how many facets may stand before a place
abbrev pub Stands : Place → ℕ → Type 0
Stands at.Outside found = found ≤ 300000
Stands (at.Title title) found = found ≤ 300000
Stands at.Facets found = found ≤ 300000
Stands (at.Inside count f) found = (count < 20) × (found < 300000)
Stands (at.Tail tail) found = found ≤ 300000

abbrev pub Move : Type 0
Move = Place × Option Facet

abbrev pub more : Option Facet → ℕ → ℕ
more None found = found
more (Some f) found = found + 1

abbrev pub facets : Option Facet → List Facet → List Facet
facets None gs = gs
facets (Some f) gs = f ∷ gs

-- an `if` that came to a value
pub chosen : {A : Type 0} (b : Bool) (x y z : A) → cond b x y ≡ z → ((b ≡ true) × (x ≡ z)) ⊎ ((b ≡ false) × (y ≡ z))
chosen true x y z e = inl (refl, e)
chosen false x y z e = inr (refl, e)

pub not_both : (b : Bool) → b ≡ true → b ≡ false → ⊥
not_both b t f = cc

pub only_one : (t : Token) → IsKeyword t key.Facet → IsKeyword t key.EndSolid → ⊥
only_one t a b =
    let x = (bytes_eq-Decides (str_to_ascii_lowercase t.word) (str_to_ascii_lowercase (codes "facet"))).0 a in
    let y = (bytes_eq-Decides (str_to_ascii_lowercase t.word) (str_to_ascii_lowercase (codes "endsolid"))).0 b in
    let five : length (str_to_ascii_lowercase t.word) ≡ 5 = ap length x in
    let eight : length (str_to_ascii_lowercase t.word) ≡ 8 = ap length y in
    absurd (omega (arith, five, eight))

-- The tokens of a facet, all at once and one by one.

abbrev pub shift_all : Facet → List Nm → Facet
shift_all f [] = f
shift_all f (n ∷ ns) = shift_all (shifted f n) ns

pub within_of : {cs : List Class} {ts : List Token} {ns : List Nm} (f g : Facet) (rest : List Token) (gs : List Facet) → Fits cs ts ns → g ≡ shift_all f ns → IsBody rest gs → Within cs f (ts ++ rest) (g ∷ gs)
within_of f g rest gs done e body = (e, body)
within_of f g rest gs (any t h) e body = within_of f g rest gs h e body
within_of f g rest gs (keyword t k is h) e body = (is, within_of f g rest gs h e body)
within_of f g rest gs (coordinate t n is h) e body = (n, is, within_of (shifted f n) g rest gs h e body)

pub record Found (cs : List Class) (f : Facet) (ws : List Token) (gs : List Facet) : Type 0 where
  pub ts : List Token
  pub rest : List Token
  pub ns : List Nm
  pub g : Facet
  pub hs : List Facet
  pub split : ws ≡ ts ++ rest
  pub all : gs ≡ g ∷ hs
  pub fits : Fits cs ts ns
  pub is : g ≡ shift_all f ns
  pub body : IsBody rest hs

pub found : (cs : List Class) (f : Facet) (ws : List Token) (gs : List Facet) → Within cs f ws gs → Found cs f ws gs
found [] f ws [] h = absurd h
found [] f ws (g ∷ gs) h = record { ts = []; rest = ws; ns = []; g = g; hs = gs; split = refl; all = refl; fits = done; is = h.0; body = h.1 }
found (c ∷ cs) f [] gs h = absurd h
found (class.Any ∷ cs) f (t ∷ ws) gs h =
    let r = found cs f ws gs h in
    record { ts = t ∷ r.ts; rest = r.rest; ns = r.ns; g = r.g; hs = r.hs; split = ap (λ l. t ∷ l) r.split; all = r.all; fits = any t r.fits; is = r.is; body = r.body }
found (class.Keyword k ∷ cs) f (t ∷ ws) gs h =
    let r = found cs f ws gs h.1 in
    record { ts = t ∷ r.ts; rest = r.rest; ns = r.ns; g = r.g; hs = r.hs; split = ap (λ l. t ∷ l) r.split; all = r.all; fits = keyword t k h.0 r.fits; is = r.is; body = r.body }
found (class.Coordinate ∷ cs) f (t ∷ ws) gs h =
    let r = found cs (shifted f h.0) ws gs h.2 in
    record { ts = t ∷ r.ts; rest = r.rest; ns = h.0 ∷ r.ns; g = r.g; hs = r.hs; split = ap (λ l. t ∷ l) r.split; all = r.all; fits = coordinate t h.0 h.1 r.fits; is = r.is; body = r.body }

abbrev pub coordinates : List Class → ℕ
coordinates [] = 0
coordinates (class.Any ∷ cs) = coordinates cs
coordinates (class.Keyword k ∷ cs) = coordinates cs
coordinates (class.Coordinate ∷ cs) = suc (coordinates cs)

pub fits_count : {cs : List Class} {ts : List Token} {ns : List Nm} → Fits cs ts ns → length ns ≡ coordinates cs
fits_count done = refl
fits_count (any t h) = fits_count h
fits_count (keyword t k is h) = fits_count h
fits_count (coordinate t n is h) = ap suc (fits_count h)

pub nine : (ns : List Nm) → length ns ≡ 9 → corners (shift_all blank ns) ≡ ns
nine [] e = absurd (omega (arith, e))
nine (a ∷ []) e = absurd (omega (arith, e))
nine (a ∷ b ∷ []) e = absurd (omega (arith, e))
nine (a ∷ b ∷ c ∷ []) e = absurd (omega (arith, e))
nine (a ∷ b ∷ c ∷ d ∷ []) e = absurd (omega (arith, e))
nine (a ∷ b ∷ c ∷ d ∷ k ∷ []) e = absurd (omega (arith, e))
nine (a ∷ b ∷ c ∷ d ∷ k ∷ l ∷ []) e = absurd (omega (arith, e))
nine (a ∷ b ∷ c ∷ d ∷ k ∷ l ∷ m ∷ []) e = absurd (omega (arith, e))
nine (a ∷ b ∷ c ∷ d ∷ k ∷ l ∷ m ∷ n ∷ []) e = absurd (omega (arith, e))
nine (a ∷ b ∷ c ∷ d ∷ k ∷ l ∷ m ∷ n ∷ o ∷ []) e = refl
nine (a ∷ b ∷ c ∷ d ∷ k ∷ l ∷ m ∷ n ∷ o ∷ p ∷ ns) e = absurd (omega (arith, e))

pub body_facet : (t : Token) (ts : List Token) (gs : List Facet) → IsKeyword t key.Facet → Within form blank ts gs → IsBody (t ∷ ts) gs
body_facet t ts gs k h =
    let r = found form blank ts gs h in
    let same : corners r.g ≡ r.ns = ap corners r.is ∙ nine r.ns (fits_count r.fits) in
    let fits : Fits form r.ts (corners r.g) = subst (λ (ns : List Nm). Fits form r.ts ns) (sym same) r.fits in
    let made : IsBody (t ∷ (r.ts ++ r.rest)) (r.g ∷ r.hs) = facet t r.ts r.g k fits r.body in
    let named : IsBody (t ∷ (r.ts ++ r.rest)) gs = subst (λ (hs : List Facet). IsBody (t ∷ (r.ts ++ r.rest)) hs) (sym r.all) made in
    subst (λ (ws : List Token). IsBody (t ∷ ws) gs) (sym r.split) named

-- A text and a body by their first token.

pub text_cases : {t : Token} {ts : List Token} {gs : List Facet} → IsText (t ∷ ts) gs → IsKeyword t key.Solid × IsBody (beyond t.line ts) gs
text_cases (solid t k body) = (k, body)

pub body_cases : {t : Token} {ts : List Token} {gs : List Facet} → IsBody (t ∷ ts) gs → (IsKeyword t key.Facet × Within form blank ts gs) ⊎ (IsKeyword t key.EndSolid × IsText (beyond t.line ts) gs)
body_cases (facet t ts f {rest} {fs} k fits body) = inl (k, within_of blank f rest fs fits refl body)
body_cases (end t k text) = inr (k, text)

pub some_within : (cs : List Class) (f : Facet) (ts : List Token) (gs : List Facet) → Within cs f ts gs → 1 ≤ length gs
some_within [] f ts [] h = absurd h
some_within [] f ts (g ∷ gs) h = omega arith
some_within (c ∷ cs) f [] gs h = absurd h
some_within (class.Any ∷ cs) f (t ∷ ts) gs h = some_within cs f ts gs h
some_within (class.Keyword k ∷ cs) f (t ∷ ts) gs h = some_within cs f ts gs h.1
some_within (class.Coordinate ∷ cs) f (t ∷ ts) gs h = some_within cs (shifted f h.0) ts gs h.2

-- A token of the first class, and the tokens after it.

pub can_take : (c : Class) (cs : List Class) (f : Facet) (t : Token) (ts : List Token) (gs : List Facet) → Within (c ∷ cs) f (t ∷ ts) gs → (g : Facet) × (taken c f t.word ≡ Ok g)
can_take class.Any cs f t ts gs h = (f, refl)
can_take (class.Keyword k) cs f t ts gs h = (f, rw h.0 refl)
can_take class.Coordinate cs f t ts gs h = (shifted f h.0, ap (λ r. with_coordinate f r) h.1)

pub on_word : (c : Class) (cs : List Class) (f g : Facet) (t : Token) (ts : List Token) (gs : List Facet) → taken c f t.word ≡ Ok g → Within (c ∷ cs) f (t ∷ ts) gs → Within cs g ts gs
on_word class.Any cs f g t ts gs e h = let same : g ≡ f = cc in rw same h
on_word (class.Keyword k) cs f g t ts gs e h =
    elim (chosen (is_keyword t.word k) _ _ _ e) [
      | inl c ↦ let same : g ≡ f = cc in rw same h.1
      | inr c ↦ absurd (not_both (is_keyword t.word k) h.0 c.0)
    ]
on_word class.Coordinate cs f g t ts gs e h =
    let other : with_coordinate f (length_of t.word) ≡ Ok (shifted f h.0) = ap (λ r. with_coordinate f r) h.1 in
    let same : g ≡ shifted f h.0 = cc in
    rw same h.2

pub of_coordinate : (f g : Facet) (read : Result Nm NumberFault) → with_coordinate f read ≡ Ok g → (n : Nm) × (read ≡ Ok n) × (g ≡ shifted f n)
of_coordinate f g (Err fault) e = absurd (cc e)
of_coordinate f g (Ok n) e = (n, refl, cc)

pub of_word : (c : Class) (cs : List Class) (f g : Facet) (t : Token) (ts : List Token) (gs : List Facet) → taken c f t.word ≡ Ok g → Within cs g ts gs → Within (c ∷ cs) f (t ∷ ts) gs
of_word class.Any cs f g t ts gs e h = let same : g ≡ f = cc in rw same at h
of_word (class.Keyword k) cs f g t ts gs e h =
    elim (chosen (is_keyword t.word k) _ _ _ e) [
      | inl c ↦ let same : g ≡ f = cc in (c.0, rw same at h)
      | inr c ↦ absurd (cc c.1)
    ]
of_word class.Coordinate cs f g t ts gs e h =
    let n = of_coordinate f g (length_of t.word) e in
    (n.0, n.1, rw n.2 at h)

-- The place behind so many words of a facet.

pub left : (count : ℕ) (c : Class) → slice_get form count ≡ Some c → (count < 20) × (drop count form ≡ c ∷ drop (count + 1) form)
left count c e =
    let within = slice_get_within form count c e in
    (within, drop_more form count c within ∙ ap (λ d. d ∷ drop (count + 1) form) (get_or_from_slice_get form count c c e))

pub class_left : (count : ℕ) → count < 20 → (c : Class) × (slice_get form count ≡ Some c)
class_left count h = (get_or form count class.Any, slice_get-get_or form count class.Any h)

pub last_word : (count : ℕ) (g : Facet) (ts : List Token) (gs : List Facet) → count + 1 ≡ 20 → Within (drop (count + 1) form) g ts gs → (hs : List Facet) × (gs ≡ g ∷ hs) × IsBody ts hs
last_word count g ts [] last h = let none : Within [] g ts [] = rw last at h in absurd none
last_word count g ts (f ∷ gs) last h = let is : Within [] g ts (f ∷ gs) = rw last at h in (gs, ap (λ d. d ∷ gs) is.0, is.1)

-- What a token that may stand makes of a place.
pub record Goes (place : Place) (found : ℕ) (t : Token) (p : Move) : Type 0 where
  pub stands : Stands place found → Stands p.0 (more p.1 found)
  pub back : (ts : List Token) (gs : List Facet) → Rest p.0 ts gs → Rest place (t ∷ ts) (facets p.1 gs)
  pub on : (ts : List Token) (gs : List Facet) → Rest place (t ∷ ts) gs → (hs : List Facet) × (gs ≡ facets p.1 hs) × Rest p.0 ts hs

pub goes_solid : (found : ℕ) (t : Token) (p : Move) → at_solid t.word t.line ≡ Ok p → Goes at.Outside found t p
goes_solid found t p e =
    elim (chosen (is_keyword t.word key.Solid) _ _ _ e) [
      | inl c ↦ let q : p ≡ (at.Title t.line, None) = cc in rw q (record { stands = λ h. h; back = λ ts gs h. solid t c.0 h; on = λ ts gs h. (gs, refl, (text_cases h).1) })
      | inr c ↦ absurd (cc c.1)
    ]

pub on_facet : (t : Token) (ts : List Token) (gs : List Facet) → IsKeyword t key.Facet → IsBody (t ∷ ts) gs → Within form blank ts gs
on_facet t ts gs k h =
    elim (body_cases h) [
      | inl c ↦ c.1
      | inr c ↦ absurd (only_one t k c.0)
    ]

pub on_end : (t : Token) (ts : List Token) (gs : List Facet) → IsKeyword t key.EndSolid → IsBody (t ∷ ts) gs → IsText (beyond t.line ts) gs
on_end t ts gs k h =
    elim (body_cases h) [
      | inl c ↦ absurd (only_one t c.0 k)
      | inr c ↦ c.1
    ]

pub goes_facet : (found : ℕ) (t : Token) (p : Move) → at_facet found t.word t.line ≡ Ok p → Goes at.Facets found t p
goes_facet found t p e =
    elim (chosen (is_keyword t.word key.Facet) _ _ _ e) [
      | inl c ↦ elim (chosen (nat_lt found 300000) _ _ _ c.1) [
        | inl d ↦
            let q : p ≡ (at.Inside 0 blank, None) = cc in
            rw q (record { stands = λ h. (omega arith, ltb-true found 300000 d.0); back = λ ts gs h. body_facet t ts gs c.0 h.1; on = λ ts gs h. (gs, refl, (omega arith, on_facet t ts gs c.0 h)) })
        | inr d ↦ absurd (cc d.1)
      ]
      | inr c ↦ elim (chosen (is_keyword t.word key.EndSolid) _ _ _ c.1) [
        | inl d ↦
            let q : p ≡ (at.Tail t.line, None) = cc in
            rw q (record { stands = λ h. h; back = λ ts gs h. end t d.0 h; on = λ ts gs h. (gs, refl, on_end t ts gs d.0 h) })
        | inr d ↦ absurd (cc d.1)
      ]
    ]

pub goes_taken : (count found : ℕ) (f g : Facet) (t : Token) (c : Class) (p : Move) → slice_get form count ≡ Some c → taken c f t.word ≡ Ok g → inside (count + 1) (Ok g) ≡ Ok p → Goes (at.Inside count f) found t p
goes_taken count found f g t c p is k e =
    let l = left count c is in
    elim (chosen (count + 1 == 20) _ _ _ e) [
      | inl d ↦
          let q : p ≡ (at.Facets, Some g) = cc in
          let last : count + 1 ≡ 20 = eqb-true (count + 1) 20 d.0 in
          rw q (record {
            stands = λ h. omega (arith, h.1);
            back = λ ts gs h. (l.0, rw l.1 (of_word c (drop (count + 1) form) f g t ts (g ∷ gs) k (rw last (refl, h))));
            on = λ ts gs h. last_word count g ts gs last (on_word c (drop (count + 1) form) f g t ts gs k (rw l.1 at h.1));
          })
      | inr d ↦
          let q : p ≡ (at.Inside (count + 1) g, None) = cc in
          let small : count + 1 < 20 = omega (arith, l.0, eqb-false (count + 1) 20 d.0) in
          rw q (record {
            stands = λ h. (small, h.1);
            back = λ ts gs h. (l.0, rw l.1 (of_word c (drop (count + 1) form) f g t ts gs k h.1));
            on = λ ts gs h. (gs, refl, (small, on_word c (drop (count + 1) form) f g t ts gs k (rw l.1 at h.1)));
          })
    ]

pub goes_read : (count found : ℕ) (f : Facet) (t : Token) (c : Class) (p : Move) → slice_get form count ≡ Some c → (r : Result Facet StlFault) → taken c f t.word ≡ r → inside (count + 1) r ≡ Ok p → Goes (at.Inside count f) found t p
goes_read count found f t c p is (Err fault) k e = absurd (cc e)
goes_read count found f t c p is (Ok g) k e = goes_taken count found f g t c p is k e

pub goes_inside : (count found : ℕ) (f : Facet) (t : Token) (p : Move) → (o : Option Class) → slice_get form count ≡ o → inside (count + 1) (taken_at o f t.word) ≡ Ok p → Goes (at.Inside count f) found t p
goes_inside count found f t p None is e = absurd (cc e)
goes_inside count found f t p (Some c) is e = goes_read count found f t c p is (taken c f t.word) refl e

pub goes : (place : Place) (found : ℕ) (t : Token) (p : Move) → step place found t.word t.line ≡ Ok p → Goes place found t p
goes at.Outside found t p e = goes_solid found t p e
goes (at.Title title) found t p e =
    elim (chosen (title == t.line) _ _ _ e) [
      | inl c ↦
          let q : p ≡ (at.Title title, None) = cc in
          rw q (record { stands = λ h. h; back = λ ts gs h. rw c.0 h; on = λ ts gs h. (gs, refl, rw c.0 at h) })
      | inr c ↦
          let g = goes_facet found t p c.1 in
          record { stands = g.stands; back = λ ts gs h. rw c.0 (g.back ts gs h); on = λ ts gs h. g.on ts gs (rw c.0 at h) }
    ]
goes at.Facets found t p e = goes_facet found t p e
goes (at.Inside count f) found t p e = goes_inside count found f t p (slice_get form count) refl e
goes (at.Tail tail) found t p e =
    elim (chosen (tail == t.line) _ _ _ e) [
      | inl c ↦
          let q : p ≡ (at.Tail tail, None) = cc in
          rw q (record { stands = λ h. h; back = λ ts gs h. rw c.0 h; on = λ ts gs h. (gs, refl, rw c.0 at h) })
      | inr c ↦
          let g = goes_solid found t p c.1 in
          record { stands = g.stands; back = λ ts gs h. rw c.0 (g.back ts gs h); on = λ ts gs h. g.on ts gs (rw c.0 at h) }
    ]
