-- The reading against the grammar.
use Rattle.std.proofs.Common.{◌≡◌, ◌≤◌, ℕ, List, [], ◌∷◌, ◌++◌, length, refl, ap, sym, ◌∙◌, arith, subst, Ok, Err, Result, Option, Some, None, length-append, append_assoc}
use Rattle.std.specs.Prelude.{codes}
use Rattle.std.proofs.lemmas.List.{append-nil}
use Rattle.pl_stl.specs.declared.mesh.Facet.{Facet}
use Rattle.pl_stl.specs.declared.fault.StlFault.{StlFault}
use Rattle.pl_stl.specs.declared.fault.StlFault.TheVariants.{BadToken, Cut, NoFacet}
use Rattle.pl_stl.specs.declared.form.Place.{Place}
use Rattle.pl_stl.specs.declared.form.Place.TheVariants as at
use Rattle.pl_stl.specs.Tokens.{Token, tokens, last_line}
use Rattle.pl_stl.specs.Grammar.{IsText, empty, IsBody, Begins, BeginsAny, IsFault, bad_number, too_many, bad_token, Breaks, at_token, cut, no_facet}
use Rattle.pl_stl.specs.Reading.{State, step, added, moved, run, finished, bind, mesh_of, Breach, breach}
use Rattle.pl_stl.proofs.Follows.{Rest, Stands, Move, more, facets, Goes, goes, left, class_left}
use Rattle.pl_stl.proofs.Stops.{token, follows, stops, kind, Kind, of_reading, of_many, of_token}

abbrev state : Place → List Facet → State
state place mesh = record { place = place; mesh = mesh }

pub added_length : (mesh : List Facet) (o : Option Facet) → length (added mesh o) ≡ more o (length mesh)
added_length mesh None = refl
added_length mesh (Some f) = length-append mesh (f ∷ [])

pub added_facets : (mesh : List Facet) (o : Option Facet) (gs : List Facet) → mesh ++ facets o gs ≡ added mesh o ++ gs
added_facets mesh None gs = refl
added_facets mesh (Some f) gs = sym (append_assoc mesh (f ∷ []) gs)

-- Tokens lead to a place: what may follow there is what may follow them.
pub record Reached (before : List Token) (place : Place) (mesh : List Facet) : Type 0 where
  pub into : (ts : List Token) (gs : List Facet) → Rest place ts gs → IsText (before ++ ts) (mesh ++ gs)
  pub from : (ts : List Token) (fs : List Facet) → IsText (before ++ ts) fs → (gs : List Facet) × Rest place ts gs × (fs ≡ mesh ++ gs)
  pub stands : Stands place (length mesh)

pub reached_start : Reached [] at.Outside []
reached_start = record { into = λ ts gs h. h; from = λ ts fs h. (fs, h, refl); stands = omega arith }

pub reached_after : (before : List Token) (place : Place) (mesh : List Facet) (t : Token) (p : Move) → Reached before place mesh → step place (length mesh) t.word t.line ≡ Ok p → Reached (before ++ t ∷ []) p.0 (added mesh p.1)
reached_after before place mesh t p r e = record { into = into; from = from; stands = rw (added_length mesh p.1) (g.stands r.stands) }
  where
    g : Goes place (length mesh) t p
    g = goes place (length mesh) t p e

    into : (ts : List Token) (gs : List Facet) → Rest p.0 ts gs → IsText ((before ++ t ∷ []) ++ ts) (added mesh p.1 ++ gs)
    into ts gs h =
        let all : IsText (before ++ t ∷ ts) (mesh ++ facets p.1 gs) = r.into (t ∷ ts) (facets p.1 gs) (g.back ts gs h) in
        let with : IsText (before ++ t ∷ ts) (added mesh p.1 ++ gs) = rw (added_facets mesh p.1 gs) at all in
        rw (append_assoc before (t ∷ []) ts) with

    from : (ts : List Token) (fs : List Facet) → IsText ((before ++ t ∷ []) ++ ts) fs → (gs : List Facet) × Rest p.0 ts gs × (fs ≡ added mesh p.1 ++ gs)
    from ts fs h =
        let f = r.from (t ∷ ts) fs (rw (append_assoc before (t ∷ []) ts) at h) in
        let o = g.on ts f.0 f.1 in
        (o.0, o.2, f.2 ∙ ap (λ l. mesh ++ l) o.1 ∙ added_facets mesh p.1 o.0)

-- tokens that lead to a place begin a text
pub begins : (before : List Token) (place : Place) (mesh : List Facet) → Reached before place mesh → Begins before
begins before place mesh r =
    let f = follows place (length mesh) r.stands in
    (f.ts, mesh ++ f.gs, r.into f.ts f.gs f.rest, omega (arith, f.few, length-append mesh f.gs))

-- a token that may not stand at a place ends no beginning
pub breaks : (before : List Token) (place : Place) (mesh : List Facet) (t : Token) (fault : StlFault) → Reached before place mesh → step place (length mesh) t.word t.line ≡ Err fault → Begins (before ++ t ∷ []) → ⊥
breaks before place mesh t fault r e (rest, fs, text, few) =
    let f = r.from (t ∷ rest) fs (rw (append_assoc before (t ∷ []) rest) at text) in
    let s = stops place (length mesh) t fault rest f.0 e f.1 in
    absurd (omega (arith, few, ap length f.2, length-append mesh f.0, s.0, s.1))

-- nor any text, where the fault is no facet too many
pub breaks_any : (before : List Token) (place : Place) (mesh : List Facet) (t : Token) → Reached before place mesh → step place (length mesh) t.word t.line ≡ Err BadToken → BeginsAny (before ++ t ∷ []) → ⊥
breaks_any before place mesh t r e (rest, fs, text) =
    let f = r.from (t ∷ rest) fs (rw (append_assoc before (t ∷ []) rest) at text) in
    let s = stops place (length mesh) t BadToken rest f.0 e f.1 in
    let other = s.2 in
    cc

pub fault_of : (before : List Token) (place : Place) (mesh : List Facet) (t : Token) (fault : StlFault) → Reached before place mesh → step place (length mesh) t.word t.line ≡ Err fault → Kind place (length mesh) t fault → IsFault before t fault
fault_of before place mesh t fault r e (of_reading number p zero is) =
    bad_number number (begins (before ++ token (codes "0") t.line ∷ []) p.0 (added mesh p.1) (reached_after before place mesh (token (codes "0") t.line) p r zero)) is
fault_of before place mesh t fault r e (of_many zero ts gs rest) =
    let all : IsText (before ++ t ∷ ts) (mesh ++ gs) = r.into (t ∷ ts) gs rest in
    too_many (breaks before place mesh (token (codes "0") t.line) BadToken r zero) (ts, mesh ++ gs, rw (append_assoc before (t ∷ []) ts) all)
fault_of before place mesh t fault r e (of_token zero) =
    bad_token (breaks before place mesh (token (codes "0") t.line) BadToken r zero) (breaks_any before place mesh t r e)

-- fewer tokens begin a text too
pub begins_less : (xs ys : List Token) → Begins (xs ++ ys) → Begins xs
begins_less xs ys (rest, fs, text, few) = (ys ++ rest, fs, rw (append_assoc xs ys rest) at text, few)

pub begins_up_to : (ts before rest : List Token) (t : Token) → ts ≡ before ++ t ∷ rest → Begins ts → Begins (before ++ t ∷ [])
begins_up_to ts before rest t e h =
    let all : Begins (before ++ t ∷ rest) = subst Begins e h in
    let same : before ++ t ∷ rest ≡ (before ++ t ∷ []) ++ rest = sym (append_assoc before (t ∷ []) rest) in
    begins_less (before ++ t ∷ []) rest (subst Begins same all)

pub text_begins : (ts : List Token) (fs : List Facet) → IsText ts fs → length fs ≤ 300000 → Begins ts
text_begins ts fs text few = ([], fs, rw (append-nil ts) text, few)

-- What reading gives means this of the tokens.
abbrev pub Verdict : ℕ → List Token → Result (List Facet) Breach → Type 0
Verdict last ts (Ok fs) = IsText ts fs × (1 ≤ length fs) × (length fs ≤ 300000) × ((gs : List Facet) → IsText ts gs → gs ≡ fs)
Verdict last ts (Err (breach line fault)) = Breaks last ts line fault × ((gs : List Facet) → IsText ts gs → 1 ≤ length gs → length gs ≤ 300000 → ⊥)

pub text_nil : {gs : List Facet} → IsText [] gs → gs ≡ []
text_nil empty = refl

pub body_nil : {gs : List Facet} → IsBody [] gs → ⊥
body_nil h = elim h [ ]

pub within_nil : (count : ℕ) (f : Facet) (gs : List Facet) → Rest (at.Inside count f) [] gs → ⊥
within_nil count f gs (small, h) =
    let c = class_left count small in
    rw (left count c.0 c.1).1 at h

pub end_text : (ts : List Token) (mesh : List Facet) → IsText (ts ++ []) (mesh ++ []) → IsText ts mesh
end_text ts mesh h = let a : IsText ts (mesh ++ []) = rw (append-nil ts) at h in rw (append-nil mesh) at a

pub same_end : (ts : List Token) (place : Place) (mesh gs : List Facet) → Reached ts place mesh → ((hs : List Facet) → Rest place [] hs → hs ≡ []) → IsText ts gs → gs ≡ mesh
same_end ts place mesh gs r none text =
    let f = r.from [] gs (rw (append-nil ts) text) in
    f.2 ∙ ap (λ l. mesh ++ l) (none f.0 f.1) ∙ append-nil mesh

pub whole_end : (last : ℕ) (ts : List Token) (place : Place) (m : Facet) (mesh : List Facet) → Reached ts place (m ∷ mesh) → Rest place [] [] → ((hs : List Facet) → Rest place [] hs → hs ≡ []) → length (m ∷ mesh) ≤ 300000 → Verdict last ts (Ok (m ∷ mesh))
whole_end last ts place m mesh r rest none few = (end_text ts (m ∷ mesh) (r.into [] [] rest), omega arith, few, λ gs text. same_end ts place (m ∷ mesh) gs r none text)

pub bare_end : (last : ℕ) (ts : List Token) (place : Place) → Reached ts place [] → Rest place [] [] → ((hs : List Facet) → Rest place [] hs → hs ≡ []) → Verdict last ts (Err (breach last NoFacet))
bare_end last ts place r rest none =
    (no_facet (end_text ts [] (r.into [] [] rest)), λ gs text some few. (let e = same_end ts place [] gs r none text in absurd (omega (arith, some, ap length e))))

pub cut_end : (last : ℕ) (ts : List Token) (place : Place) (mesh : List Facet) → Reached ts place mesh → ((hs : List Facet) → Rest place [] hs → ⊥) → Verdict last ts (Err (breach last Cut))
cut_end last ts place mesh r none = (cut (begins ts place mesh r) no_text, λ gs text some few. no_text gs text)
  where
    no_text : (gs : List Facet) → IsText ts gs → ⊥
    no_text gs text = let f = r.from [] gs (rw (append-nil ts) text) in none f.0 f.1

pub end_judged : (last : ℕ) (ts : List Token) (place : Place) (mesh : List Facet) → Reached ts place mesh → Verdict last ts (finished last place mesh)
end_judged last ts at.Outside [] r = bare_end last ts at.Outside r empty (λ hs h. text_nil h)
end_judged last ts at.Outside (m ∷ mesh) r = whole_end last ts at.Outside m mesh r empty (λ hs h. text_nil h) r.stands
end_judged last ts (at.Tail tail) [] r = bare_end last ts (at.Tail tail) r empty (λ hs h. text_nil h)
end_judged last ts (at.Tail tail) (m ∷ mesh) r = whole_end last ts (at.Tail tail) m mesh r empty (λ hs h. text_nil h) r.stands
end_judged last ts (at.Title title) mesh r = cut_end last ts (at.Title title) mesh r (λ hs h. body_nil h)
end_judged last ts at.Facets mesh r = cut_end last ts at.Facets mesh r (λ hs h. body_nil h)
end_judged last ts (at.Inside count f) mesh r = cut_end last ts (at.Inside count f) mesh r (λ hs h. within_nil count f hs h)

abbrev Again : ℕ → List Token → Token → List Token → List Facet → Type 0
Again last before t ts mesh = (p : Move) → Reached (before ++ t ∷ []) p.0 (added mesh p.1) → Verdict last ((before ++ t ∷ []) ++ ts) (run last (state p.0 (added mesh p.1)) ts)

pub token_judged : (last : ℕ) (before : List Token) (t : Token) (ts : List Token) (place : Place) (mesh : List Facet) → Reached before place mesh → Again last before t ts mesh → (n : Result Move StlFault) → step place (length mesh) t.word t.line ≡ n → Verdict last (before ++ t ∷ ts) (bind (moved mesh t.line n) (λ s. run last s ts))
token_judged last before t ts place mesh r again (Ok p) is =
    let v = again p (reached_after before place mesh t p r is) in
    subst (λ (l : List Token). Verdict last l (run last (state p.0 (added mesh p.1)) ts)) (append_assoc before (t ∷ []) ts) v
token_judged last before t ts place mesh r again (Err fault) is =
    let no = breaks before place mesh t fault r is in
    (at_token before t ts fault refl (begins before place mesh r) no (fault_of before place mesh t fault r is (kind place (length mesh) t fault is)), λ gs text some few. no (begins_up_to (before ++ t ∷ ts) before ts t refl (text_begins (before ++ t ∷ ts) gs text few)))

pub judged : (last : ℕ) (ts before : List Token) (place : Place) (mesh : List Facet) → Reached before place mesh → Verdict last (before ++ ts) (run last (state place mesh) ts)
judged last [] before place mesh r = subst (λ (l : List Token). Verdict last l (finished last place mesh)) (sym (append-nil before)) (end_judged last before place mesh r)
judged last (t ∷ ts) before place mesh r =
    token_judged last before t ts place mesh r (λ p r'. judged last ts (before ++ t ∷ []) p.0 (added mesh p.1) r') (step place (length mesh) t.word t.line) refl

pub verdict : (bytes : List ℕ) → Verdict (last_line bytes) (tokens bytes) (mesh_of bytes)
verdict bytes = judged (last_line bytes) (tokens bytes) [] at.Outside [] reached_start

pub verdict_is : (bytes : List ℕ) (r : Result (List Facet) Breach) → mesh_of bytes ≡ r → Verdict (last_line bytes) (tokens bytes) r
verdict_is bytes r e = subst (λ (r : Result (List Facet) Breach). Verdict (last_line bytes) (tokens bytes) r) e (verdict bytes)
