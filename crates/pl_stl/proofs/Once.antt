-- A text has one first breach.
use Rattle.std.proofs.Common.{◌≡◌, ◌↔◌, ℕ, List, [], ◌∷◌, ◌++◌, length, refl, ap, sym, ◌∙◌, arith, subst, Result, Ok, Err, ◌⊎◌, inl, inr}
use Rattle.pl_units.specs.declared.Refusal.{Refusal}
use Rattle.pl_units.specs.declared.Refusal.TheVariants as refusals
use Rattle.pl_stl.specs.declared.mesh.Facet.{Facet}
use Rattle.pl_stl.specs.declared.fault.StlFault.{StlFault}
use Rattle.pl_stl.specs.Tokens.{Token, tokens}
use Rattle.pl_stl.specs.Grammar.{IsText, IsMeshText, Begins, IsFault, bad_number, too_many, bad_token, of_number, Breaks, at_token, cut, no_facet, IsFirstBreach}
use Rattle.pl_stl.specs.Reading.{mesh_of, Breach, breach, Refuses}
use Rattle.pl_stl.proofs.Law.{begins_less, begins_up_to, text_begins, verdict_is}

-- two places in one list
pub apart : (xs ys : List Token) (t u : Token) (us vs : List Token) → xs ++ t ∷ us ≡ ys ++ u ∷ vs → ((xs ≡ ys) × (t ≡ u)) ⊎ (((k : List Token) × (ys ≡ (xs ++ t ∷ []) ++ k)) ⊎ ((k : List Token) × (xs ≡ (ys ++ u ∷ []) ++ k)))
apart [] [] t u us vs e = inl (refl, cc)
apart [] (y ∷ ys) t u us vs e = let head : y ≡ t = cc in inr (inl (ys, ap (λ v. v ∷ ys) head))
apart (x ∷ xs) [] t u us vs e = let head : x ≡ u = cc in inr (inr (xs, ap (λ v. v ∷ xs) head))
apart (x ∷ xs) (y ∷ ys) t u us vs e =
    let head : x ≡ y = cc in
    let rest : xs ++ t ∷ us ≡ ys ++ u ∷ vs = cc in
    elim (apart xs ys t u us vs rest) [
      | inl c ↦ inl (ap (λ v. v ∷ xs) head ∙ ap (λ l. y ∷ l) c.0, c.1)
      | inr c ↦ elim c [
        | inl d ↦ inr (inl (d.0, ap (λ l. y ∷ l) d.1 ∙ ap (λ v. v ∷ ((xs ++ t ∷ []) ++ d.0)) (sym head)))
        | inr d ↦ inr (inr (d.0, ap (λ l. x ∷ l) d.1 ∙ ap (λ v. v ∷ ((ys ++ u ∷ []) ++ d.0)) head))
      ]
    ]

pub same_fault : {before : List Token} {t : Token} {f g : StlFault} → IsFault before t f → IsFault before t g → f ≡ g
same_fault (bad_number a here is) (bad_number b there also) = let same : a ≡ b = cc in ap of_number same
same_fault (bad_number a here is) (too_many never more) = absurd (never here)
same_fault (bad_number a here is) (bad_token never none) = absurd (never here)
same_fault (too_many never more) (bad_number b there also) = absurd (never there)
same_fault (too_many never more) (too_many never' more') = refl
same_fault (too_many never more) (bad_token never' none) = absurd (none more)
same_fault (bad_token never none) (bad_number b there also) = absurd (never there)
same_fault (bad_token never none) (too_many never' more) = absurd (none more)
same_fault (bad_token never none) (bad_token never' none') = refl

pub not_begun : (ts before rest : List Token) (t : Token) → ts ≡ before ++ t ∷ rest → (Begins (before ++ t ∷ []) → ⊥) → Begins ts → ⊥
not_begun ts before rest t e never h = never (begins_up_to ts before rest t e h)

-- what begins before a place breaks before it at none
pub not_before : (xs ys k : List Token) (t : Token) → ys ≡ (xs ++ t ∷ []) ++ k → Begins ys → (Begins (xs ++ t ∷ []) → ⊥) → ⊥
not_before xs ys k t e h never = never (begins_less (xs ++ t ∷ []) k (subst Begins e h))

-- the line and the fault of two breaches
abbrev pub Same : ℕ → ℕ → StlFault → StlFault → Type 0
Same a b f g = (a ≡ b) × (f ≡ g)

pub same_token : (ts xs ys us vs : List Token) (t u : Token) (f g : StlFault) → ts ≡ xs ++ t ∷ us → ts ≡ ys ++ u ∷ vs → Begins xs → Begins ys → (Begins (xs ++ t ∷ []) → ⊥) → (Begins (ys ++ u ∷ []) → ⊥) → IsFault xs t f → IsFault ys u g → Same t.line u.line f g
same_token ts xs ys us vs t u f g a b h k never other p q =
    elim (apart xs ys t u us vs (sym a ∙ b)) [
      | inl c ↦
          let here : IsFault xs u g = subst (λ (l : List Token). IsFault l u g) (sym c.0) q in
          let there : IsFault xs t g = subst (λ (v : Token). IsFault xs v g) (sym c.1) here in
          (ap (λ (v : Token). v.line) c.1, same_fault p there)
      | inr c ↦ elim c [
        | inl d ↦ absurd (not_before xs ys d.0 t d.1 k never)
        | inr d ↦ absurd (not_before ys xs d.0 u d.1 h other)
      ]
    ]

pub text_begun : (ts : List Token) → IsText ts [] → Begins ts
text_begun ts text = text_begins ts [] text (omega arith)

pub once : {last a b : ℕ} {ts : List Token} {f g : StlFault} → Breaks last ts a f → Breaks last ts b g → Same a b f g
once {ts} (at_token xs t us f e h never p) (at_token ys u vs g e' k other q) = same_token ts xs ys us vs t u f g e e' h k never other p q
once {ts} (at_token xs t us f e h never p) (cut begun none) = absurd (not_begun ts xs us t e never begun)
once {ts} (at_token xs t us f e h never p) (no_facet text) = absurd (not_begun ts xs us t e never (text_begun ts text))
once {ts} (cut begun none) (at_token ys u vs g e k other q) = absurd (not_begun ts ys vs u e other begun)
once (cut begun none) (cut begun' none') = (refl, refl)
once (cut begun none) (no_facet text) = absurd (none [] text)
once {ts} (no_facet text) (at_token ys u vs g e k other q) = absurd (not_begun ts ys vs u e other (text_begun ts text))
once (no_facet text) (cut begun none) = absurd (none [] text)
once (no_facet text) (no_facet text') = (refl, refl)

-- What a call says, by what reading gives.

pub is_text : (bytes : List ℕ) (fs : List Facet) → mesh_of bytes ≡ Ok fs → IsMeshText bytes fs
is_text bytes fs e = let v = verdict_is bytes (Ok fs) e in record { is_text = v.0; some = v.1; few = v.2 }

pub only_text : (bytes : List ℕ) (fs gs : List Facet) → mesh_of bytes ≡ Ok fs → IsMeshText bytes gs → fs ≡ gs
only_text bytes fs gs e text = let v = verdict_is bytes (Ok fs) e in sym (v.3 gs text.is_text)

pub no_breach : (bytes : List ℕ) (fs : List Facet) (line : ℕ) (fault : StlFault) → mesh_of bytes ≡ Ok fs → IsFirstBreach bytes line fault → ⊥
no_breach bytes fs line fault e (at_token xs t us f all h never p) =
    let v = verdict_is bytes (Ok fs) e in not_begun (tokens bytes) xs us t all never (text_begins (tokens bytes) fs v.0 v.2)
no_breach bytes fs line fault e (cut begun none) = let v = verdict_is bytes (Ok fs) e in none fs v.0
no_breach bytes fs line fault e (no_facet text) = let v = verdict_is bytes (Ok fs) e in let none = v.3 [] text in absurd (omega (arith, v.1, ap length none))

pub is_breach : (bytes : List ℕ) (line : ℕ) (fault : StlFault) (e : Refusal StlFault) → e ≡ refusals.Fault line fault → Refuses e (mesh_of bytes) → IsFirstBreach bytes line fault
is_breach bytes line fault e same h =
    let r : Refuses (refusals.Fault line fault) (mesh_of bytes) = subst (λ (e : Refusal StlFault). Refuses e (mesh_of bytes)) same h in
    (verdict_is bytes (Err (breach line fault)) r).0

pub text_refused : (bytes : List ℕ) (gs : List Facet) (e : Refusal StlFault) → Refuses e (mesh_of bytes) → IsMeshText bytes gs → e ≡ refusals.NoMemory
text_refused bytes gs refusals.NoMemory h text = refl
text_refused bytes gs (refusals.Fault line fault) h text = absurd ((verdict_is bytes (Err (breach line fault)) h).1 gs text.is_text text.some text.few)

pub same_breach : (bytes : List ℕ) (line : ℕ) (fault : StlFault) (e : Refusal StlFault) → Refuses e (mesh_of bytes) → IsFirstBreach bytes line fault → (e ≡ refusals.Fault line fault) ⊎ (e ≡ refusals.NoMemory)
same_breach bytes line fault refusals.NoMemory h b = inr refl
same_breach bytes line fault (refusals.Fault at other) h b =
    let s = once (verdict_is bytes (Err (breach at other)) h).0 b in
    inl (ap (λ (l : ℕ). refusals.Fault l other) s.0 ∙ ap (λ (f : StlFault). refusals.Fault line f) s.1)

-- What reading gives, by what the text is.

read_text : (bytes : List ℕ) (gs : List Facet) (r : Result (List Facet) Breach) → mesh_of bytes ≡ r → IsMeshText bytes gs → r ≡ Ok gs
read_text bytes gs (Ok fs) e text = ap (λ l. Ok l) (only_text bytes fs gs e text)
read_text bytes gs (Err (breach line fault)) e text = absurd ((verdict_is bytes (Err (breach line fault)) e).1 gs text.is_text text.some text.few)

pub reads_text : (bytes : List ℕ) (gs : List Facet) → (mesh_of bytes ≡ Ok gs) ↔ IsMeshText bytes gs
reads_text bytes gs = (is_text bytes gs, read_text bytes gs (mesh_of bytes) refl)

read_breach : (bytes : List ℕ) (line : ℕ) (fault : StlFault) (r : Result (List Facet) Breach) → mesh_of bytes ≡ r → IsFirstBreach bytes line fault → r ≡ Err (breach line fault)
read_breach bytes line fault (Ok fs) e b = absurd (no_breach bytes fs line fault e b)
read_breach bytes line fault (Err (breach at other)) e b =
    let s = once (verdict_is bytes (Err (breach at other)) e).0 b in
    ap (λ (l : ℕ). Err (breach l other)) s.0 ∙ ap (λ (f : StlFault). Err (breach line f)) s.1

pub reads_breach : (bytes : List ℕ) (line : ℕ) (fault : StlFault) → (mesh_of bytes ≡ Err (breach line fault)) ↔ IsFirstBreach bytes line fault
reads_breach bytes line fault = (λ e. (verdict_is bytes (Err (breach line fault)) e).0, read_breach bytes line fault (mesh_of bytes) refl)
