-- The names of slots: short, without blanks, and no two alike.
use Rattle.std.proofs.Common.{◌≡◌, ◌≢◌, ◌<◌, ◌≤◌, ℕ, ◌+◌, ◌*◌, ◌-◌, ◌/◌, ◌%◌, Bool, true, false, cond, List, [], ◌∷◌, ◌++◌, inl, inr, length, refl, ap, sym, ◌∙◌, subst, arith, length-append}
use Rattle.std.specs.Prelude.{◌==◌, nat_le, nat_lt, not, ◌&&◌, All, codes, if◌then◌else◌}
use Rattle.std.specs.Fmt.{decimal, digits}
use Rattle.std.proofs.lemmas.Bool.{agree_below_at, and_parts, true≢false, cases_lt, leb-true, le-ltb, eqb-true, lt-ltb, cond-true, cond-false}
use Rattle.std.proofs.lemmas.Bool.Decides.{nat_tests}
use Rattle.std.proofs.lemmas.List.Elements.{All-nil, All-cons}
use Rattle.pl_tech.specs.Technology.{is_blank}
use Rattle.pl_model.specs.Contents.{Contents}
use Rattle.pl_cascade.specs.Slots.{is_object_slot, step_of, is_present}
use Rattle.pl_cascade.proofs.Lawful.{present_below}
use Rattle.pl_slots.specs.Names.{step_name, slot_name}

-- ---- the hundred slots, one after another

abbrev is_empty : List ℕ → Bool
is_empty [] = true
is_empty (c ∷ cs) = false

abbrev is_solid : List ℕ → Bool
is_solid [] = true
is_solid (c ∷ cs) = is_solid cs && not (is_blank c)

-- the step that begins with two letters
abbrev step_from : List ℕ → ℕ
step_from (first ∷ second ∷ rest) = if first == 115 then (if second == 108 then 0 else 5) else if first == 105 then (if second == 110 then 3 else 4) else if second == 101 then 1 else 2
step_from _ = 0

-- the slot that a name is of, after the digits of a place
abbrev slot_from : ℕ → List ℕ → ℕ
slot_from place [] = 0
slot_from place (c ∷ cs) =
    if c == 46 then 6 * place + step_from cs
    else if nat_lt c 58 then slot_from (10 * place + (c - 48)) cs
    else if c == 116 then 96 else if c == 115 then 97 else if c == 98 then 98 else 99

short_below : (s : ℕ) → s < 100 → nat_le (length (slot_name s)) 16 ≡ true
unfolding digits
short_below s less = agree_below_at (λ s. nat_le (length (slot_name s)) 16) (λ _. true) 100 s refl less

solid_below : (s : ℕ) → s < 100 → is_solid (slot_name s) ≡ true
unfolding digits
solid_below s less = agree_below_at (λ s. is_solid (slot_name s)) (λ _. true) 100 s refl less

there_below : (s : ℕ) → s < 100 → is_empty (slot_name s) ≡ false
unfolding digits
there_below s less = agree_below_at (λ s. is_empty (slot_name s)) (λ _. false) 100 s refl less

read_below : (s : ℕ) → s < 100 → (slot_from 0 (slot_name s) == s) ≡ true
unfolding digits
read_below s less = agree_below_at (λ s. slot_from 0 (slot_name s) == s) (λ _. true) 100 s refl less

-- ---- no other number has a name

no_step : (k : ℕ) → 10 ≤ k → step_name k ≡ []
no_step k high = grind (arith, nat_tests)

no_slot : (s : ℕ) → 100 ≤ s → slot_name s ≡ []
no_slot s high =
    let print : is_object_slot s ≡ false = le-ltb _ _ (omega arith) in
    let step : step_of s ≡ s - 90 = cond-false _ _ _ print in
    let none : step_name (step_of s) ≡ [] = ap step_name step ∙ no_step (s - 90) (omega arith) in
    cond-false _ _ _ print ∙ none

-- ---- the laws

pub names_short : (s : ℕ) → length (slot_name s) ≤ 16
names_short s = elim (cases_lt s 100) [
  | inl less ↦ leb-true _ _ (short_below s less)
  | inr high ↦ let none : length (slot_name s) ≡ 0 = ap length (no_slot s high) in omega arith
]

-- the name of a step of an object, as it is put together
pub object_name_fits : (s : ℕ) → s < 96 → length (decimal (s / 6)) + length (codes "." ++ step_name (s % 6)) ≤ 16
object_name_fits s less =
    let object : is_object_slot s ≡ true = lt-ltb _ _ less in
    let step : step_of s ≡ s % 6 = cond-true _ _ _ object in
    let name : slot_name s ≡ decimal (s / 6) ++ (codes "." ++ step_name (s % 6)) = (λ i. cond (object i) (decimal (s / 6) ++ (codes "." ++ step_name (step_of s))) (step_name (step_of s))) ∙ ap (λ k. decimal (s / 6) ++ (codes "." ++ step_name k)) step in
    let long : length (decimal (s / 6)) + length (codes "." ++ step_name (s % 6)) ≡ length (slot_name s) = sym (length-append (decimal (s / 6)) (codes "." ++ step_name (s % 6))) ∙ ap length (sym name) in
    omega (arith, names_short s)

solid_text : (text : List ℕ) → is_solid text ≡ true → All (λ c. is_blank c ≡ false) text
solid_text [] h = All-nil _
solid_text (c ∷ cs) h =
    let parts = and_parts _ _ h in
    All-cons (λ c. is_blank c ≡ false) c cs (grind (arith, nat_tests)) (solid_text cs parts.0)

pub names_solid : (s : ℕ) → All (λ c. is_blank c ≡ false) (slot_name s)
names_solid s = elim (cases_lt s 100) [
  | inl less ↦ solid_text (slot_name s) (solid_below s less)
  | inr high ↦ subst (λ (text : List ℕ). All (λ c. is_blank c ≡ false) text) (sym (no_slot s high)) (All-nil _)
]

pub names_there : (a : Contents) (s : ℕ) → is_present a s ≡ true → slot_name s ≢ []
names_there a s there none = true≢false (ap is_empty (sym none) ∙ there_below s (present_below a s there))

named_low : (s : ℕ) → slot_name s ≢ [] → s < 100
named_low s named = elim (cases_lt s 100) [
  | inl less ↦ less
  | inr high ↦ absurd (named (no_slot s high))
]

pub names_apart : (s t : ℕ) → slot_name s ≢ [] → slot_name s ≡ slot_name t → s ≡ t
names_apart s t named same =
    let other : slot_name t ≢ [] = λ none. named (same ∙ none) in
    sym (eqb-true _ _ (read_below s (named_low s named))) ∙ ap (slot_from 0) same ∙ eqb-true _ _ (read_below t (named_low t other))
