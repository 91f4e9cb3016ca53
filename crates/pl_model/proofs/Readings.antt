-- A text has one reading: its settings, or its first breach.
use Rattle.std.proofs.Common.{◌≡◌, ℕ, ◌+◌, ◌⊎◌, inl, inr, arith, List, [], ◌∷◌, ◌++◌, length, map, All, Result, Ok, Err, refl, sym, ap, ◌∙◌}
use Rattle.std.specs.Result.{IsOk, is_ok}
use Rattle.std.proofs.lemmas.Bool.{false≢true}
use Rattle.std.proofs.lemmas.List.Elements.{All-nil, All-cons, All-head, All-tail}
use Rattle.pl_options.specs.declared.fault.IniFault.{IniFault}
use Rattle.pl_options.specs.Lines.{lines_of, line_of}
use Rattle.pl_options.specs.Settings.{Settings, settings_of, IsSettingsText, IsFirstBreach}
use Rattle.pl_model.specs.Settings.{breach, before, said_from, settings_by, ini_of}

ok_value : {X F : Type 0} (r : Result X F) → IsOk r → (x : X) × (r ≡ Ok x)
ok_value (Ok x) h = (x, refl)
ok_value (Err e) h = absurd (false≢true h)

oks : {X : Type 0} (n : ℕ) (xs : List X) → said_from n (map Ok xs) ≡ Ok xs
oks n [] = refl
oks n (x ∷ xs) = ap (before x) (oks (n + 1) xs)

-- a list whose first failure stands after `front`
record FirstFailure {T X : Type 0} (f : T → Result X IniFault) (ts : List T) : Type 0 where
  front : List T
  item : T
  rest : List T
  fault : IniFault
  all : ts ≡ front ++ item ∷ rest
  whole : All (λ t. IsOk (f t)) front
  broken : f item ≡ Err fault

module _ {T X : Type 0} (f : T → Result X IniFault) where
  said_oks : (n : ℕ) (ts : List T) (xs : List X) → map f ts ≡ map Ok xs → said_from n (map f ts) ≡ Ok xs
  said_oks n ts xs e = ap (said_from n) e ∙ oks n xs

  said_failure : (n number : ℕ) (front : List T) (item : T) (rest : List T) (fault : IniFault) → number ≡ n + length front → All (λ t. IsOk (f t)) front → f item ≡ Err fault
      → said_from n (map f (front ++ item ∷ rest)) ≡ Err (breach number fault)
  said_failure n number [] item rest fault at whole broken =
      let same : n ≡ number = omega arith in
      ap (λ r. said_from n (r ∷ map f rest)) broken ∙ ap (λ m. Err (breach m fault)) same
  said_failure n number (t ∷ front) item rest fault at whole broken =
      let first = ok_value (f t) (All-head (λ t. IsOk (f t)) t front whole) in
      let further : number ≡ n + 1 + length front = omega arith in
      ap (λ r. said_from n (r ∷ map f (front ++ item ∷ rest))) first.1
      ∙ ap (before first.0) (said_failure (n + 1) number front item rest fault further (All-tail (λ t. IsOk (f t)) t front whole) broken)

  all_or_failure : (ts : List T) → ((xs : List X) × (map f ts ≡ map Ok xs)) ⊎ FirstFailure f ts
  all_or_failure [] = inl ([], refl)
  all_or_failure (t ∷ ts) =
      elim (f t) as (λ r. f t ≡ r → ((xs : List X) × (map f (t ∷ ts) ≡ map Ok xs)) ⊎ FirstFailure f (t ∷ ts)) [
        | Ok x ↦ λ is. elim (all_or_failure ts) [
          | inl more ↦ inl (x ∷ more.0, λ i. is i ∷ more.1 i)
          | inr failure ↦
              inr (record {
                front = t ∷ failure.front;
                item = failure.item;
                rest = failure.rest;
                fault = failure.fault;
                all = ap (λ us. t ∷ us) failure.all;
                whole = All-cons (λ t. IsOk (f t)) t failure.front (ap is_ok is) failure.whole;
                broken = failure.broken;
              })
        ]
        | Err e ↦ λ is. inr (record { front = []; item = t; rest = ts; fault = e; all = refl; whole = All-nil (λ t. IsOk (f t)); broken = is })
      ] refl

pub settings_read : (text : List ℕ) (settings : Settings) → IsSettingsText text settings → ini_of text ≡ Ok settings
settings_read text settings h = ap (settings_by settings_of) (said_oks line_of 1 (lines_of text) h.lines h.said) ∙ ap Ok (sym h.same)

pub breach_read : (text : List ℕ) (number : ℕ) (fault : IniFault) → IsFirstBreach text number fault → ini_of text ≡ Err (breach number fault)
breach_read text number fault h =
    let at : number ≡ 1 + length h.before = omega (arith, h.place) in
    ap (λ lines. settings_by settings_of (said_from 1 (map line_of lines))) h.all
    ∙ ap (settings_by settings_of) (said_failure line_of 1 number h.before h.line h.after fault at h.whole h.broken)

failure_read : (text : List ℕ) (failure : FirstFailure line_of (lines_of text)) → ini_of text ≡ Err (breach (length failure.front + 1) failure.fault)
failure_read text failure = breach_read text (length failure.front + 1) failure.fault (record {
  before = failure.front;
  line = failure.item;
  after = failure.rest;
  all = failure.all;
  whole = failure.whole;
  broken = failure.broken;
  place = refl;
})

pub read_settings : (text : List ℕ) (settings : Settings) → ini_of text ≡ Ok settings → IsSettingsText text settings
read_settings text settings e = elim (all_or_failure line_of (lines_of text)) [
  | inl all ↦
      let read : ini_of text ≡ Ok (settings_of all.0) = ap (settings_by settings_of) (said_oks line_of 1 (lines_of text) all.0 all.1) in
      record { lines = all.0; said = all.1; same = cc (e, read) }
  | inr failure ↦ let read = failure_read text failure in absurd (cc (e, read))
]

pub read_breach : (text : List ℕ) (number : ℕ) (fault : IniFault) → ini_of text ≡ Err (breach number fault) → IsFirstBreach text number fault
read_breach text number fault e = elim (all_or_failure line_of (lines_of text)) [
  | inl all ↦
      let read : ini_of text ≡ Ok (settings_of all.0) = ap (settings_by settings_of) (said_oks line_of 1 (lines_of text) all.0 all.1) in
      absurd (cc (e, read))
  | inr failure ↦
      let read = failure_read text failure in
      let same_place : number ≡ length failure.front + 1 = cc (e, read) in
      let same_fault : failure.fault ≡ fault = cc (e, read) in
      record {
        before = failure.front;
        line = failure.item;
        after = failure.rest;
        all = failure.all;
        whole = failure.whole;
        broken = failure.broken ∙ ap Err same_fault;
        place = same_place;
      }
]
