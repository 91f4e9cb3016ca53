-- Lists of answers, of which each is one or the first fails.
use Rattle.std.proofs.Common.{◌≡◌, List, [], ◌∷◌, ◌++◌, length, map, All, Result, Ok, Err, suc, refl, sym, ap, ◌∙◌}
use Rattle.std.specs.Result.{IsOk, is_ok}
use Rattle.std.proofs.lemmas.Bool.{false≢true}
use Rattle.std.proofs.lemmas.List.Elements.{All-nil, All-cons, All-head, All-tail}

pub middle : {X : Type 0} (P : X → Type 0) (xs : List X) (y : X) (ys : List X) → All P (xs ++ y ∷ ys) → P y
middle P [] y ys h = All-head P y ys h
middle P (x ∷ xs) y ys h = middle P xs y ys (All-tail P x (xs ++ y ∷ ys) h)

pub same_oks : {L F : Type 0} (ls ms : List L) → map {B = Result L F} Ok ls ≡ map Ok ms → ls ≡ ms
same_oks [] [] e = refl
same_oks [] (m ∷ ms) e = cc
same_oks (l ∷ ls) [] e = cc
same_oks {L} {F} (l ∷ ls) (m ∷ ms) e =
    let first : l ≡ m = cc in
    let rest : map {B = Result L F} Ok ls ≡ map Ok ms = cc in
    λ i. first i ∷ same_oks ls ms rest i

module _ {T L F : Type 0} (f : T → Result L F) where
  pub all_ok : (ts : List T) (ls : List L) → map f ts ≡ map Ok ls → All (λ t. IsOk (f t)) ts
  all_ok [] ls e = All-nil (λ t. IsOk (f t))
  all_ok (t ∷ ts) [] e = cc
  all_ok (t ∷ ts) (l ∷ ls) e =
      let first : f t ≡ Ok l = cc in
      let rest : map f ts ≡ map Ok ls = cc in
      All-cons (λ t. IsOk (f t)) t ts (ap is_ok first) (all_ok ts ls rest)

  pub no_err : (t : T) (e : F) → IsOk (f t) → f t ≡ Err e → ⊥
  no_err t e ok err = false≢true (sym (ap is_ok err) ∙ ok)

  -- two first failures of a list are one
  pub one_failure : (before : List T) (t : T) (after : List T) (e : F) (other : List T) (u : T) (rest : List T) (d : F) → before ++ t ∷ after ≡ other ++ u ∷ rest
      → All (λ t. IsOk (f t)) before → All (λ t. IsOk (f t)) other → f t ≡ Err e → f u ≡ Err d → (length before ≡ length other) × (e ≡ d)
  one_failure [] t after e [] u rest d same h k p q =
      let first : t ≡ u = cc in
      let errs : ◌≡◌ {A = Result L F} (Err e) (Err d) = sym p ∙ ap f first ∙ q in
      (refl, cc)
  one_failure [] t after e (x ∷ other) u rest d same h k p q =
      let first : t ≡ x = cc in
      absurd (no_err x e (All-head (λ t. IsOk (f t)) x other k) (ap f (sym first) ∙ p))
  one_failure (x ∷ before) t after e [] u rest d same h k p q =
      let first : x ≡ u = cc in
      absurd (no_err x d (All-head (λ t. IsOk (f t)) x before h) (ap f first ∙ q))
  one_failure (x ∷ before) t after e (y ∷ other) u rest d same h k p q =
      let tails : before ++ t ∷ after ≡ other ++ u ∷ rest = cc in
      let more = one_failure before t after e other u rest d tails (All-tail (λ t. IsOk (f t)) x before h) (All-tail (λ t. IsOk (f t)) y other k) p q in
      (ap suc more.0, more.1)
