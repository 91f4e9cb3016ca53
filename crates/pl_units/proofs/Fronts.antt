-- What a stop leaves of pieces that are appended one after another.
use Rattle.std.proofs.Common.{◌≡◌, ◌+◌, ◌<◌, ℕ, List, [], ◌∷◌, ◌++◌, length, take, drop, map, refl, ap, sym, ◌∙◌, append_assoc, get_or}
use Rattle.std.specs.List.{concat}
use Rattle.std.proofs.lemmas.List.{take-append-drop, take_more, map-append, append-nil}
use Rattle.std.specs.Prelude.{Result, Ok, Err, OnOk}
use Rattle.pl_units.specs.Writes.{EndsWithFront, Writes}

pub concat-append : (xs ys : List (List ℕ)) → concat (xs ++ ys) ≡ concat xs ++ concat ys
concat-append [] ys = refl
concat-append (x ∷ xs) ys = ap (λ l. x ++ l) (concat-append xs ys) ∙ sym (append_assoc x (concat xs) (concat ys))

pub concat_front : {X : Type 0} (f : X → List ℕ) (xs : List X) (i : ℕ) → concat (map f xs) ≡ concat (map f (take i xs)) ++ concat (map f (drop i xs))
concat_front f xs i =
    ap (λ l. concat (map f l)) (sym (take-append-drop i xs)) ∙ ap concat (map-append f (take i xs) (drop i xs)) ∙ concat-append (map f (take i xs)) (map f (drop i xs))

pub stopped_at : {X : Type 0} (f : X → List ℕ) (xs : List X) (i : ℕ) (old new : List ℕ) → new ≡ old ++ concat (map f (take i xs)) → EndsWithFront old new (concat (map f xs))
stopped_at f xs i old new e = (concat (map f (take i xs)), concat (map f (drop i xs)), e, concat_front f xs i)

-- a piece more
pub concat_more : {X : Type 0} (f : X → List ℕ) (xs : List X) (i : ℕ) (d : X) → i < length xs → concat (map f (take (i + 1) xs)) ≡ concat (map f (take i xs)) ++ f (get_or xs i d)
concat_more f xs i d h =
    ap (λ l. concat (map f l)) (take_more xs i d h) ∙ ap concat (map-append f (take i xs) (get_or xs i d ∷ [])) ∙ concat-append (map f (take i xs)) (f (get_or xs i d) ∷ [])
    ∙ ap (λ l. concat (map f (take i xs)) ++ l) (append-nil (f (get_or xs i d)))

-- a loop's step: one piece more at the end
pub more : {X : Type 0} (f : X → List ℕ) (xs : List X) (i : ℕ) (d : X) (start old new : List ℕ) → i < length xs → old ≡ start ++ concat (map f (take i xs)) → new ≡ old ++ f (get_or xs i d) → new ≡ start ++ concat (map f (take (i + 1) xs))
more f xs i d start old new h e p =
    p ∙ ap (λ l. l ++ f (get_or xs i d)) e ∙ append_assoc start (concat (map f (take i xs))) (f (get_or xs i d)) ∙ ap (λ l. start ++ l) (sym (concat_more f xs i d h))

-- the whole text was appended at Ok, and so an equal one
pub ok_of_writes : {T E : Type 0} (old new : List ℕ) (result : Result T E) (text other : List ℕ) → Writes old new result text → text ≡ other → OnOk result (new ≡ old ++ other)
ok_of_writes old new (Ok x) text other w e = w ∙ ap (λ l. old ++ l) e
ok_of_writes old new (Err x) text other w e = tt
