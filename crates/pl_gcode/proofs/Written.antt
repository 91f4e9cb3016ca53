-- A text that is appended part by part.
use Rattle.std.proofs.Common.{◌≡◌, ◌+◌, ◌<◌, ◌≤◌, ℕ, List, [], ◌++◌, length, drop, refl, ap, subst, sym, ◌∙◌, append_assoc, get_or}
use Rattle.std.proofs.lemmas.List.{append-nil, drop_more, drop_all}
use Rattle.std.specs.List.{flat_map, enumerate_from}
use Rattle.std.specs.Prelude.{Result, Ok, Err, OnOk, OnErr}
use Rattle.pl_units.specs.Writes.{EndsWithFront, Writes}

-- of the whole text all but the rest has been appended
pub record Written (start out whole rest : List ℕ) : Type 0 where
  pub front : List ℕ
  pub here : out ≡ start ++ front
  pub all : whole ≡ front ++ rest

-- at the beginning the rest is all
pub written_none : (start whole rest : List ℕ) → whole ≡ rest → Written start start whole rest
written_none start whole rest e = record { front = []; here = sym (append-nil start); all = e }

-- the same of an equal text
pub written_as : (start out whole rest other : List ℕ) → Written start out whole rest → whole ≡ other → Written start out other rest
written_as start out whole rest other w e = record { front = w.front; here = w.here; all = sym e ∙ w.all }

-- one part more
pub written_more : (start out whole rest new part after : List ℕ) → Written start out whole rest → new ≡ out ++ part → rest ≡ part ++ after → Written start new whole after
written_more start out whole rest new part after w n e = record {
  front = w.front ++ part;
  here = n ∙ ap (λ l. l ++ part) w.here ∙ append_assoc start w.front part;
  all = w.all ∙ ap (λ l. w.front ++ l) e ∙ sym (append_assoc w.front part after);
}

-- a stop in the next part
pub written_stopped : (start out whole rest new part after : List ℕ) → Written start out whole rest → EndsWithFront out new part → rest ≡ part ++ after → EndsWithFront start new whole
written_stopped start out whole rest new part after w (f, r, n, p) e =
    (w.front ++ f, r ++ after, n ∙ ap (λ l. l ++ f) w.here ∙ append_assoc start w.front f, w.all ∙ ap (λ l. w.front ++ l) (e ∙ ap (λ l. l ++ after) p ∙ append_assoc f r after) ∙ sym (append_assoc w.front f (r ++ after)))

-- the exit of a `?` at the next part
pub written_err : {T E : Type 0} (start out whole rest new part after : List ℕ) (r : Result T E) (d : E) → r ≡ Err d → Written start out whole rest → EndsWithFront out new part → rest ≡ part ++ after → Writes start new r whole
written_err start out whole rest new part after r d is w stop e = rw is (written_stopped start out whole rest new part after w stop e)

-- nothing is left
pub written_all : (start out whole rest : List ℕ) → Written start out whole rest → rest ≡ [] → out ≡ start ++ whole
written_all start out whole rest w e = w.here ∙ ap (λ l. start ++ l) (sym (w.all ∙ ap (λ l. w.front ++ l) e ∙ append-nil w.front))

-- the last part, whichever way it goes
pub written_last : {T E : Type 0} (start out whole rest new part : List ℕ) (result : Result T E) → Written start out whole rest → Writes out new result part → rest ≡ part → Writes start new result whole
written_last start out whole rest new part (Ok x) w p e = written_all start new whole [] (written_more start out whole rest new part [] w p (e ∙ sym (append-nil part))) refl
written_last start out whole rest new part (Err x) w p e = written_stopped start out whole rest new part [] w p (e ∙ sym (append-nil part))

-- a text that was appended is an equal one
pub writes_as : {T E : Type 0} (old new : List ℕ) (result : Result T E) (text other : List ℕ) → Writes old new result text → text ≡ other → Writes old new result other
writes_as old new result text other w e = subst (λ (l : List ℕ). Writes old new result l) e w

-- a text that is appended at once: all of it, or nothing
pub writes_whole : {T E : Type 0} (old new : List ℕ) (result : Result T E) (text other : List ℕ) → OnOk result (new ≡ old ++ text) → OnErr result (new ≡ old) → text ≡ other → Writes old new result other
writes_whole old new (Ok x) text other all none e = all ∙ ap (λ l. old ++ l) e
writes_whole old new (Err x) text other all none e = ([], other, none ∙ sym (append-nil old), refl)

-- the texts of what is left of a list
pub flat_map_next : {X : Type 0} (f : X → List ℕ) (xs : List X) (i : ℕ) (d : X) → i < length xs → flat_map f (drop i xs) ≡ f (get_or xs i d) ++ flat_map f (drop (i + 1) xs)
flat_map_next f xs i d h = ap (flat_map f) (drop_more xs i d h)

pub flat_map_end : {X : Type 0} (f : X → List ℕ) (xs : List X) (i : ℕ) → length xs ≤ i → flat_map f (drop i xs) ≡ []
flat_map_end f xs i h = ap (flat_map f) (drop_all i xs h)

-- the same, where the item is read behind a borrow
pub flat_map_item : {X : Type 0} (f : X → List ℕ) (xs : List X) (i : ℕ) (d y : X) → i < length xs → d ≡ get_or xs i d → y ≡ d → flat_map f (drop i xs) ≡ f y ++ flat_map f (drop (i + 1) xs)
flat_map_item f xs i d y h is e = flat_map_next f xs i d h ∙ ap (λ v. f v ++ flat_map f (drop (i + 1) xs)) (sym is ∙ sym e)

-- the same, with the items numbered
pub enumerate_next : {X : Type 0} (f : ℕ × X → List ℕ) (xs : List X) (i n : ℕ) (d : X) → i < length xs → n ≡ i → flat_map f (enumerate_from i (drop i xs)) ≡ f (n, get_or xs i d) ++ flat_map f (enumerate_from (i + 1) (drop (i + 1) xs))
enumerate_next f xs i n d h e =
    ap (λ l. flat_map f (enumerate_from i l)) (drop_more xs i d h) ∙ ap (λ k. f (k, get_or xs i d) ++ flat_map f (enumerate_from (i + 1) (drop (i + 1) xs))) (sym e)
