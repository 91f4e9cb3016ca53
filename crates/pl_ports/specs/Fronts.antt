-- What two calls in a row do to known bytes, for the crates above too.
use Rattle.std.proofs.Common.{◌≡◌, ◌+◌, ◌-◌, ◌<◌, ◌≤◌, ℕ, List, [], ◌∷◌, ◌++◌, length, take, drop, refl, ap, sym, ◌∙◌, arith, append_assoc, length-append, Option, Some, None, map, get_or}
use Rattle.std.specs.Io.KnownBytes.{Consumes, Appends, Keeps, IsAtEnd}
use Rattle.std.proofs.lemmas.List.{append-nil, take-append-drop, drop_more, take_more, map-append}
use Rattle.std.specs.List.{concat}
use Rattle.pl_ports.specs.Causes.{TookMore, TookAtMost, AppendsFront}

abbrev Bytes : Type 0
Bytes = List ℕ

pub appends_more : (a b c : Option Bytes) (xs ys : Bytes) → Appends a b xs → Appends b c ys → Appends a c (xs ++ ys)
appends_more None b c xs ys p q = tt
appends_more (Some a) None c xs ys p q = absurd p
appends_more (Some a) (Some b) None xs ys p q = absurd q
appends_more (Some a) (Some b) (Some c) xs ys p q = q ∙ ap (λ l. l ++ ys) p ∙ append_assoc a xs ys

pub appends_none : (a : Option Bytes) → Appends a a []
appends_none None = tt
appends_none (Some a) = sym (append-nil a)

pub appends_keeps : (a b c : Option Bytes) (xs : Bytes) → Appends a b xs → Keeps b c → Appends a c xs
appends_keeps None b c xs p q = tt
appends_keeps (Some a) None c xs p q = absurd p
appends_keeps (Some a) (Some b) None xs p q = absurd q
appends_keeps (Some a) (Some b) (Some c) xs p q = q ∙ p

pub consumes_more : (a b c : Option Bytes) (xs ys : Bytes) → Consumes a b xs → Consumes b c ys → Consumes a c (xs ++ ys)
consumes_more None b c xs ys p q = tt
consumes_more (Some a) None c xs ys p q = absurd p
consumes_more (Some a) (Some b) None xs ys p q = absurd q
consumes_more (Some a) (Some b) (Some c) xs ys p q = p ∙ ap (λ l. xs ++ l) q ∙ sym (append_assoc xs ys c)

pub consumes_none : (a : Option Bytes) → Consumes a a []
consumes_none None = tt
consumes_none (Some a) = refl

pub consumes_keeps : (a b c : Option Bytes) (xs : Bytes) → Consumes a b xs → Keeps b c → Consumes a c xs
consumes_keeps None b c xs p q = tt
consumes_keeps (Some a) None c xs p q = absurd p
consumes_keeps (Some a) (Some b) None xs p q = absurd q
consumes_keeps (Some a) (Some b) (Some c) xs p q = p ∙ ap (λ l. xs ++ l) (sym q)

pub took_more : (a b : Option Bytes) (xs : Bytes) (limit : ℕ) → Consumes a b xs → limit < length xs → TookMore a b limit
took_more None b xs limit p h = tt
took_more (Some a) None xs limit p h = absurd p
took_more (Some a) (Some b) xs limit p h = omega (arith, ap length p, length-append xs b)

pub took_at_most : (a b : Option Bytes) (xs : Bytes) (limit : ℕ) → Consumes a b xs → length xs ≤ limit → TookAtMost a b limit
took_at_most None b xs limit p h = tt
took_at_most (Some a) None xs limit p h = absurd p
took_at_most (Some a) (Some b) xs limit p h = omega (arith, ap length p, length-append xs b)

pub front_of_all : (a b : Option Bytes) (bytes : Bytes) → Appends a b bytes → AppendsFront a b bytes
front_of_all a b bytes p = (bytes, [], p, sym (append-nil bytes))

-- a front of the first of two pieces, and the first with a front of the second
pub front_of_first : (a b : Option Bytes) (xs ys : Bytes) → AppendsFront a b xs → AppendsFront a b (xs ++ ys)
front_of_first a b xs ys (front, rest, p, e) = (front, rest ++ ys, p, ap (λ l. l ++ ys) e ∙ append_assoc front rest ys)

pub front_after : (a b c : Option Bytes) (xs ys : Bytes) → Appends a b xs → AppendsFront b c ys → AppendsFront a c (xs ++ ys)
front_after a b c xs ys p (front, rest, q, e) = (xs ++ front, rest, appends_more a b c xs front p q, ap (λ l. xs ++ l) e ∙ sym (append_assoc xs front rest))

pub front_at : (a b : Option Bytes) (n : ℕ) (bytes : Bytes) → Appends a b (take n bytes) → AppendsFront a b bytes
front_at a b n bytes p = (take n bytes, drop n bytes, p, sym (take-append-drop n bytes))

-- Pieces one after another.

pub concat-append : (xs ys : List Bytes) → concat (xs ++ ys) ≡ concat xs ++ concat ys
concat-append [] ys = refl
concat-append (x ∷ xs) ys = ap (λ l. x ++ l) (concat-append xs ys) ∙ sym (append_assoc x (concat xs) (concat ys))

-- the pieces before a place, the one there, and those after it
pub concat_at : {X : Type 0} (f : X → Bytes) (xs : List X) (i : ℕ) (d : X) → i < length xs → concat (map f xs) ≡ concat (map f (take i xs)) ++ (f (get_or xs i d) ++ concat (map f (drop (i + 1) xs)))
concat_at f xs i d h =
    ap (λ l. concat (map f l)) (sym (take-append-drop i xs)) ∙ ap concat (map-append f (take i xs) (drop i xs)) ∙ concat-append (map f (take i xs)) (map f (drop i xs))
    ∙ ap (λ l. concat (map f (take i xs)) ++ concat (map f l)) (drop_more xs i d h)

pub concat_more : {X : Type 0} (f : X → Bytes) (xs : List X) (i : ℕ) (d : X) → i < length xs → concat (map f (take (i + 1) xs)) ≡ concat (map f (take i xs)) ++ f (get_or xs i d)
concat_more f xs i d h =
    ap (λ l. concat (map f l)) (take_more xs i d h) ∙ ap concat (map-append f (take i xs) (get_or xs i d ∷ [])) ∙ concat-append (map f (take i xs)) (f (get_or xs i d) ∷ [])
    ∙ ap (λ l. concat (map f (take i xs)) ++ l) (append-nil (f (get_or xs i d)))

-- a stop in the piece at a place
pub front_in_piece : {X : Type 0} (f : X → Bytes) (xs : List X) (i : ℕ) (d : X) (a b c : Option Bytes) → i < length xs → Appends a b (concat (map f (take i xs))) → AppendsFront b c (f (get_or xs i d)) → AppendsFront a c (concat (map f xs))
front_in_piece f xs i d a b c h before piece =
    rw (concat_at f xs i d h) (front_after a b c (concat (map f (take i xs))) (f (get_or xs i d) ++ concat (map f (drop (i + 1) xs))) before (front_of_first b c (f (get_or xs i d)) (concat (map f (drop (i + 1) xs))) piece))

-- one piece more
pub pieces_more : {X : Type 0} (f : X → Bytes) (xs : List X) (i : ℕ) (d : X) (a b c : Option Bytes) → i < length xs → Appends a b (concat (map f (take i xs))) → Appends b c (f (get_or xs i d)) → Appends a c (concat (map f (take (i + 1) xs)))
pieces_more f xs i d a b c h before piece =
    rw (concat_more f xs i d h) (appends_more a b c (concat (map f (take i xs))) (f (get_or xs i d)) before piece)
