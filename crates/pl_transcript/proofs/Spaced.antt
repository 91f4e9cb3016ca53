-- Words one after another.
use Rattle.std.proofs.Common.{◌≡◌, ◌<◌, ◌≤◌, ℕ, zero, suc, ◌+◌, Bool, true, false, if◌then◌else◌, List, [], ◌∷◌, ◌++◌, length, map, take, drop, get_or, ◌-◌, refl, ap, sym, ◌∙◌, arith, append_assoc}
use Rattle.std.specs.Prelude.{filter}
use Rattle.std.specs.List.{range_with_len}
use Rattle.std.specs.Fmt.{decimal}
use Rattle.std.proofs.lemmas.List.{append-nil, map-append, take_more, drop_more, take-append-drop}
use Rattle.std.proofs.lemmas.List.Elements.{filter-append}
use Rattle.std.proofs.lemmas.Grind.{flat_map-append}
use Rattle.pl_tech.specs.Slots.{has, members}
use Rattle.pl_transcript.specs.Words.{spaced}
use Rattle.pl_transcript.specs.Replies.{gcode_text}

abbrev Bytes : Type 0
Bytes = List ℕ

pub spaced-append : (xs ys : List Bytes) → spaced (xs ++ ys) ≡ spaced xs ++ spaced ys
spaced-append xs ys = flat_map-append (λ word. 32 ∷ word) xs ys

-- the words before one, and it
pub words_more : {X : Type 0} (f : X → Bytes) (xs : List X) (i : ℕ) (d : X) → i < length xs → spaced (map f (take i xs)) ++ 32 ∷ f (get_or xs i d) ≡ spaced (map f (take (i + 1) xs))
words_more f xs i d h =
    sym
    (
    ap (λ l. spaced (map f l)) (take_more xs i d h) ∙ ap spaced (map-append f (take i xs) (get_or xs i d ∷ []))
    ∙ spaced-append (map f (take i xs)) (f (get_or xs i d) ∷ []) ∙ ap (λ l. spaced (map f (take i xs)) ++ 32 ∷ l) (append-nil (f (get_or xs i d)))
    )

-- the words before one, it, and those after it
pub words_at : {X : Type 0} (f : X → Bytes) (xs : List X) (i : ℕ) (d : X) → i < length xs → spaced (map f (take i xs)) ++ ((32 ∷ f (get_or xs i d)) ++ spaced (map f (drop (i + 1) xs))) ≡ spaced (map f xs)
words_at f xs i d h =
    sym
    (
    ap (λ l. spaced (map f l)) (sym (take-append-drop i xs)) ∙ ap spaced (map-append f (take i xs) (drop i xs)) ∙ spaced-append (map f (take i xs)) (map f (drop i xs))
    ∙ ap (λ l. spaced (map f (take i xs)) ++ spaced (map f l)) (drop_more xs i d h)
    )

-- The words of the slots of a set, from slot a on, so many.

abbrev pub slot_words : (ℕ → Bytes) → ℕ → ℕ → ℕ → Bytes
slot_words f set a n = spaced (map f (filter (has set) (range_with_len a n)))

range_split : (a m n : ℕ) → range_with_len a (m + n) ≡ range_with_len a m ++ range_with_len (a + m) n
range_split a zero n = let e : 0 + n ≡ n = omega arith in let f : a ≡ a + 0 = omega arith in rw e (ap (λ k. range_with_len k n) f)
range_split a (suc m) n =
    let s : suc m + n ≡ suc (m + n) = omega arith in
    let e : (a + 1) + m ≡ a + suc m = omega arith in
    rw s (ap (λ l. a ∷ l) (range_split (a + 1) m n ∙ ap (λ k. range_with_len (a + 1) m ++ range_with_len k n) e))

slots_split : (f : ℕ → Bytes) (set a m n : ℕ) → slot_words f set a (m + n) ≡ slot_words f set a m ++ slot_words f set (a + m) n
slots_split f set a m n =
    ap (λ l. spaced (map f (filter (has set) l))) (range_split a m n)
    ∙ ap (λ l. spaced (map f l)) (filter-append (has set) (range_with_len a m) (range_with_len (a + m) n))
    ∙ ap spaced (map-append f (filter (has set) (range_with_len a m)) (filter (has set) (range_with_len (a + m) n)))
    ∙ spaced-append (map f (filter (has set) (range_with_len a m))) (map f (filter (has set) (range_with_len (a + m) n)))

one : (f : ℕ → Bytes) (p : ℕ → Bool) (k : ℕ) (b : Bool) → p k ≡ b → spaced (map f (filter p (k ∷ []))) ≡ (if b then 32 ∷ f k else [])
one f p k true e = rw e (ap (λ l. 32 ∷ l) (append-nil (f k)))
one f p k false e = rw e refl

-- the slots below one, and it where the set has it
pub slots_more : (f : ℕ → Bytes) (set k : ℕ) → slot_words f set 0 k ++ (if has set k then 32 ∷ f k else []) ≡ slot_words f set 0 (k + 1)
slots_more f set k =
    let e : 0 + k ≡ k = omega arith in
    sym
    (
    slots_split f set 0 k 1 ∙ ap (λ i. slot_words f set 0 k ++ slot_words f set i 1) e
    ∙ ap (λ l. slot_words f set 0 k ++ l) (one f (has set) k (has set k) refl)
    )

all_slots : (f : ℕ → Bytes) (set : ℕ) → slot_words f set 0 100 ≡ spaced (map f (members set))
unfolding members
all_slots f set = refl

-- the slots below one, it where the set has it, and those above it
pub slots_at : (f : ℕ → Bytes) (set k : ℕ) → k < 100 → slot_words f set 0 k ++ ((if has set k then 32 ∷ f k else []) ++ slot_words f set (k + 1) (99 - k)) ≡ spaced (map f (members set))
slots_at f set k h =
    let all : (k + 1) + (99 - k) ≡ 100 = omega (arith, h) in
    let next : 0 + (k + 1) ≡ k + 1 = omega arith in
    let rest = slot_words f set (k + 1) (99 - k) in
    sym (append_assoc (slot_words f set 0 k) (if has set k then 32 ∷ f k else []) rest) ∙ ap (λ l. l ++ rest) (slots_more f set k)
    ∙ sym (slots_split f set 0 (k + 1) (99 - k) ∙ ap (λ i. slot_words f set 0 (k + 1) ++ slot_words f set i (99 - k)) next)
    ∙ ap (slot_words f set 0) all ∙ all_slots f set

-- all of them
pub slots_all : (f : ℕ → Bytes) (set k : ℕ) → 100 ≤ k → k ≤ 100 → slot_words f set 0 k ≡ spaced (map f (members set))
slots_all f set k low high =
    let all : k ≡ 100 = omega (arith, low, high) in
    ap (slot_words f set 0) all ∙ all_slots f set

-- Texts of several parts.

-- a word more after three
pub late_parts : (word name since now now' : Bytes) → now ≡ now' → spaced (word ∷ name ∷ since ∷ []) ++ 32 ∷ now ≡ spaced (word ∷ name ∷ since ∷ now' ∷ [])
late_parts word name since now now' e =
    ap (λ l. spaced (word ∷ name ∷ since ∷ []) ++ 32 ∷ l) (e ∙ sym (append-nil now')) ∙ sym (spaced-append (word ∷ name ∷ since ∷ []) (now' ∷ []))

-- the length of a G-code, and then its bytes
pub gcode_parts : (n : ℕ) (word bytes : Bytes) → n ≡ length bytes → spaced (word ∷ decimal n ∷ []) ++ 10 ∷ bytes ≡ spaced (word ∷ gcode_text bytes ∷ [])
gcode_parts n word bytes e =
    ap (λ l. 32 ∷ l) (append_assoc word (32 ∷ (decimal n ++ [])) (10 ∷ bytes))
    ∙ ap (λ l. 32 ∷ (word ++ 32 ∷ l)) (ap (λ l. l ++ 10 ∷ bytes) (append-nil (decimal n)) ∙ sym (append-nil (decimal n ++ 10 ∷ bytes)))
    ∙ ap (λ k. spaced (word ∷ (decimal k ++ 10 ∷ bytes) ∷ [])) e

-- a number and an actor, and then the other words and the line end
pub line_parts : (number actor rest : Bytes) → (number ++ actor) ++ (rest ++ 10 ∷ []) ≡ (number ++ (actor ++ rest)) ++ 10 ∷ []
line_parts number actor rest = simp append_assoc
