-- What the words of a script keep.
use Rattle.std.proofs.Common.{◌≡◌, ◌≢◌, ◌==◌, ℕ, ◌-◌, Bool, true, false, if◌then◌else◌, Option, Some, None, Result, Ok, Err, List, [], ◌∷◌, length, take, All, inl, inr, refl, sym, subst, arith}
use Rattle.std.specs.Result.{IfOk}
use Rattle.std.specs.Option.{IfSome, option_map, option_map_or, option_and_then, ok_or}
use Rattle.std.specs.List.{slice_split, onto_first, filter, find, prefix_len, suffix_len}
use Rattle.std.proofs.lemmas.Bool.{cases_Bool, cond-true, cond-false}
use Rattle.std.proofs.lemmas.Bool.Decides.{nat_tests}
use Rattle.std.proofs.lemmas.List.Splits.{slice_split-cons_yes, slice_split-cons_no}
use Rattle.std.proofs.lemmas.List.Elements.{All-nil, All-cons, All-head, All-tail, All-drop, All-take}
use Rattle.pl_script.specs.Outcomes.{and_then, mapped}
use Rattle.pl_script.specs.Lines.{is_blank, is_letter, is_word, words_of, after_blanks, after_word, trimmed, line_text}
use Rattle.pl_script.specs.Kept.{IsInLine, IsWord}

-- what follows a part that holds

pub some_then : {X Y : Type 0} (P : Y → Type 0) (o : Option X) (next : X → Option Y) → ((x : X) → o ≡ Some x → IfSome (next x) P) → IfSome (option_and_then next o) P
some_then P None next h = tt
some_then P (Some x) next h = h x refl

pub some_map : {X Y : Type 0} (P : Y → Type 0) (o : Option X) (f : X → Y) → ((x : X) → o ≡ Some x → P (f x)) → IfSome (option_map f o) P
some_map P None f h = tt
some_map P (Some x) f h = h x refl

pub some_or : {X Y E : Type 0} (P : Y → Type 0) (o : Option X) (next : X → Result Y E) (e : E) → ((x : X) → o ≡ Some x → IfOk (next x) P) → IfOk (option_map_or next o (Err e)) P
some_or P None next e h = tt
some_or P (Some x) next e h = h x refl

pub ok_of_some : {X E : Type 0} (P : X → Type 0) (o : Option X) (e : E) → IfSome o P → IfOk (ok_or o e) P
ok_of_some P None e h = tt
ok_of_some P (Some x) e h = h

pub ok_then : {X Y E : Type 0} (P : Y → Type 0) (said : Result X E) (next : X → Result Y E) → ((x : X) → said ≡ Ok x → IfOk (next x) P) → IfOk (and_then said next) P
ok_then P (Ok x) next h = h x refl
ok_then P (Err e) next h = tt

pub ok_mapped : {X Y E : Type 0} (P : Y → Type 0) (said : Result X E) (f : X → Y) → ((x : X) → said ≡ Ok x → P (f x)) → IfOk (mapped f said) P
ok_mapped P (Ok x) f h = h x refl
ok_mapped P (Err e) f h = tt

-- where a test chooses an outcome or a fault
pub ok_where : {X E : Type 0} (P : X → Type 0) (b : Bool) (said : Result X E) (e : E) → (b ≡ true → IfOk said P) → IfOk (if b then said else Err e) P
ok_where P true said e h = h refl
ok_where P false said e h = tt

pub some_where : {X : Type 0} (P : X → Type 0) (b : Bool) (o : Option X) → (b ≡ true → IfSome o P) → IfSome (if b then o else None) P
some_where P true o h = h refl
some_where P false o h = tt

pub some_fact : {X : Type 0} (P : X → Type 0) (o : Option X) (x : X) → o ≡ Some x → IfSome o P → P x
some_fact P o x e h = subst (λ r. IfSome r P) e h

pub ok_fact : {X E : Type 0} (P : X → Type 0) (said : Result X E) (x : X) → said ≡ Ok x → IfOk said P → P x
ok_fact P said x e h = subst (λ r. IfOk r P) e h

-- what is found passes the test
pub found_passes : {X : Type 0} (p : X → Bool) (xs : List X) → IfSome (find p xs) (λ x. p x ≡ true)
found_passes p [] = tt
found_passes p (x ∷ xs) = by (p x) refl (found_passes p xs)
  where
    by : (b : Bool) → p x ≡ b → IfSome (find p xs) (λ y. p y ≡ true) → IfSome (if b then Some x else find p xs) (λ y. p y ≡ true)
    by true passes rest = passes
    by false fails rest = rest

-- the parts of a list have what all its elements have, and none that passes the test

onto_kept : {X : Type 0} (P : X → Type 0) (x : X) (parts : List (List X)) → P x → All (All P) parts → All (All P) (onto_first x parts)
onto_kept P x [] here h = All-cons (All P) (x ∷ []) [] (All-cons P x [] here (All-nil P)) (All-nil (All P))
onto_kept P x (part ∷ parts) here h = All-cons (All P) (x ∷ part) parts (All-cons P x part here (All-head (All P) part parts h)) (All-tail (All P) part parts h)

pub kept_parts : {X : Type 0} (P : X → Type 0) (p : X → Bool) (xs : List X) → All P xs → All (All P) (slice_split p xs)
kept_parts P p [] h = All-cons (All P) [] [] (All-nil P) (All-nil (All P))
kept_parts P p (x ∷ xs) h =
    let more : All (All P) (slice_split p xs) = kept_parts P p xs (All-tail P x xs h) in
    elim (cases_Bool (p x)) [
      | inl ends ↦ subst (All (All P)) (sym (slice_split-cons_yes p x xs ends)) (All-cons (All P) [] (slice_split p xs) (All-nil P) more)
      | inr goes_on ↦ subst (All (All P)) (sym (slice_split-cons_no p x xs goes_on)) (onto_kept P x (slice_split p xs) (All-head P x xs h) more)
    ]

pub failing_parts : {X : Type 0} (p : X → Bool) (xs : List X) → All (All (λ x. p x ≡ false)) (slice_split p xs)
failing_parts p [] = All-cons (All (λ x. p x ≡ false)) [] [] (All-nil (λ x. p x ≡ false)) (All-nil (All (λ x. p x ≡ false)))
failing_parts p (x ∷ xs) =
    elim (cases_Bool (p x)) [
      | inl ends ↦ subst (All (All (λ x. p x ≡ false))) (sym (slice_split-cons_yes p x xs ends)) (All-cons (All (λ x. p x ≡ false)) [] (slice_split p xs) (All-nil (λ x. p x ≡ false)) (failing_parts p xs))
      | inr goes_on ↦ subst (All (All (λ x. p x ≡ false))) (sym (slice_split-cons_no p x xs goes_on)) (onto_kept (λ x. p x ≡ false) x (slice_split p xs) goes_on (failing_parts p xs))
    ]

-- the lines of a text have no line end
not_ten : (b : ℕ) → (b == 10) ≡ false → b ≢ 10
not_ten b e = grind (arith, nat_tests)

pub all_as : {X : Type 0} (P Q : X → Type 0) (xs : List X) → ((x : X) → P x → Q x) → All P xs → All Q xs
all_as P Q [] f h = All-nil Q
all_as P Q (x ∷ xs) f h = All-cons Q x xs (f x (All-head P x xs h)) (all_as P Q xs f (All-tail P x xs h))

pub lines_in_line : (text : List ℕ) → All IsInLine (slice_split (λ b. b == 10) text)
lines_in_line text = all_as (All (λ b. (b == 10) ≡ false)) IsInLine _ (λ part h. all_as (λ b. (b == 10) ≡ false) (λ b. b ≢ 10) part not_ten h) (failing_parts (λ b. b == 10) text)

-- parts of a line are within it
without_last_in_line : (byte : ℕ) (text : List ℕ) (b : Bool) → IsInLine text → IsInLine (if b then take (length text - 1) text else text)
without_last_in_line byte text true h = All-take (λ b. b ≢ 10) (length text - 1) text h
without_last_in_line byte text false h = h

pub text_in_line : (line : List ℕ) → IsInLine line → IsInLine (line_text line)
text_in_line line h = without_last_in_line 13 line _ h

after_blanks_in_line : (text : List ℕ) → IsInLine text → IsInLine (after_blanks text)
after_blanks_in_line text h = All-drop (λ b. b ≢ 10) (prefix_len is_blank text) text h

pub after_word_in_line : (text : List ℕ) → IsInLine text → IsInLine (after_word text)
after_word_in_line text h = All-drop (λ b. b ≢ 10) (prefix_len is_letter (after_blanks text)) (after_blanks text) (after_blanks_in_line text h)

pub trimmed_in_line : (text : List ℕ) → IsInLine text → IsInLine (trimmed text)
trimmed_in_line text h = All-take (λ b. b ≢ 10) (length (after_blanks text) - suffix_len is_blank (after_blanks text)) (after_blanks text) (after_blanks_in_line text h)

-- the words of a text within a line
pub are_words : (text : List ℕ) → IsInLine text → All IsWord (words_of text)
are_words text h = by (slice_split is_blank text) (kept_parts (λ b. b ≢ 10) is_blank text h) (failing_parts is_blank text)
  where
    by : (parts : List (List ℕ)) → All IsInLine parts → All (All (λ b. is_blank b ≡ false)) parts → All IsWord (filter is_word parts)
    by [] lines wholes = All-nil IsWord
    by (part ∷ parts) lines wholes =
        let rest : All IsWord (filter is_word parts) = by parts (All-tail IsInLine part parts lines) (All-tail (All (λ b. is_blank b ≡ false)) part parts wholes) in
        elim (cases_Bool (is_word part)) [
          | inl some ↦
              subst (All IsWord) (sym (cond-true (is_word part) (part ∷ filter is_word parts) (filter is_word parts) some))
              (All-cons IsWord part (filter is_word parts) (record { some = some; whole = All-head (All (λ b. is_blank b ≡ false)) part parts wholes; line = All-head IsInLine part parts lines }) rest)
          | inr none ↦ subst (All IsWord) (sym (cond-false (is_word part) (part ∷ filter is_word parts) (filter is_word parts) none)) rest
        ]
