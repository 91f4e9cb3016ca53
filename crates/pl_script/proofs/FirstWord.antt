-- The first word of a text.
use Rattle.std.proofs.Common.{◌≡◌, ◌≢◌, ℕ, ◌+◌, true, false, not, List, [], ◌∷◌, take, drop, inl, inr, refl, sym, ap, ◌∙◌, arith}
use Rattle.std.specs.List.{slice_split, onto_first, filter, prefix_len}
use Rattle.std.proofs.lemmas.Bool.{cases_Bool, cond-true, cond-false}
use Rattle.std.proofs.lemmas.Grind.{common_steps}
use Rattle.std.proofs.lemmas.List.Splits.{slice_split-cons_yes, slice_split-cons_no}
use Rattle.pl_script.specs.Lines.{is_blank, is_letter, is_word, words_of, after_blanks, after_word}

drop_one : (n : ℕ) (b : ℕ) (bs : List ℕ) → drop (1 + n) (b ∷ bs) ≡ drop n bs
drop_one n b bs = grind (arith, common_steps)

take_one : (n : ℕ) (b : ℕ) (bs : List ℕ) → take (1 + n) (b ∷ bs) ≡ b ∷ take n bs
take_one n b bs = grind (arith, common_steps)

-- a blank at the beginning
blank_first : (b : ℕ) (bs : List ℕ) → is_blank b ≡ true → after_blanks (b ∷ bs) ≡ after_blanks bs
blank_first b bs e = ap (λ n. drop n (b ∷ bs)) (cond-true (is_blank b) _ _ e) ∙ drop_one (prefix_len is_blank bs) b bs

-- none at the beginning
letter_first : (b : ℕ) (bs : List ℕ) → is_blank b ≡ false → after_blanks (b ∷ bs) ≡ b ∷ bs
letter_first b bs e = ap (λ n. drop n (b ∷ bs)) (cond-false (is_blank b) _ _ e)

pub words_after_blanks : (text : List ℕ) → words_of (after_blanks text) ≡ words_of text
words_after_blanks [] = refl
words_after_blanks (b ∷ bs) =
    elim (cases_Bool (is_blank b)) [
      | inl blank ↦ ap words_of (blank_first b bs blank) ∙ words_after_blanks bs ∙ sym (ap (filter is_word) (slice_split-cons_yes is_blank b bs blank))
      | inr letter ↦ ap words_of (letter_first b bs letter)
    ]

prefix_letter : (b : ℕ) (bs : List ℕ) → is_blank b ≡ false → prefix_len is_letter (b ∷ bs) ≡ 1 + prefix_len is_letter bs
prefix_letter b bs e = cond-true (is_letter b) _ _ (ap not e)

prefix_blank : (b : ℕ) (bs : List ℕ) → is_blank b ≡ true → prefix_len is_letter (b ∷ bs) ≡ 0
prefix_blank b bs e = cond-false (is_letter b) _ _ (ap not e)

-- what begins with no blank and no letter is empty
pub no_letter : (text : List ℕ) → prefix_len is_letter (after_blanks text) ≡ 0 → words_of text ≡ []
no_letter [] e = refl
no_letter (b ∷ bs) e =
    elim (cases_Bool (is_blank b)) [
      | inl blank ↦ ap (filter is_word) (slice_split-cons_yes is_blank b bs blank) ∙ no_letter bs (ap (prefix_len is_letter) (sym (blank_first b bs blank)) ∙ e)
      | inr letter ↦
          let none : 1 + prefix_len is_letter bs ≡ 0 = sym (prefix_letter b bs letter) ∙ ap (prefix_len is_letter) (sym (letter_first b bs letter)) ∙ e in
          absurd (omega (arith, none))
    ]

-- the first part of a text, and the words of the others
split_first : (text : List ℕ)
    → (parts : List (List ℕ)) × (slice_split is_blank text ≡ take (prefix_len is_letter text) text ∷ parts) × (filter is_word parts ≡ words_of (drop (prefix_len is_letter text) text))
split_first [] = ([], refl, refl)
split_first (b ∷ bs) =
    let more = split_first bs in
    elim (cases_Bool (is_blank b)) [
      | inl blank ↦
          (slice_split is_blank bs, slice_split-cons_yes is_blank b bs blank ∙ ap (λ n. take n (b ∷ bs) ∷ slice_split is_blank bs) (sym (prefix_blank b bs blank)), sym (ap (λ n. words_of (drop n (b ∷ bs))) (prefix_blank b bs blank) ∙ ap (filter is_word) (slice_split-cons_yes is_blank b bs blank)))
      | inr letter ↦
          (more.0, slice_split-cons_no is_blank b bs letter ∙ ap (onto_first b) more.1 ∙ ap (λ word. word ∷ more.0) (sym (ap (λ n. take n (b ∷ bs)) (prefix_letter b bs letter) ∙ take_one (prefix_len is_letter bs) b bs)), more.2 ∙ ap words_of (sym (ap (λ n. drop n (b ∷ bs)) (prefix_letter b bs letter) ∙ drop_one (prefix_len is_letter bs) b bs)))
    ]

some_bytes : (text : List ℕ) → prefix_len is_letter text ≢ 0 → is_word (take (prefix_len is_letter text) text) ≡ true
some_bytes [] e = absurd (e refl)
some_bytes (b ∷ bs) e =
    elim (cases_Bool (is_blank b)) [
      | inl blank ↦ absurd (e (prefix_blank b bs blank))
      | inr letter ↦ ap is_word (ap (λ n. take n (b ∷ bs)) (prefix_letter b bs letter) ∙ take_one (prefix_len is_letter bs) b bs)
    ]

filter_first : (word : List ℕ) (parts : List (List ℕ)) → is_word word ≡ true → filter is_word (word ∷ parts) ≡ word ∷ filter is_word parts
filter_first [] parts e = absurd (cc)
filter_first (b ∷ bs) parts e = refl

pub first_word : (text rest : List ℕ) (n : ℕ) → rest ≡ after_blanks text → n ≡ prefix_len is_letter rest → n ≢ 0 → words_of text ≡ take n rest ∷ words_of (drop n rest)
first_word text rest n is_rest is_n some =
    let parts = split_first rest in
    let some_rest : prefix_len is_letter rest ≢ 0 = λ e. some (is_n ∙ e) in
    sym (words_after_blanks text) ∙ ap words_of (sym is_rest) ∙ ap (filter is_word) parts.1 ∙ filter_first _ parts.0 (some_bytes rest some_rest)
    ∙ ap (λ words. take (prefix_len is_letter rest) rest ∷ words) parts.2
    ∙ ap (λ k. take k rest ∷ words_of (drop k rest)) (sym is_n)

pub no_word : (text rest : List ℕ) (n : ℕ) → rest ≡ after_blanks text → n ≡ prefix_len is_letter rest → n ≡ 0 → words_of text ≡ []
no_word text rest n is_rest is_n none = no_letter text (ap (prefix_len is_letter) (sym is_rest) ∙ sym is_n ∙ none)

pub rest_of_word : (text rest : List ℕ) (n : ℕ) → rest ≡ after_blanks text → n ≡ prefix_len is_letter rest → drop n rest ≡ after_word text
rest_of_word text rest n is_rest is_n = ap (λ k. drop k rest) is_n ∙ ap (λ t. drop (prefix_len is_letter t) t) is_rest
