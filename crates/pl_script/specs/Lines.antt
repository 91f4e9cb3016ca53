-- The lines of a text, and the words of a line.
use Rattle.std.specs.Prelude.{ℕ, ◌-◌, ◌==◌, ◌||◌, Bool, true, false, not, if◌then◌else◌, List, [], ◌∷◌, length, take, drop, slice_index}
use Rattle.std.specs.List.{slice_split, filter, prefix_len, suffix_len}

-- a text without one such byte at its end
abbrev pub without_last : ℕ → List ℕ → List ℕ
without_last byte text = if slice_index text (length text - 1) == byte then take (length text - 1) text else text

-- the lines of a text: its parts between bytes 10, where one at the end of the text begins no further line
abbrev pub lines_of : List ℕ → List (List ℕ)
lines_of bytes = slice_split (λ b. b == 10) (without_last 10 bytes)

-- a line without one byte 13 at its end
abbrev pub line_text : List ℕ → List ℕ
line_text line = without_last 13 line

-- a space or a tab
abbrev pub is_blank : ℕ → Bool
is_blank b = b == 32 || b == 9

abbrev pub is_letter : ℕ → Bool
is_letter b = not (is_blank b)

abbrev pub is_word : List ℕ → Bool
is_word [] = false
is_word (b ∷ bs) = true

-- the words of a text: its parts between blanks that are not empty
abbrev pub words_of : List ℕ → List (List ℕ)
words_of text = filter is_word (slice_split is_blank text)

abbrev pub line_words : List ℕ → List (List ℕ)
line_words line = words_of (line_text line)

-- a text without the blanks at its beginning
abbrev pub after_blanks : List ℕ → List ℕ
after_blanks text = drop (prefix_len is_blank text) text

-- what stands after the first word of a text
abbrev pub after_word : List ℕ → List ℕ
after_word text = drop (prefix_len is_letter (after_blanks text)) (after_blanks text)

-- a text without the blanks at its end
abbrev pub before_blanks : List ℕ → List ℕ
before_blanks text = take (length text - suffix_len is_blank text) text

-- a text without the blanks at both its ends
abbrev pub trimmed : List ℕ → List ℕ
trimmed text = before_blanks (after_blanks text)

-- a word that begins a comment
abbrev pub begins_comment : List ℕ → Bool
begins_comment [] = false
begins_comment (b ∷ bs) = b == 35

-- lines without words, and comments, are passed over
abbrev pub is_passed_over : List (List ℕ) → Bool
is_passed_over [] = true
is_passed_over (word ∷ words) = begins_comment word
