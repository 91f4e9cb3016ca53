-- The value of an edit is told by the rest of its line, up to the last `=`.
use Rattle.std.proofs.Common.{◌≡◌, ◌≢◌, ◌==◌, ◌||◌, not, ℕ, Bool, true, false, List, [], ◌∷◌, ◌++◌, codes, refl, sym, ◌∙◌, arith, inl, inr, append_assoc, append-nil}
use Rattle.std.specs.List.{AllByRecursion, list_all}
use Rattle.std.specs.Fmt.{decimal}
use Rattle.std.proofs.lemmas.List.Elements.{recursion_from_All}
use Rattle.std.proofs.lemmas.Bool.Decides.{eqb_tells, nat_tests}
use Rattle.pl_stl.specs.declared.fault.StlFault.{StlFault}
use Rattle.pl_options.specs.declared.fault.IniFault.{IniFault}
use Rattle.pl_edit.specs.declared.reply.EditRefusal.{EditRefusal}
use Rattle.pl_edit.specs.declared.reply.EditRefusal.TheVariants as refusal
use Rattle.pl_edit.specs.declared.reply.EditReply.{EditReply}
use Rattle.pl_edit.specs.declared.reply.EditReply.TheVariants as edited
use Rattle.pl_transcript.specs.Words.{spaced}
use Rattle.pl_transcript.specs.Commands.{value_words}
use Rattle.pl_transcript.specs.Replies.{stl_fault_word, ini_fault_word, refusal_words, edit_reply_words}
use Rattle.pl_spelled.specs.Script.{IsLine}
use Rattle.pl_spelled.proofs.Splitting.{Lacks, weaker, all_append, tail_same, first_split, last_split, last_same}
use Rattle.pl_spelled.proofs.Numbers.{IsDigit, decimal_digits}
use Rattle.pl_spelled.proofs.Words.{literal_lacks}

-- `=` and the line end
abbrev is_stop : ℕ → Bool
is_stop b = b == 61 || b == 10

no_stop : (b : ℕ) → IsDigit b → is_stop b ≡ false
no_stop b h = grind (arith, nat_tests)

number_free : (n : ℕ) → Lacks is_stop (decimal n)
number_free n = weaker IsDigit (λ b. is_stop b ≡ false) no_stop (decimal n) (decimal_digits n)

text_free : (text : List ℕ) → list_all (λ b. not (is_stop b)) text ≡ true → Lacks is_stop text
text_free text h = literal_lacks is_stop text h

abbrev AreFree : List (List ℕ) → Type 0
AreFree words = AllByRecursion (Lacks is_stop) words

stl_fault_free : (fault : StlFault) → Lacks is_stop (stl_fault_word fault)
stl_fault_free StlFault.BadToken = text_free (codes "BadToken") refl
stl_fault_free StlFault.BadNumber = text_free (codes "BadNumber") refl
stl_fault_free StlFault.TooFar = text_free (codes "TooFar") refl
stl_fault_free StlFault.TooManyFacets = text_free (codes "TooManyFacets") refl
stl_fault_free StlFault.Cut = text_free (codes "Cut") refl
stl_fault_free StlFault.NoFacet = text_free (codes "NoFacet") refl

ini_fault_free : (fault : IniFault) → Lacks is_stop (ini_fault_word fault)
ini_fault_free IniFault.NoEquals = text_free (codes "NoEquals") refl
ini_fault_free IniFault.BadValue = text_free (codes "BadValue") refl
ini_fault_free IniFault.OutOfRange = text_free (codes "OutOfRange") refl

refusal_free : (why : EditRefusal) → AreFree (refusal_words why)
refusal_free refusal.NoObject = (text_free (codes "NoObject") refl, tt)
refusal_free refusal.NoInstance = (text_free (codes "NoInstance") refl, tt)
refusal_free refusal.UnknownKey = (text_free (codes "UnknownKey") refl, tt)
refusal_free refusal.NotObjectKey = (text_free (codes "NotObjectKey") refl, tt)
refusal_free refusal.BadValue = (text_free (codes "BadValue") refl, tt)
refusal_free refusal.OutOfRange = (text_free (codes "OutOfRange") refl, tt)
refusal_free (refusal.BadStl line fault) = (text_free (codes "BadStl") refl, (number_free line, (stl_fault_free fault, tt)))
refusal_free (refusal.BadIni line fault) = (text_free (codes "BadIni") refl, (number_free line, (ini_fault_free fault, tt)))
refusal_free refusal.FullObjects = (text_free (codes "FullObjects") refl, tt)
refusal_free refusal.FullInstances = (text_free (codes "FullInstances") refl, tt)
refusal_free refusal.LastInstance = (text_free (codes "LastInstance") refl, tt)

answer_free : (answer : EditReply) → AreFree (edit_reply_words answer)
answer_free edited.Done = (text_free (codes "ok") refl, tt)
answer_free (edited.Object place) = (text_free (codes "object") refl, (number_free place, tt))
answer_free (edited.Instance number) = (text_free (codes "instance") refl, (number_free number, tt))
answer_free (edited.Set taken passed) = (text_free (codes "set") refl, (number_free taken, (number_free passed, tt)))
answer_free (edited.Refused why) = (text_free (codes "refused") refl, refusal_free why)

words_free : (words : List (List ℕ)) → AreFree words → Lacks is_stop (spaced words)
words_free [] h = tt
words_free (word ∷ words) h = all_append (λ b. is_stop b ≡ false) (32 ∷ word) (spaced words) (refl, h.0) (words_free words h.1)

-- a byte that is no stop is neither of both
no_equals : (b : ℕ) → is_stop b ≡ false → (b == 61) ≡ false
no_equals b h = grind (arith, nat_tests)

no_line : (b : ℕ) → is_stop b ≡ false → (b == 10) ≡ false
no_line b h = grind (arith, nat_tests)

other : (b : ℕ) → b ≢ 10 → (b == 10) ≡ false
other b h = elim (eqb_tells b 10) [ inl same ↦ absurd (h same.1) | inr apart ↦ apart.0 ]

-- the text of a value
abbrev value_text : List ℕ → List ℕ
value_text v = spaced (value_words v)

value_free : (v : List ℕ) → AllByRecursion (λ b. b ≢ 10) v → Lacks (λ b. b == 10) (value_text v)
value_free [] h = tt
value_free (x ∷ v) h = all_append (λ b. (b == 10) ≡ false) (32 ∷ x ∷ v) [] (refl, weaker (λ b. b ≢ 10) (λ b. (b == 10) ≡ false) other (x ∷ v) h) tt

value_text_injective : (v w : List ℕ) → value_text v ≡ value_text w → v ≡ w
value_text_injective [] [] e = refl
value_text_injective [] (y ∷ w) e = absurd (let f = e in cc)
value_text_injective (x ∷ v) [] e = absurd (let f = e in cc)
value_text_injective (x ∷ v) (y ∷ w) e = sym (append-nil (x ∷ v)) ∙ tail_same 32 32 _ _ e ∙ append-nil (y ∷ w)

-- the words of an edit's answer, after ` =`
abbrev answer_text : EditReply → List ℕ
answer_text a = spaced (codes "=" ∷ edit_reply_words a)

line_free : (v : List ℕ) (a : EditReply) → IsLine v → Lacks (λ b. b == 10) (value_text v ++ answer_text a)
line_free v a h =
    all_append (λ b. (b == 10) ≡ false) (value_text v) (answer_text a) (value_free v (recursion_from_All (λ b. b ≢ 10) v h))
    (refl, (refl, weaker (λ b. is_stop b ≡ false) (λ b. (b == 10) ≡ false) no_line (spaced (edit_reply_words a)) (words_free (edit_reply_words a) (answer_free a))))

words_after : (a : EditReply) → Lacks (λ b. b == 61) (spaced (edit_reply_words a))
words_after a = weaker (λ b. is_stop b ≡ false) (λ b. (b == 61) ≡ false) no_equals (spaced (edit_reply_words a)) (words_free (edit_reply_words a) (answer_free a))

parted : (v : List ℕ) (a : EditReply) → value_text v ++ answer_text a ≡ (value_text v ++ 32 ∷ []) ++ 61 ∷ spaced (edit_reply_words a)
parted v a = sym (append_assoc (value_text v) (32 ∷ []) (61 ∷ spaced (edit_reply_words a)))

pub value_told : (v w : List ℕ) (a b : EditReply) (t u : List ℕ) → IsLine v → IsLine w
    → spaced (value_words v) ++ (spaced (codes "=" ∷ edit_reply_words a) ++ 10 ∷ t) ≡ spaced (value_words w) ++ (spaced (codes "=" ∷ edit_reply_words b) ++ 10 ∷ u) → v ≡ w
value_told v w a b t u s r e =
    let whole = append_assoc (value_text v) (answer_text a) (10 ∷ t) ∙ e ∙ sym (append_assoc (value_text w) (answer_text b) (10 ∷ u)) in
    let line = first_split (λ b. b == 10) (value_text v ++ answer_text a) (value_text w ++ answer_text b) (10 ∷ t) (10 ∷ u) (line_free v a s) (line_free w b r) refl refl whole in
    let parts = last_split 61 (value_text v ++ 32 ∷ []) (value_text w ++ 32 ∷ []) (spaced (edit_reply_words a)) (spaced (edit_reply_words b)) (words_after a) (words_after b) (sym (parted v a) ∙ line.0 ∙ parted w b) in
    value_text_injective v w (last_same (value_text v) (value_text w) 32 32 parts.0).0
