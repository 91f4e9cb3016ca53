-- The texts of entries one after another.
use Rattle.std.proofs.Common.{◌≡◌, ℕ, suc, ◌+◌, ◌<◌, ◌≤◌, List, [], ◌∷◌, ◌++◌, length, take, drop, get_or, ap, sym, refl, subst, ◌∙◌, append_assoc, length-append, arith, Option, Result, Ok, Err, OnOk}
use Rattle.std.specs.Io.KnownBytes.{Appends}
use Rattle.std.specs.List.{concat}
use Rattle.std.proofs.lemmas.List.{append-nil, take_more, take-append-drop, length-take-le, take_all}
use Rattle.pl_ports.specs.Causes.{AppendsFront}
use Rattle.pl_ports.specs.Fronts.{appends_more, front_after, front_of_first, concat-append}
use Rattle.pl_tech.specs.Technology.{Meaning}
use Rattle.pl_machine.specs.declared.entry.Entry.{Entry}
use Rattle.pl_edit.specs.declared.edit.Edit.{Edit}
use Rattle.pl_edit.specs.declared.reply.EditReply.{EditReply}
use Rattle.pl_transcript.specs.Entries.{entry_text, entries_text, end_text, transcript, entry_lines, lines}

abbrev Bytes : Type 0
Bytes = List ℕ

module _ {P O : Type 0} (m : Meaning P Edit EditReply O) {T J B : Type 0} where
  entries_append : (n : ℕ) (xs ys : List (Entry T P Edit EditReply O J B)) → entries_text m n (xs ++ ys) ≡ entries_text m n xs ++ entries_text m (n + length xs) ys
  entries_append n [] ys = let e : n ≡ n + 0 = omega arith in ap (λ k. entries_text m k ys) e
  entries_append n (x ∷ xs) ys =
      let e : suc n + length xs ≡ n + suc (length xs) = omega arith in
      ap (λ l. entry_text m n x ++ l) (entries_append (suc n) xs ys ∙ ap (λ k. entries_text m (suc n) xs ++ entries_text m k ys) e)
      ∙ sym (append_assoc (entry_text m n x) (entries_text m (suc n) xs) (entries_text m (n + suc (length xs)) ys))

  -- the entries before one, and it
  entries_more : (xs : List (Entry T P Edit EditReply O J B)) (i : ℕ) (d : Entry T P Edit EditReply O J B) → i < length xs → entries_text m 1 (take (i + 1) xs) ≡ entries_text m 1 (take i xs) ++ entry_text m (i + 1) (get_or xs i d)
  entries_more xs i d h =
      let count : 1 + length (take i xs) ≡ i + 1 = omega (arith, length-take-le i xs (omega arith)) in
      ap (entries_text m 1) (take_more xs i d h) ∙ entries_append 1 (take i xs) (get_or xs i d ∷ [])
      ∙ ap (λ k. entries_text m 1 (take i xs) ++ (entry_text m k (get_or xs i d) ++ [])) count
      ∙ ap (λ l. entries_text m 1 (take i xs) ++ l) (append-nil (entry_text m (i + 1) (get_or xs i d)))

  -- the entries before one, it, and what comes after it
  entries_at : (runs : ℕ) (xs : List (Entry T P Edit EditReply O J B)) (i : ℕ) (d : Entry T P Edit EditReply O J B) → i < length xs → transcript m xs runs ≡ entries_text m 1 (take i xs) ++ (entry_text m (i + 1) (get_or xs i d) ++ (entries_text m (1 + length (take (i + 1) xs)) (drop (i + 1) xs) ++ end_text (length xs) runs))
  entries_at runs xs i d h =
      let rest = entries_text m (1 + length (take (i + 1) xs)) (drop (i + 1) xs) in
      let last = end_text (length xs) runs in
      ap (λ l. l ++ last) (ap (entries_text m 1) (sym (take-append-drop (i + 1) xs)) ∙ entries_append 1 (take (i + 1) xs) (drop (i + 1) xs) ∙ ap (λ l. l ++ rest) (entries_more xs i d h))
      ∙ append_assoc (entries_text m 1 (take i xs) ++ entry_text m (i + 1) (get_or xs i d)) rest last
      ∙ append_assoc (entries_text m 1 (take i xs)) (entry_text m (i + 1) (get_or xs i d)) (rest ++ last)

  -- one entry more was appended
  pub put_more : (xs : List (Entry T P Edit EditReply O J B)) (i : ℕ) (x : Entry T P Edit EditReply O J B) (a b c : Option Bytes) → x ≡ get_or xs i x → i < length xs → Appends a b (entries_text m 1 (take i xs)) → Appends b c (entry_text m (i + 1) x) → Appends a c (entries_text m 1 (take (i + 1) xs))
  put_more xs i x a b c e h before one =
      subst (Appends a c) (ap (λ y. entries_text m 1 (take i xs) ++ entry_text m (i + 1) y) e ∙ sym (entries_more xs i x h)) (appends_more a b c (entries_text m 1 (take i xs)) (entry_text m (i + 1) x) before one)

  -- a stop in an entry
  pub stop_in_entry : (runs : ℕ) (xs : List (Entry T P Edit EditReply O J B)) (i : ℕ) (x : Entry T P Edit EditReply O J B) (a b c : Option Bytes) → x ≡ get_or xs i x → i < length xs → Appends a b (entries_text m 1 (take i xs)) → AppendsFront b c (entry_text m (i + 1) x) → AppendsFront a c (transcript m xs runs)
  stop_in_entry runs xs i x a b c e h before one =
      let rest = entries_text m (1 + length (take (i + 1) xs)) (drop (i + 1) xs) ++ end_text (length xs) runs in
      subst (AppendsFront a c) (ap (λ y. entries_text m 1 (take i xs) ++ (entry_text m (i + 1) y ++ rest)) e ∙ sym (entries_at runs xs i x h))
      (front_after a b c (entries_text m 1 (take i xs)) (entry_text m (i + 1) x ++ rest) before (front_of_first b c (entry_text m (i + 1) x) rest one))

  all_entries : (xs : List (Entry T P Edit EditReply O J B)) (i : ℕ) → length xs ≤ i → entries_text m 1 (take i xs) ≡ entries_text m 1 xs
  all_entries xs i h = ap (entries_text m 1) (take_all i xs h)

  -- all entries and the last line
  pub put_last : (runs : ℕ) (xs : List (Entry T P Edit EditReply O J B)) (i n : ℕ) (a b c : Option Bytes) → length xs ≤ i → n ≡ length xs → Appends a b (entries_text m 1 (take i xs)) → Appends b c (end_text n runs) → Appends a c (transcript m xs runs)
  put_last runs xs i n a b c h e before one =
      appends_more a b c (entries_text m 1 xs) (end_text (length xs) runs) (subst (Appends a b) (all_entries xs i h) before) (subst (λ k. Appends b c (end_text k runs)) e one)

  -- a stop in the last line
  pub stop_in_last : (runs : ℕ) (xs : List (Entry T P Edit EditReply O J B)) (i n : ℕ) (a b c : Option Bytes) → length xs ≤ i → n ≡ length xs → Appends a b (entries_text m 1 (take i xs)) → AppendsFront b c (end_text n runs) → AppendsFront a c (transcript m xs runs)
  stop_in_last runs xs i n a b c h e before one =
      front_after a b c (entries_text m 1 xs) (end_text (length xs) runs) (subst (Appends a b) (all_entries xs i h) before) (subst (λ k. AppendsFront b c (end_text k runs)) e one)

pub on_ok : {T E : Type 0} (P Q : Type 0) (r : Result T E) → (P → Q) → OnOk r P → OnOk r Q
on_ok P Q (Ok x) f p = f p
on_ok P Q (Err x) f p = tt

-- Lines one after another.
module _ {P O : Type 0} (m : Meaning P Edit EditReply O) {T J B : Type 0} where
  entries_are_lines : (n : ℕ) (xs : List (Entry T P Edit EditReply O J B)) → entries_text m n xs ≡ concat (entry_lines m n xs)
  entries_are_lines n [] = refl
  entries_are_lines n (x ∷ xs) = ap (λ l. entry_text m n x ++ l) (entries_are_lines (suc n) xs)

  entry_lines_count : (n : ℕ) (xs : List (Entry T P Edit EditReply O J B)) → length (entry_lines m n xs) ≡ length xs
  entry_lines_count n [] = refl
  entry_lines_count n (x ∷ xs) = ap suc (entry_lines_count (suc n) xs)

  pub transcript_is_lines : (xs : List (Entry T P Edit EditReply O J B)) (runs : ℕ) → transcript m xs runs ≡ concat (lines m xs runs)
  transcript_is_lines xs runs =
      ap (λ l. l ++ end_text (length xs) runs) (entries_are_lines 1 xs) ∙ ap (λ l. concat (entry_lines m 1 xs) ++ l) (sym (append-nil (end_text (length xs) runs)))
      ∙ sym (concat-append (entry_lines m 1 xs) (end_text (length xs) runs ∷ []))

  pub lines_count : (xs : List (Entry T P Edit EditReply O J B)) (runs : ℕ) → length (lines m xs runs) ≡ length xs + 1
  lines_count xs runs = length-append (entry_lines m 1 xs) (end_text (length xs) runs ∷ []) ∙ ap (λ n. n + 1) (entry_lines_count 1 xs)
