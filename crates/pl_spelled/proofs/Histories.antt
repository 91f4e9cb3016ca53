-- A history is told by its transcript.
use Rattle.std.proofs.Common.{◌≡◌, ℕ, suc, List, [], ◌∷◌, ◌++◌, length, refl, ap, sym, ◌∙◌, subst, arith, append_assoc, length-set}
use Rattle.std.specs.Fmt.{decimal}
use Rattle.std.specs.List.{AllByRecursion}
use Rattle.std.proofs.lemmas.List.Elements.{recursion_from_All}
use Rattle.std.proofs.lemmas.List.{length-replicate}
use Rattle.pl_edit.specs.declared.edit.Edit.{Edit}
use Rattle.pl_edit.specs.declared.reply.EditReply.{EditReply}
use Rattle.pl_ports.specs.declared.gate.Actor.{Actor}
use Rattle.pl_tech.specs.Technology.{Meaning, IsLawful}
use Rattle.pl_machine.specs.Each.{length-each_slot}
use Rattle.pl_machine.specs.declared.entry.Command.{Command}
use Rattle.pl_machine.specs.declared.entry.Command.TheVariants as command
use Rattle.pl_machine.specs.declared.entry.What.{What}
use Rattle.pl_machine.specs.declared.entry.What.TheVariants.{Call, Start, Finish, Late, Bye}
use Rattle.pl_machine.specs.declared.entry.Mode.TheVariants.{Invalid}
use Rattle.pl_machine.specs.declared.entry.Entry.{Entry}
use Rattle.pl_machine.specs.Machine.{Machine, blank, next, after_command}
use Rattle.pl_machine.specs.History.{IsRunFrom, IsLegal}
use Rattle.pl_transcript.specs.Entries.{entry_text, entries_text, end_text, transcript}
use Rattle.pl_spelled.specs.Script.{AreOfOneScript, IsCallAmong, CallsAmong}
use Rattle.pl_spelled.proofs.Splitting.{cancel}
use Rattle.pl_spelled.proofs.Numbers.{decimal_digits, not_first}
use Rattle.pl_spelled.proofs.Entries.{entry_parts, entry_told}

long_command : {P E R O : Type 0} (m : Meaning P E R O) (st : Machine P) (c : Command E) → length st.modes ≡ 100 → length (after_command m st c).modes ≡ 100
long_command m st (command.Edit e) long = long
long_command m st command.Apply long = length-each_slot _
long_command m st command.Cancel long = length-each_slot _
long_command m st command.Export long = long
long_command m st command.Status long = long
long_command m st (command.After s n) long = long

-- a step keeps a mode for each slot
long_next : {P E R O T J B : Type 0} (m : Meaning P E R O) (st : Machine P) (a : Actor) (w : What T P E R O J B) → length st.modes ≡ 100 → length (next m st a w).modes ≡ 100
long_next m st a (Call c r) long = long_command m st c long
long_next m st a (Start slot epoch) long = length-set st.modes slot _ ∙ long
long_next m st a (Finish slot epoch) long = length-set st.modes slot _ ∙ long
long_next m st a (Late slot since now) long = long
long_next m st a Bye long = long

module _ {P O : Type 0} (m : Meaning P Edit EditReply O) (laws : IsLawful m) {T J B : Type 0} (commands : List (Command Edit)) where
  -- a line begins with a digit, and the last one does not
  no_last : {A : Type 0} (n entries runs : ℕ) (e : Entry T P Edit EditReply O J B) (es : List (Entry T P Edit EditReply O J B)) (t : List ℕ)
      → entries_text m n (e ∷ es) ++ t ≡ end_text entries runs → A
  no_last n entries runs e es t same =
      not_first 101 32 (decimal n) _ _ (λ d. omega (arith, d)) (omega arith) (decimal_digits n)
      (sym (entry_parts m n e (entries_text m (suc n) es ++ t)) ∙ sym (append_assoc (entry_text m n e) (entries_text m (suc n) es) t) ∙ same)

  both_told : (e f : Entry T P Edit EditReply O J B) (es fs : List (Entry T P Edit EditReply O J B)) → e ≡ f → es ≡ fs → e ∷ es ≡ f ∷ fs
  both_told e f es fs p q = cc

  histories_told : (st : Machine P) (n entries runs others count : ℕ) (history other : List (Entry T P Edit EditReply O J B)) → length st.modes ≡ 100 → AreOfOneScript commands
      → IsRunFrom m st history → IsRunFrom m st other
      → AllByRecursion (λ e. IsCallAmong commands e.what) history → AllByRecursion (λ e. IsCallAmong commands e.what) other
      → entries_text m n history ++ end_text entries runs ≡ entries_text m n other ++ end_text count others → history ≡ other
  histories_told st n entries runs others count [] [] long script run going among too same = refl
  histories_told st n entries runs others count [] (f ∷ fs) long script run going among too same = no_last n entries runs f fs (end_text count others) (sym same)
  histories_told st n entries runs others count (e ∷ es) [] long script run going among too same = no_last n count others e es (end_text entries runs) same
  histories_told st n entries runs others count (e ∷ es) (f ∷ fs) long script run going among too same =
      let first = sym (append_assoc (entry_text m n e) (entries_text m (suc n) es) (end_text entries runs)) ∙ same ∙ append_assoc (entry_text m n f) (entries_text m (suc n) fs) (end_text count others) in
      let entry = entry_told m laws st commands n e f _ _ long script run.0 going.0 among.0 too.0 first in
      let rest = cancel (entry_text m n e) _ _ (first ∙ ap (λ x. entry_text m n x ++ (entries_text m (suc n) fs ++ end_text count others)) (sym entry)) in
      let goes = subst (λ x. IsRunFrom m (next m st x.actor x.what) fs) (sym entry) going.1 in
      both_told e f es fs entry (histories_told (next m st e.actor e.what) (suc n) entries runs others count es fs (long_next m st e.actor e.what long) script run.1 goes among.1 too.1 rest)

  pub transcripts_told : (history other : List (Entry T P Edit EditReply O J B)) (runs others : ℕ) → AreOfOneScript commands → IsLegal m history → IsLegal m other
      → CallsAmong commands history → CallsAmong commands other → transcript m history runs ≡ transcript m other others → history ≡ other
  transcripts_told history other runs others script legal lawful among too same =
      histories_told (blank m) 1 (length history) runs others (length other) history other (length-replicate 100 Invalid) script legal lawful
      (recursion_from_All (λ e. IsCallAmong commands e.what) history among) (recursion_from_All (λ e. IsCallAmong commands e.what) other too) same
