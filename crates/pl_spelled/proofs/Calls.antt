-- A call's command is told by its line.
use Rattle.std.proofs.Common.{◌≡◌, ◌≢◌, ℕ, List, ◌∷◌, ◌++◌, codes, refl, ap, sym, ◌∙◌, append_assoc}
use Rattle.std.specs.Str.{bytes_eq}
use Rattle.std.proofs.lemmas.List.Concat.{flat_map-append}
use Rattle.std.proofs.lemmas.List.Elements.{All-nil}
use Rattle.pl_edit.specs.declared.edit.Edit.{Edit}
use Rattle.pl_edit.specs.declared.edit.Edit.TheVariants as edit
use Rattle.pl_edit.specs.declared.reply.EditReply.{EditReply}
use Rattle.pl_tech.specs.Technology.{Meaning}
use Rattle.pl_machine.specs.declared.entry.Command.{Command}
use Rattle.pl_machine.specs.declared.entry.Command.TheVariants as command
use Rattle.pl_machine.specs.declared.entry.Reply.{Reply}
use Rattle.pl_machine.specs.declared.entry.Reply.TheVariants as reply
use Rattle.pl_machine.specs.Machine.{Machine, Replies}
use Rattle.pl_transcript.specs.Words.{spaced}
use Rattle.pl_transcript.specs.Commands.{value_words, command_words}
use Rattle.pl_transcript.specs.Replies.{reply_words}
use Rattle.pl_spelled.specs.Script.{IsLine, IsSpelled}
use Rattle.pl_spelled.proofs.Splitting.{Begins, is_end, spaced_ends, same_words}
use Rattle.pl_spelled.proofs.Words.{front_words, value_of, words_parts, front_solid}
use Rattle.pl_spelled.proofs.Commands.{IsEdit, ShareBlocks, Says, verb_of, command_told}
use Rattle.pl_spelled.proofs.Values.{value_told}

spaced_append : (a b : List (List ℕ)) → spaced (a ++ b) ≡ spaced a ++ spaced b
spaced_append a b = flat_map-append (λ word. 32 ∷ word) a b

-- the words but the value, the value, and what follows
call_parts : (c : Command Edit) (words : List (List ℕ)) (t : List ℕ) → spaced (command_words c ++ words) ++ t ≡ spaced (front_words c) ++ (spaced (value_words (value_of c)) ++ (spaced words ++ t))
call_parts c words t =
    ap (λ ws. spaced (ws ++ words) ++ t) (words_parts c)
    ∙ ap (λ bs. bs ++ t) (spaced_append (front_words c ++ value_words (value_of c)) words)
    ∙ ap (λ bs. (bs ++ spaced words) ++ t) (spaced_append (front_words c) (value_words (value_of c)))
    ∙ append_assoc (spaced (front_words c) ++ spaced (value_words (value_of c))) (spaced words) t
    ∙ append_assoc (spaced (front_words c)) (spaced (value_words (value_of c))) (spaced words ++ t)

value_line : (c : Command Edit) → IsSpelled c → IsLine (value_of c)
value_line (command.Edit (edit.Set key value)) s = s.1
value_line (command.Edit (edit.Override place key value)) s = s.2
value_line c s = All-nil (λ b. b ≢ 10)

module _ {T P O J B : Type 0} (m : Meaning P Edit EditReply O) (st : Machine P) where
  -- what follows the words of a command but its value
  abbrev tail_text : Command Edit → Reply T P Edit EditReply O J B → List ℕ → List ℕ
  tail_text c r t = spaced (value_words (value_of c)) ++ (spaced (codes "=" ∷ reply_words m r) ++ 10 ∷ t)

  values_same : (c d : Command Edit) (r q : Reply T P Edit EditReply O J B) (t u : List ℕ) → IsEdit c → IsEdit d → IsSpelled c → IsSpelled d
      → Replies m st c r → Replies m st d q → tail_text c r t ≡ tail_text d q u → value_of c ≡ value_of d
  values_same (command.Edit e) (command.Edit f) (reply.Edited a) (reply.Edited b) t u i j s p h k same =
      value_told (value_of (command.Edit e)) (value_of (command.Edit f)) a b t u (value_line (command.Edit e) s) (value_line (command.Edit f) p) same
  values_same (command.Edit e) (command.Edit f) (reply.Edited a) q t u i j s p h k same = absurd k
  values_same (command.Edit e) (command.Edit f) r q t u i j s p h k same = absurd h
  values_same (command.Edit e) d r q t u i j s p h k same = absurd j
  values_same c d r q t u i j s p h k same = absurd i

  tail_ends : (c : Command Edit) (r : Reply T P Edit EditReply O J B) (t : List ℕ) → Begins is_end (tail_text c r t)
  tail_ends c r t = spaced_ends (value_words (value_of c)) _ (spaced_ends (codes "=" ∷ reply_words m r) (10 ∷ t) refl)

  pub call_told : (c d : Command Edit) (r q : Reply T P Edit EditReply O J B) (t u : List ℕ) → IsSpelled c → IsSpelled d → ShareBlocks c d
      → Replies m st c r → Replies m st d q → Says (bytes_eq (verb_of c) (verb_of d))
      → spaced (command_words c ++ codes "=" ∷ reply_words m r) ++ 10 ∷ t ≡ spaced (command_words d ++ codes "=" ∷ reply_words m q) ++ 10 ∷ u → c ≡ d
  call_told c d r q t u s p one h k verb e =
      let told = command_told c d s p one verb in
      let whole = sym (call_parts c (codes "=" ∷ reply_words m r) (10 ∷ t)) ∙ e ∙ call_parts d (codes "=" ∷ reply_words m q) (10 ∷ u) in
      let parts = same_words (front_words c) (front_words d) (tail_text c r t) (tail_text d q u) told.0 (front_solid c s) (front_solid d p) (tail_ends c r t) (tail_ends d q u) whole in
      told.1 parts.0 (λ i j. values_same c d r q t u i j s p h k parts.1)
