-- An entry is told by its line, where the state before it is known.
use Rattle.std.proofs.Common.{◌≡◌, ℕ, List, [], ◌∷◌, ◌++◌, length, refl, ap, ap₂, sym, ◌∙◌, subst, arith, append_assoc}
use Rattle.std.specs.Fmt.{decimal}
use Rattle.std.proofs.lemmas.List.Elements.{All-contains}
use Rattle.pl_edit.specs.declared.edit.Edit.{Edit}
use Rattle.pl_edit.specs.declared.reply.EditReply.{EditReply}
use Rattle.pl_ports.specs.declared.gate.Actor.{Actor}
use Rattle.pl_ports.specs.declared.gate.Actor.TheVariants.{Session, Worker}
use Rattle.pl_tech.specs.Technology.{Meaning, IsLawful}
use Rattle.pl_machine.specs.declared.entry.Command.{Command}
use Rattle.pl_machine.specs.declared.entry.What.{What}
use Rattle.pl_machine.specs.declared.entry.What.TheVariants.{Call, Start, Finish, Late, Bye}
use Rattle.pl_machine.specs.declared.entry.Entry.{Entry}
use Rattle.pl_machine.specs.Machine.{Machine, IsActor, Allows}
use Rattle.pl_transcript.specs.Words.{spaced}
use Rattle.pl_transcript.specs.Entries.{actor_word, what_words, entry_text}
use Rattle.pl_spelled.specs.Script.{IsSpelled, AreOfOneScript, IsCallAmong}
use Rattle.pl_spelled.proofs.Splitting.{Lacks, is_end, head_same, tail_same, cancel, next_word}
use Rattle.pl_spelled.proofs.Numbers.{decimal_solid, number_told}
use Rattle.pl_spelled.proofs.Steps.{IsSpelledWhat, ShareBlocksWhat, step_told}

actor_solid : (a : Actor) → Lacks is_end (actor_word a)
actor_solid (Session i) = (refl, decimal_solid i)
actor_solid (Worker k) = (refl, decimal_solid k)

actor_told : (a b : Actor) → IsActor a → IsActor b → actor_word a ≡ actor_word b → a ≡ b
actor_told (Session i) (Session j) s t e = ap Session (number_told i j (omega (arith, s.1)) (omega (arith, t.1)) (tail_same 115 115 _ _ e))
actor_told (Session i) (Worker k) s t e = absurd (let f : 115 ≡ 119 = head_same 115 119 _ _ e in omega (arith, f))
actor_told (Worker k) (Session j) s t e = absurd (let f : 119 ≡ 115 = head_same 119 115 _ _ e in omega (arith, f))
actor_told (Worker k) (Worker l) s t e = ap Worker (number_told k l (omega (arith, s.1)) (omega (arith, t.1)) (tail_same 119 119 _ _ e))

-- the line of an entry, and what follows it
pub entry_parts : {P O T J B : Type 0} (m : Meaning P Edit EditReply O) (n : ℕ) (e : Entry T P Edit EditReply O J B) (t : List ℕ)
    → entry_text m n e ++ t ≡ decimal n ++ (spaced (actor_word e.actor ∷ what_words m e.what) ++ 10 ∷ t)
entry_parts m n e t =
    append_assoc (decimal n ++ spaced (actor_word e.actor ∷ what_words m e.what)) (10 ∷ []) t
    ∙ append_assoc (decimal n) (spaced (actor_word e.actor ∷ what_words m e.what)) (10 ∷ t)

module _ {P O : Type 0} (m : Meaning P Edit EditReply O) {T J B : Type 0} where
  spelled_what : (commands : List (Command Edit)) (w : What T P Edit EditReply O J B) → AreOfOneScript commands → IsCallAmong commands w → IsSpelledWhat m w
  spelled_what commands (Call c r) script h = All-contains IsSpelled commands c script.spelled h
  spelled_what commands w script h = tt

  shared_what : (commands : List (Command Edit)) (w v : What T P Edit EditReply O J B) → AreOfOneScript commands → IsCallAmong commands w → IsCallAmong commands v → ShareBlocksWhat m w v
  shared_what commands (Call c r) (Call d q) script h k = λ a b p q name. script.one_block c d a b h k p q name
  shared_what commands w v script h k = tt

  acting : (st : Machine P) (a : Actor) (w : What T P Edit EditReply O J B) → Allows m st a w → IsActor a
  acting st (Session i) (Call c r) h = (h.0.from_1, h.0.to_16)
  acting st (Worker k) (Call c r) h = absurd h
  acting st a (Start slot epoch) h = h.actor_is
  acting st a (Finish slot epoch) h = h.actor_is
  acting st a (Late slot since now) h = h.actor_is
  acting st (Session i) Bye h = (h.from_1, h.to_16)
  acting st (Worker k) Bye h = absurd h

  joined : (e f : Entry T P Edit EditReply O J B) → e.actor ≡ f.actor → e.what ≡ f.what → e ≡ f
  joined e f a w = ap₂ (λ x y. let r : Entry T P Edit EditReply O J B = record { actor = x; what = y } in r) a w

  -- entries of a script's commands that the machine may make now, under one number, are told by their lines
  pub entry_told : IsLawful m → (st : Machine P) (commands : List (Command Edit)) (n : ℕ) (e f : Entry T P Edit EditReply O J B) (t u : List ℕ)
      → length st.modes ≡ 100 → AreOfOneScript commands
      → Allows m st e.actor e.what → Allows m st f.actor f.what → IsCallAmong commands e.what → IsCallAmong commands f.what
      → entry_text m n e ++ t ≡ entry_text m n f ++ u → e ≡ f
  entry_told laws st commands n e f t u long script may can is other same =
      let line = cancel (decimal n) _ _ (sym (entry_parts m n e t) ∙ same ∙ entry_parts m n f u) in
      let word = next_word (actor_word e.actor) (actor_word f.actor) (what_words m e.what) (what_words m f.what) (10 ∷ t) (10 ∷ u) (actor_solid e.actor) (actor_solid f.actor) refl refl line in
      let actor = actor_told e.actor f.actor (acting st e.actor e.what may) (acting st f.actor f.what can) word.0 in
      let can' = subst (λ a. Allows m st a f.what) (sym actor) can in
      let what =
      step_told m laws st e.actor e.what f.what t u long may can' (spelled_what commands e.what script is) (spelled_what commands f.what script other)
      (shared_what commands e.what f.what script is other) word.1 in
      joined e f actor what
