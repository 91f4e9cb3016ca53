-- What an actor did is told by its words, where the state before it is known.
use Rattle.std.proofs.Common.{◌≡◌, ℕ, true, false, List, [], ◌∷◌, ◌++◌, length, codes, refl, ap, ap₂, sym, ◌∙◌, subst, true≢false}
use Rattle.std.specs.Str.{bytes_eq}
use Rattle.std.specs.Fmt.{decimal}
use Rattle.std.proofs.lemmas.Slice.Eq.{bytes_eq-Decides}
use Rattle.std.proofs.lemmas.List.Elements.{recursion_from_All}
use Rattle.pl_edit.specs.declared.edit.Edit.{Edit}
use Rattle.pl_edit.specs.declared.edit.Edit.TheVariants as edit
use Rattle.pl_edit.specs.declared.reply.EditReply.{EditReply}
use Rattle.pl_ports.specs.declared.gate.Actor.{Actor}
use Rattle.pl_ports.specs.declared.gate.Actor.TheVariants.{Session, Worker}
use Rattle.pl_tech.specs.Technology.{Meaning, IsLawful, is_blank}
use Rattle.pl_machine.specs.declared.entry.Command.{Command}
use Rattle.pl_machine.specs.declared.entry.Command.TheVariants as command
use Rattle.pl_machine.specs.declared.entry.Reply.{Reply}
use Rattle.pl_machine.specs.declared.entry.What.{What}
use Rattle.pl_machine.specs.declared.entry.What.TheVariants.{Call, Start, Finish, Late, Bye}
use Rattle.pl_machine.specs.Machine.{Machine, Allows, Replies, epoch_of}
use Rattle.pl_machine.proofs.Replies.{one_reply, some_same}
use Rattle.pl_transcript.specs.Words.{spaced}
use Rattle.pl_transcript.specs.Commands.{command_words}
use Rattle.pl_transcript.specs.Replies.{reply_words}
use Rattle.pl_transcript.specs.Entries.{what_words}
use Rattle.pl_spelled.specs.Script.{IsSpelled}
use Rattle.pl_spelled.proofs.Splitting.{Lacks, is_end, AreSolid, weaker, next_word}
use Rattle.pl_spelled.proofs.Words.{literal_solid, no_end, front_words, front_solid}
use Rattle.pl_spelled.proofs.Commands.{Says, ShareBlocks, first_of, rest_of, verb_of, verb_first}
use Rattle.pl_spelled.proofs.Calls.{call_told}

says_same : (a b : List ℕ) → a ≡ b → Says (bytes_eq a b)
says_same a b e = subst Says (sym ((bytes_eq-Decides a b).1 e)) tt

-- no command's first word is that of another step
abbrev IsNoStep : List ℕ → Type 0
IsNoStep verb = ¬ Says (bytes_eq verb (codes "start")) × ¬ Says (bytes_eq verb (codes "done")) × ¬ Says (bytes_eq verb (codes "late")) × ¬ Says (bytes_eq verb (codes "bye"))

command_no_step : (c : Command Edit) → IsNoStep (verb_of c)
command_no_step (command.Edit (edit.Ini block)) = (λ h. h, λ h. h, λ h. h, λ h. h)
command_no_step c = (λ h. h, λ h. h, λ h. h, λ h. h)

first_solid : (words : List (List ℕ)) → AreSolid words → Lacks is_end (first_of words)
first_solid [] h = tt
first_solid (word ∷ words) h = h.0

no_blank : (b : ℕ) → is_blank b ≡ false → is_end b ≡ false
no_blank b h = no_end b (λ e. true≢false (sym (ap is_blank e) ∙ h)) (λ e. true≢false (sym (ap is_blank e) ∙ h))

slot_solid : {P E R O : Type 0} (m : Meaning P E R O) → IsLawful m → (slot : ℕ) → Lacks is_end (m.name slot)
slot_solid m laws slot = weaker (λ b. is_blank b ≡ false) (λ b. is_end b ≡ false) no_blank (m.name slot) (recursion_from_All (λ b. is_blank b ≡ false) (m.name slot) (laws.name_solid slot))

slot_told : {P E R O : Type 0} (m : Meaning P E R O) (laws : IsLawful m) (p : P) (slot other : ℕ) (ws vs : List (List ℕ)) (t u : List ℕ) → m.present p slot ≡ true
    → spaced (m.name slot ∷ ws) ++ 10 ∷ t ≡ spaced (m.name other ∷ vs) ++ 10 ∷ u → slot ≡ other
slot_told m laws p slot other ws vs t u present e =
    let name = next_word (m.name slot) (m.name other) ws vs (10 ∷ t) (10 ∷ u) (slot_solid m laws slot) (slot_solid m laws other) refl refl e in
    laws.name_apart slot other (laws.name_present p slot present) name.0

module _ {P O : Type 0} (m : Meaning P Edit EditReply O) {T J B : Type 0} where
  abbrev verb_text : What T P Edit EditReply O J B → List ℕ
  verb_text (Call c r) = verb_of c
  verb_text (Start slot epoch) = codes "start"
  verb_text (Finish slot epoch) = codes "done"
  verb_text (Late slot since now) = codes "late"
  verb_text Bye = codes "bye"

  -- the words after the first
  abbrev more_words : What T P Edit EditReply O J B → List (List ℕ)
  more_words (Call c r) = rest_of (command_words c) ++ codes "=" ∷ reply_words m r
  more_words (Start slot epoch) = m.name slot ∷ decimal epoch ∷ []
  more_words (Finish slot epoch) = m.name slot ∷ decimal epoch ∷ []
  more_words (Late slot since now) = m.name slot ∷ decimal since ∷ decimal now ∷ []
  more_words Bye = []

  words_split : (w : What T P Edit EditReply O J B) → what_words m w ≡ verb_text w ∷ more_words w
  words_split (Call c r) = ap (λ ws. ws ++ codes "=" ∷ reply_words m r) (verb_first c)
  words_split (Start slot epoch) = refl
  words_split (Finish slot epoch) = refl
  words_split (Late slot since now) = refl
  words_split Bye = refl

  -- the command of a call is spelled as a script's
  abbrev pub IsSpelledWhat : What T P Edit EditReply O J B → Type 0
  IsSpelledWhat (Call c r) = IsSpelled c
  IsSpelledWhat w = Unit {0}

  -- blocks of one name in two calls are one block
  abbrev pub ShareBlocksWhat : What T P Edit EditReply O J B → What T P Edit EditReply O J B → Type 0
  ShareBlocksWhat (Call c r) (Call d q) = ShareBlocks c d
  ShareBlocksWhat w v = Unit {0}

  verb_solid : (w : What T P Edit EditReply O J B) → IsSpelledWhat w → Lacks is_end (verb_text w)
  verb_solid (Call c r) s = first_solid (front_words c) (front_solid c s)
  verb_solid (Start slot epoch) s = literal_solid (codes "start") refl
  verb_solid (Finish slot epoch) s = literal_solid (codes "done") refl
  verb_solid (Late slot since now) s = literal_solid (codes "late") refl
  verb_solid Bye s = literal_solid (codes "bye") refl

  -- the texts of two steps are equal
  abbrev pub SameText : What T P Edit EditReply O J B → What T P Edit EditReply O J B → List ℕ → List ℕ → Type 0
  SameText w v t u = spaced (what_words m w) ++ 10 ∷ t ≡ spaced (what_words m v) ++ 10 ∷ u

  verbs_same : (w v : What T P Edit EditReply O J B) (t u : List ℕ) → IsSpelledWhat w → IsSpelledWhat v → SameText w v t u
      → (verb_text w ≡ verb_text v) × (spaced (more_words w) ++ 10 ∷ t ≡ spaced (more_words v) ++ 10 ∷ u)
  verbs_same w v t u s r e =
      next_word (verb_text w) (verb_text v) (more_words w) (more_words v) (10 ∷ t) (10 ∷ u) (verb_solid w s) (verb_solid v r) refl refl
      (ap (λ ws. spaced ws ++ 10 ∷ t) (sym (words_split w)) ∙ e ∙ ap (λ ws. spaced ws ++ 10 ∷ u) (words_split v))

  module _ (laws : IsLawful m) (st : Machine P) where
    replies_of : (a : Actor) (c : Command Edit) (r : Reply T P Edit EditReply O J B) → Allows m st a (Call c r) → Replies m st c r
    replies_of (Session i) c r h = h.1
    replies_of (Worker k) c r h = absurd h

    calls_same : (c d : Command Edit) (r q : Reply T P Edit EditReply O J B) → length st.modes ≡ 100 → Replies m st c r → Replies m st d q → c ≡ d → ◌≡◌ {A = What T P Edit EditReply O J B} (Call c r) (Call d q)
    calls_same c d r q long h k same =
        let reply : r ≡ q = one_reply m st c r q long h (subst (λ x. Replies m st x q) (sym same) k) in
        cc

    what_told : (a : Actor) (w v : What T P Edit EditReply O J B) (t u : List ℕ) → length st.modes ≡ 100 → Allows m st a w → Allows m st a v
        → IsSpelledWhat w → IsSpelledWhat v → ShareBlocksWhat w v → SameText w v t u → verb_text w ≡ verb_text v
        → spaced (more_words w) ++ 10 ∷ t ≡ spaced (more_words v) ++ 10 ∷ u → w ≡ v
    what_told a (Call c r) (Call d q) t u long h k s p one e verb more =
        calls_same c d r q long (replies_of a c r h) (replies_of a d q k)
        (call_told m st c d r q t u s p one (replies_of a c r h) (replies_of a d q k) (says_same _ _ verb) e)
    what_told a (Start slot epoch) (Start other later) t u long h k s p one e verb more =
        let same = slot_told m laws st.applied slot other (decimal epoch ∷ []) (decimal later ∷ []) t u h.can.ready.present more in
        let at : epoch ≡ later = sym h.current ∙ ap (epoch_of st) same ∙ k.current in
        cc
    what_told a (Finish slot epoch) (Finish other later) t u long h k s p one e verb more =
        let same = some_same _ _ (sym h.pending ∙ k.pending) in
        ap₂ Finish (ap (λ x. x.slot) same) (ap (λ x. x.epoch) same)
    what_told a (Late slot since now) (Late other later then) t u long h k s p one e verb more =
        let same = some_same _ _ (sym h.pending ∙ k.pending) in
        let slots : slot ≡ other = ap (λ x. x.slot) same in
        let starts : since ≡ later = ap (λ x. x.epoch) same in
        let at : now ≡ then = sym h.current ∙ ap (epoch_of st) slots ∙ k.current in
        cc
    what_told a Bye Bye t u long h k s p one e verb more = refl
    what_told a (Call c r) (Start slot epoch) t u long h k s p one e verb more = absurd ((command_no_step c).0 (says_same _ _ verb))
    what_told a (Call c r) (Finish slot epoch) t u long h k s p one e verb more = absurd ((command_no_step c).1 (says_same _ _ verb))
    what_told a (Call c r) (Late slot since now) t u long h k s p one e verb more = absurd ((command_no_step c).2 (says_same _ _ verb))
    what_told a (Call c r) Bye t u long h k s p one e verb more = absurd ((command_no_step c).3 (says_same _ _ verb))
    what_told a (Start slot epoch) (Call c r) t u long h k s p one e verb more = absurd ((command_no_step c).0 (says_same _ _ (sym verb)))
    what_told a (Finish slot epoch) (Call c r) t u long h k s p one e verb more = absurd ((command_no_step c).1 (says_same _ _ (sym verb)))
    what_told a (Late slot since now) (Call c r) t u long h k s p one e verb more = absurd ((command_no_step c).2 (says_same _ _ (sym verb)))
    what_told a Bye (Call c r) t u long h k s p one e verb more = absurd ((command_no_step c).3 (says_same _ _ (sym verb)))
    what_told a w v t u long h k s p one e verb more = absurd (says_same (verb_text w) (verb_text v) verb)

    -- steps of one actor that may be made now and have one text are one step
    pub step_told : (a : Actor) (w v : What T P Edit EditReply O J B) (t u : List ℕ) → length st.modes ≡ 100 → Allows m st a w → Allows m st a v
        → IsSpelledWhat w → IsSpelledWhat v → ShareBlocksWhat w v → SameText w v t u → w ≡ v
    step_told a w v t u long may can s p one e =
        let verbs = verbs_same w v t u s p e in
        what_told a w v t u long may can s p one e verbs.0 verbs.1
