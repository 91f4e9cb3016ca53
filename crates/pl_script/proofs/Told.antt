-- Command lines as they are read.
use Rattle.std.proofs.Common.{◌≡◌, ℕ, ◌<◌, nat_lt, true, Option, Some, None, Result, Ok, Err, List, [], ◌∷◌, ◌⊎◌, inl, inr, refl, sym, ap, subst, ◌∙◌, arith}
use Rattle.std.specs.Option.{option_map, option_map_or, ok_or}
use Rattle.std.specs.Str.{bytes_eq}
use Rattle.std.proofs.lemmas.Bool.{cases_Bool, cond-true, cond-false}
use Rattle.std.proofs.lemmas.Bool.Decides.{nat_tests}
use Rattle.std.proofs.lemmas.Slice.Eq.{bytes_eq-Decides}
use Rattle.pl_edit.specs.Data.{Data}
use Rattle.pl_edit.specs.declared.edit.Edit.{Edit}
use Rattle.pl_machine.specs.declared.entry.Command.TheVariants as command
use Rattle.pl_script.specs.declared.fault.ScriptFault.{ScriptFault}
use Rattle.pl_script.specs.declared.fault.ScriptFault.TheVariants.{BadLine, UnknownCommand, BadSession, NoData, TooMany}
use Rattle.pl_script.specs.declared.script.Line.{Line}
use Rattle.pl_script.specs.declared.verb.Verb.{Verb}
use Rattle.pl_script.specs.declared.verb.Verb.TheVariants as verb
use Rattle.pl_script.specs.Outcomes.{and_then, mapped}
use Rattle.pl_script.specs.Lines.{words_of, after_word}
use Rattle.pl_script.specs.Forms.{is_name, is_whole, whole_of, session_of, byte_of, nm_of}
use Rattle.pl_script.specs.Orders.{Order, block_named, verb_text, verb_of, verbs, order_in, order_of}
use Rattle.pl_script.specs.Script.{counted, command_in, command_of}
use Rattle.pl_script.specs.Commands.{Asked, plain, with_block, behind, Asks, asks_load, asks_reload, asks_delete, asks_copy, asks_move, asks_drop, asks_turn, asks_set, asks_override, asks_unset, asks_ini, asks_apply, asks_export, asks_status, asks_cancel, asks_after, IsAsked, order, found, named, IsCommandLine, HasNoSession, HasNoCommand, IsOfSession, IsLineFault, no_session, no_command, no_form, no_such_session, no_block, too_many}
use Rattle.pl_script.proofs.Keeping.{found_passes, some_fact}

-- ---- what is asked for, as it is read

abbrev pub asked_said : List Data → Asked → Result Order ScriptFault
asked_said blocks (plain o) = Ok o
asked_said blocks (with_block name edit_of) = mapped (λ block. command.Edit (edit_of block)) (ok_or (block_named blocks name) NoData)
asked_said blocks (behind word calls) = ok_or (option_map (λ s. command.After s calls) (session_of word)) BadSession

asks_said : (blocks : List Data) (words : List (List ℕ)) (text : List ℕ) (asked : Asked) → Asks words text asked → order_of blocks words text ≡ asked_said blocks asked
asks_said blocks _ _ _ (asks_load name block text n b) = rw (n, b) refl
asks_said blocks _ _ _ (asks_reload place block text p e b) = rw (e, b) refl
asks_said blocks _ _ _ (asks_delete place text p e) = rw e refl
asks_said blocks _ _ _ (asks_copy place east north text p x y e f g) = rw (e, f, g) refl
asks_said blocks _ _ _ (asks_move place instance east north text p i x y e f g h) = rw (e, f, g, h) refl
asks_said blocks _ _ _ (asks_drop place instance text p i e f) = rw (e, f) refl
asks_said blocks _ _ _ (asks_turn place quarter text p q e f) = rw (e, f) refl
asks_said blocks _ _ _ (asks_set key text words) = refl
asks_said blocks _ _ _ (asks_override place key text words p e) = rw e refl
asks_said blocks _ _ _ (asks_unset place key text p e) = rw e refl
asks_said blocks _ _ _ (asks_ini block text b) = rw b refl
asks_said blocks _ _ _ (asks_apply text) = refl
asks_said blocks _ _ _ (asks_export text) = refl
asks_said blocks _ _ _ (asks_status text) = refl
asks_said blocks _ _ _ (asks_cancel text) = refl
asks_said blocks _ _ _ (asks_after session calls text n w e) = rw (e, w) refl

is_said : (blocks : List Data) (asked : Asked) (o : Order) → IsAsked blocks asked o → asked_said blocks asked ≡ Ok o
is_said blocks _ _ (order o) = refl
is_said blocks _ _ (found name edit_of block e) = ap (λ b. mapped (λ block. command.Edit (edit_of block)) (ok_or b NoData)) e
is_said blocks _ _ (named word calls session e) = ap (λ s. ok_or (option_map (λ s. command.After s calls) s) BadSession) e

-- an asked command is never a bad line

not_bad_block : (edit_of : Data → Edit) (o : Option Data) → ◌≡◌ {A = Result Order ScriptFault} (mapped (λ block. command.Edit (edit_of block)) (ok_or o NoData)) (Err BadLine) → ⊥
not_bad_block edit_of None e = absurd (cc)
not_bad_block edit_of (Some b) e = absurd (cc)

not_bad_session : (calls : ℕ) (o : Option ℕ) → ◌≡◌ {A = Result Order ScriptFault} (ok_or (option_map (λ s. command.After s calls) o) BadSession) (Err BadLine) → ⊥
not_bad_session calls None e = absurd (cc)
not_bad_session calls (Some s) e = absurd (cc)

not_bad : (blocks : List Data) (asked : Asked) → asked_said blocks asked ≡ Err BadLine → ⊥
not_bad blocks (plain o) e = absurd (cc)
not_bad blocks (with_block name edit_of) e = not_bad_block edit_of (block_named blocks name) e
not_bad blocks (behind word calls) e = not_bad_session calls (session_of word) e

-- ---- each command's words have its form, or the line is a bad one

pub record HasForm (words : List (List ℕ)) (text : List ℕ) : Type 0 where
  pub asked : Asked
  pub asks : Asks words text asked

choose : {X A : Type 0} (o : Option X) → ((x : X) → o ≡ Some x → A) → (o ≡ None → A) → A
choose None some none = none refl
choose (Some x) some none = some x refl

module _ (blocks : List Data) (text : List ℕ) where
  abbrev Form : Verb → List (List ℕ) → Type 0
  Form v words = HasForm (verb_text v ∷ words) text ⊎ (order_in blocks v words (after_word text) ≡ Err BadLine)

  form_load : (words : List (List ℕ)) → Form verb.Load words
  form_load (name ∷ block ∷ []) = elim (cases_Bool (is_name name)) [
    | inl n ↦ elim (cases_Bool (is_name block)) [
      | inl b ↦ inl (record { asked = _; asks = asks_load name block text n b })
      | inr b ↦ inr (rw (n, b) refl)
    ]
    | inr n ↦ inr (rw n refl)
  ]
  form_load [] = inr refl
  form_load (a ∷ []) = inr refl
  form_load (a ∷ b ∷ c ∷ words) = inr refl

  form_reload : (words : List (List ℕ)) → Form verb.Reload words
  form_reload (place ∷ block ∷ []) = choose (byte_of place)
      (λ p e. elim (cases_Bool (is_name block)) [
        | inl b ↦ inl (record { asked = _; asks = asks_reload place block text p e b })
        | inr b ↦ inr (rw (e, b) refl)
      ])
      (λ e. inr (rw e refl))
  form_reload [] = inr refl
  form_reload (a ∷ []) = inr refl
  form_reload (a ∷ b ∷ c ∷ words) = inr refl

  form_delete : (words : List (List ℕ)) → Form verb.Delete words
  form_delete (place ∷ []) = choose (byte_of place) (λ p e. inl (record { asked = _; asks = asks_delete place text p e })) (λ e. inr (rw e refl))
  form_delete [] = inr refl
  form_delete (a ∷ b ∷ words) = inr refl

  form_copy : (words : List (List ℕ)) → Form verb.Copy words
  form_copy (place ∷ east ∷ north ∷ []) = choose (byte_of place)
      (λ p e. choose (nm_of east) (λ x f. choose (nm_of north) (λ y g. inl (record { asked = _; asks = asks_copy place east north text p x y e f g })) (λ g. inr (rw (e, f, g) refl))) (λ f. inr (rw (e, f) refl)))
      (λ e. inr (rw e refl))
  form_copy [] = inr refl
  form_copy (a ∷ []) = inr refl
  form_copy (a ∷ b ∷ []) = inr refl
  form_copy (a ∷ b ∷ c ∷ d ∷ words) = inr refl

  form_move : (words : List (List ℕ)) → Form verb.Move words
  form_move (place ∷ instance ∷ east ∷ north ∷ []) = choose (byte_of place)
      (λ p e. choose (byte_of instance)
      (λ i k. choose (nm_of east) (λ x f. choose (nm_of north) (λ y g. inl (record { asked = _; asks = asks_move place instance east north text p i x y e k f g })) (λ g. inr (rw (e, k, f, g) refl))) (λ f. inr (rw (e, k, f) refl)))
      (λ k. inr (rw (e, k) refl)))
      (λ e. inr (rw e refl))
  form_move [] = inr refl
  form_move (a ∷ []) = inr refl
  form_move (a ∷ b ∷ []) = inr refl
  form_move (a ∷ b ∷ c ∷ []) = inr refl
  form_move (a ∷ b ∷ c ∷ d ∷ f ∷ words) = inr refl

  form_drop : (words : List (List ℕ)) → Form verb.Drop words
  form_drop (place ∷ instance ∷ []) = choose (byte_of place)
      (λ p e. choose (byte_of instance) (λ i f. inl (record { asked = _; asks = asks_drop place instance text p i e f })) (λ f. inr (rw (e, f) refl)))
      (λ e. inr (rw e refl))
  form_drop [] = inr refl
  form_drop (a ∷ []) = inr refl
  form_drop (a ∷ b ∷ c ∷ words) = inr refl

  form_turn : (words : List (List ℕ)) → Form verb.Turn words
  form_turn (place ∷ quarter ∷ []) = choose (byte_of place)
      (λ p e. choose (whole_of 3 quarter) (λ q f. inl (record { asked = _; asks = asks_turn place quarter text p q e f })) (λ f. inr (rw (e, f) refl)))
      (λ e. inr (rw e refl))
  form_turn [] = inr refl
  form_turn (a ∷ []) = inr refl
  form_turn (a ∷ b ∷ c ∷ words) = inr refl

  form_set : (words : List (List ℕ)) → Form verb.Set words
  form_set [] = inr refl
  form_set (key ∷ words) = inl (record { asked = _; asks = asks_set key text words })

  form_override : (words : List (List ℕ)) → Form verb.Override words
  form_override [] = inr refl
  form_override (a ∷ []) = inr refl
  form_override (place ∷ key ∷ words) = choose (byte_of place) (λ p e. inl (record { asked = _; asks = asks_override place key text words p e })) (λ e. inr (rw e refl))

  form_unset : (words : List (List ℕ)) → Form verb.Unset words
  form_unset (place ∷ key ∷ []) = choose (byte_of place) (λ p e. inl (record { asked = _; asks = asks_unset place key text p e })) (λ e. inr (rw e refl))
  form_unset [] = inr refl
  form_unset (a ∷ []) = inr refl
  form_unset (a ∷ b ∷ c ∷ words) = inr refl

  form_ini : (words : List (List ℕ)) → Form verb.Ini words
  form_ini (block ∷ []) = elim (cases_Bool (is_name block)) [
    | inl b ↦ inl (record { asked = _; asks = asks_ini block text b })
    | inr b ↦ inr (rw b refl)
  ]
  form_ini [] = inr refl
  form_ini (a ∷ b ∷ words) = inr refl

  form_after : (words : List (List ℕ)) → Form verb.After words
  form_after (session ∷ calls ∷ []) = choose (whole_of 10000 calls)
      (λ n e. elim (cases_Bool (is_whole session)) [
        | inl w ↦ inl (record { asked = _; asks = asks_after session calls text n w e })
        | inr w ↦ inr (rw (e, w) refl)
      ])
      (λ e. inr (rw e refl))
  form_after [] = inr refl
  form_after (a ∷ []) = inr refl
  form_after (a ∷ b ∷ c ∷ words) = inr refl

  form_of : (v : Verb) (words : List (List ℕ)) → Form v words
  form_of verb.Load words = form_load words
  form_of verb.Reload words = form_reload words
  form_of verb.Delete words = form_delete words
  form_of verb.Copy words = form_copy words
  form_of verb.Move words = form_move words
  form_of verb.Drop words = form_drop words
  form_of verb.Turn words = form_turn words
  form_of verb.Set words = form_set words
  form_of verb.Override words = form_override words
  form_of verb.Unset words = form_unset words
  form_of verb.Ini words = form_ini words
  form_of verb.Apply [] = inl (record { asked = _; asks = asks_apply text })
  form_of verb.Apply (a ∷ words) = inr refl
  form_of verb.Export [] = inl (record { asked = _; asks = asks_export text })
  form_of verb.Export (a ∷ words) = inr refl
  form_of verb.Status [] = inl (record { asked = _; asks = asks_status text })
  form_of verb.Status (a ∷ words) = inr refl
  form_of verb.Cancel [] = inl (record { asked = _; asks = asks_cancel text })
  form_of verb.Cancel (a ∷ words) = inr refl
  form_of verb.After words = form_after words

verb_named : (word : List ℕ) (v : Verb) → verb_of word ≡ Some v → verb_text v ≡ word
verb_named word v e =
    (bytes_eq-Decides (verb_text v) word).0 (some_fact (λ w. bytes_eq (verb_text w) word ≡ true) (verb_of word) v e (found_passes (λ w. bytes_eq (verb_text w) word) verbs))

no_none : (o : Option Verb) (v : Verb) → o ≡ Some v → o ≡ None → ⊥
no_none o v e f = absurd (cc)

-- the words have the form of a command, or name none, or are of another form
abbrev pub OrderTold : List Data → List (List ℕ) → List ℕ → Type 0
OrderTold blocks words text = HasForm words text ⊎ (HasNoCommand words ⊎ ((HasNoCommand words → ⊥) × (order_of blocks words text ≡ Err BadLine)))

order_told : (blocks : List Data) (words : List (List ℕ)) (text : List ℕ) → OrderTold blocks words text
order_told blocks [] text = inr (inl tt)
order_told blocks (word ∷ words) text =
    choose (verb_of word)
    (λ v e. elim (form_of blocks text v words) [
      | inl f ↦ inl (subst (λ w. HasForm (w ∷ words) text) (verb_named word v e) f)
      | inr bad ↦ inr (inr (no_none (verb_of word) v e, ap (λ o. option_map_or (λ w. order_in blocks w words (after_word text)) o (Err UnknownCommand)) e ∙ bad))
    ])
    (λ e. inr (inl e))

-- ---- a line

module _ (blocks : List Data) (before number : ℕ) (text : List ℕ) where
  abbrev on : Option ℕ → Result Order ScriptFault → Result Line ScriptFault
  on first said = option_map_or (λ s. and_then said (λ o. counted before (record { number = number; session = s; command = o }))) first (Err BadSession)

  in_words : (first : List ℕ) (words : List (List ℕ)) (session : ℕ) (said : Result Order ScriptFault) → words_of text ≡ first ∷ words → session_of first ≡ Some session → order_of blocks words (after_word text) ≡ said
      → command_of blocks before number text ≡ on (Some session) said
  in_words first words session said all is e = ap (λ ws. command_in blocks before number ws text) all ∙ ap (λ o. on o (order_of blocks words (after_word text))) is ∙ ap (on (Some session)) e

  line_words_said : (session : ℕ) (o : Order) (h : IsCommandLine blocks text session o) → command_of blocks before number text ≡ counted before (record { number = number; session = session; command = o })
  line_words_said session o h = in_words h.first h.words session (Ok o) h.all h.session_is (asks_said blocks h.words (after_word text) h.asked h.asks ∙ is_said blocks h.asked o h.is)

  pub command_read : (session : ℕ) (o : Order) → IsCommandLine blocks text session o → before < 10000 → command_of blocks before number text ≡ Ok (record { number = number; session = session; command = o })
  command_read session o h few = line_words_said session o h ∙ cond-true (nat_lt before 10000) _ _ (grind (arith, nat_tests, few))

  no_session_said : (words : List (List ℕ)) → HasNoSession words → command_in blocks before number words text ≡ Err BadSession
  no_session_said [] h = refl
  no_session_said (word ∷ words) e = ap (λ o. on o (order_of blocks words (after_word text))) e

  no_command_said : (words : List (List ℕ)) → HasNoCommand words → order_of blocks words (after_word text) ≡ Err UnknownCommand
  no_command_said [] h = refl
  no_command_said (word ∷ words) e = ap (λ o. option_map_or (λ w. order_in blocks w words (after_word (after_word text))) o (Err UnknownCommand)) e

  no_form_said : (words : List (List ℕ)) → (HasNoCommand words → ⊥) → ((asked : Asked) → Asks words (after_word text) asked → ⊥) → order_of blocks words (after_word text) ≡ Err BadLine
  no_form_said words has none =
      elim (order_told blocks words (after_word text)) [
        | inl f ↦ absurd (none f.asked f.asks)
        | inr other ↦ elim other [
          | inl absent ↦ absurd (has absent)
          | inr bad ↦ bad.1
        ]
      ]

  pub fault_read : (fault : ScriptFault) → IsLineFault blocks before text fault → command_of blocks before number text ≡ Err fault
  fault_read _ (no_session h) = no_session_said (words_of text) h
  fault_read _ (no_command words is h) = in_words is.first words is.session (Err UnknownCommand) is.all is.is (no_command_said words h)
  fault_read _ (no_form words is has none) = in_words is.first words is.session (Err BadLine) is.all is.is (no_form_said words has none)
  fault_read _ (no_such_session words word calls is asks e) =
      in_words is.first words is.session (Err BadSession) is.all is.is (asks_said blocks words (after_word text) (behind word calls) asks ∙ ap (λ s. ok_or (option_map (λ s. command.After s calls) s) BadSession) e)
  fault_read _ (no_block words name edit_of is asks e) =
      in_words is.first words is.session (Err NoData) is.all is.is (asks_said blocks words (after_word text) (with_block name edit_of) asks ∙ ap (λ b. mapped (λ block. command.Edit (edit_of block)) (ok_or b NoData)) e)
  fault_read _ (too_many session o h many) = line_words_said session o h ∙ cond-false (nat_lt before 10000) _ _ (grind (arith, nat_tests, many))

  pub record IsRead : Type 0 where
    pub session : ℕ
    pub order : Order
    pub is : IsCommandLine blocks text session order
    pub few : before < 10000

  pub record IsRefused : Type 0 where
    pub fault : ScriptFault
    pub is : IsLineFault blocks before text fault

  module _ (first : List ℕ) (words : List (List ℕ)) (session : ℕ) (all : words_of text ≡ first ∷ words) (is : session_of first ≡ Some session) where
    of_session : IsOfSession text words
    of_session = record { first = first; session = session; all = all; is = is }

    counted_told : (asked : Asked) (o : Order) → Asks words (after_word text) asked → IsAsked blocks asked o → IsRead ⊎ IsRefused
    counted_told asked o asks given =
        let line : IsCommandLine blocks text session o = record { first = first; words = words; all = all; session_is = is; asked = asked; asks = asks; is = given } in
        elim (cases_Bool (nat_lt before 10000)) [
          | inl few ↦ inl (record { session = session; order = o; is = line; few = grind (arith, nat_tests, few) })
          | inr many ↦ inr (record { fault = TooMany; is = too_many session o line (grind (arith, nat_tests, many)) })
        ]

    asked_told : (asked : Asked) → Asks words (after_word text) asked → IsRead ⊎ IsRefused
    asked_told (plain o) asks = counted_told (plain o) o asks (order o)
    asked_told (with_block name edit_of) asks =
        choose (block_named blocks name) (λ b e. counted_told (with_block name edit_of) (command.Edit (edit_of b)) asks (found name edit_of b e)) (λ e. inr (record { fault = NoData; is = no_block words name edit_of of_session asks e }))
    asked_told (behind word calls) asks =
        choose (session_of word) (λ s e. counted_told (behind word calls) (command.After s calls) asks (named word calls s e)) (λ e. inr (record { fault = BadSession; is = no_such_session words word calls of_session asks e }))

    words_told : OrderTold blocks words (after_word text) → IsRead ⊎ IsRefused
    words_told (inl f) = asked_told f.asked f.asks
    words_told (inr (inl none)) = inr (record { fault = UnknownCommand; is = no_command words of_session none })
    words_told (inr (inr bad)) = inr (record { fault = BadLine; is = no_form words of_session bad.0 (λ asked asks. not_bad blocks asked (sym (asks_said blocks words (after_word text) asked asks) ∙ bad.1)) })

  line_in : (words : List (List ℕ)) → words_of text ≡ words → IsRead ⊎ IsRefused
  line_in [] e = inr (record { fault = BadSession; is = no_session (subst HasNoSession (sym e) tt) })
  line_in (first ∷ words) e =
      choose (session_of first) (λ s is. words_told first words s e is (order_told blocks words (after_word text))) (λ none. inr (record { fault = BadSession; is = no_session (subst HasNoSession (sym e) none) }))

  -- each text is a command line, or has a fault
  pub line_told : IsRead ⊎ IsRefused
  line_told = line_in (words_of text) refl

  err_is : (a b : ScriptFault) → ◌≡◌ {A = Result Line ScriptFault} (Err a) (Err b) → a ≡ b
  err_is a b e = cc

  ok_line : (a b : Line) → ◌≡◌ {A = Result Line ScriptFault} (Ok a) (Ok b) → a ≡ b
  ok_line a b e = cc

  pub its_command : (session : ℕ) (o : Order) → command_of blocks before number text ≡ Ok (record { number = number; session = session; command = o }) → IsCommandLine blocks text session o × (before < 10000)
  its_command session o e = by line_told
    where
      by : IsRead ⊎ IsRefused → IsCommandLine blocks text session o × (before < 10000)
      by (inl r) =
          let same = ok_line _ _ (sym (command_read r.session r.order r.is r.few) ∙ e) in
          (subst (λ (l : Line). IsCommandLine blocks text l.session l.command) same r.is, r.few)
      by (inr r) =
          let both = sym (fault_read r.fault r.is) ∙ e in
          absurd (cc)

  pub its_fault : (fault : ScriptFault) → command_of blocks before number text ≡ Err fault → IsLineFault blocks before text fault
  its_fault fault e = by line_told
    where
      by : IsRead ⊎ IsRefused → IsLineFault blocks before text fault
      by (inl r) =
          let both = sym (command_read r.session r.order r.is r.few) ∙ e in
          absurd (cc)
      by (inr r) =
          let same : r.fault ≡ fault = err_is _ _ (sym (fault_read r.fault r.is) ∙ e) in
          subst (IsLineFault blocks before text) same r.is
