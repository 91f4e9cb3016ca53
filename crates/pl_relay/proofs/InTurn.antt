-- Where the export of a session of a relay stands.
use Rattle.std.proofs.Common.{◌≡◌, ◌≢◌, ℕ, suc, ◌+◌, ◌-◌, ◌≤◌, ◌⊎◌, inl, inr, eqb, Bool, true, false, cond, List, [], ◌∷◌, ◌++◌, length, refl, ap, sym, subst, ◌∙◌, None, Some, arith, append_assoc}
use Rattle.std.specs.List.{filter_map, cons_option, slice_get, count_by}
use Rattle.std.proofs.lemmas.List.{map-append}
use Rattle.std.proofs.lemmas.List.Sums.{sum_by-append, sum_by-cons}
use Rattle.std.proofs.lemmas.Bool.Decides.{eqb_tells}
use Rattle.pl_ports.specs.declared.gate.Actor.{Actor}
use Rattle.pl_ports.specs.declared.gate.Actor.TheVariants.{Session, Worker}
use Rattle.pl_tech.specs.Technology.{Meaning}
use Rattle.pl_machine.specs.declared.entry.Command.{Command}
use Rattle.pl_machine.specs.declared.entry.Command.TheVariants.{Export, After}
use Rattle.pl_machine.specs.declared.entry.Reply.{Reply}
use Rattle.pl_machine.specs.declared.entry.What.{What}
use Rattle.pl_machine.specs.declared.entry.What.TheVariants.{Call, Start, Finish, Late, Bye}
use Rattle.pl_machine.specs.declared.entry.Entry.{Entry}
use Rattle.pl_machine.specs.History.{IsLegal}
use Rattle.pl_session.specs.Complete.{is_session, command_of, commands_by, IsComplete}
use Rattle.pl_relay.specs.Relay.{IsRelay, calls_by, relay_calls, calls_made}
use Rattle.pl_relay.specs.Exports.{is_export, EndsInExport, plates_after, applied_after, export_reply, export_entry, export_in, reply_if, exports_of}
use Rattle.pl_relay.proofs.Calls.{call_entry, of_session, own_call, other_call, no_call}
use Rattle.pl_relay.proofs.Turns.{longer, three_ways, turn_at}
use Rattle.pl_relay.proofs.Plates.{plates_append, answers}

module _ {E : Type 0} where
  no_command : (front : List (Command E)) → [] ≡ front ++ Export ∷ [] → ⊥
  no_command [] e = cc
  no_command (f ∷ front) e = cc

  head_none : (f : Command E) (front : List (Command E)) → count_by is_export (f ∷ front) ≡ 0 → (is_export f ≡ false) × (count_by is_export front ≡ 0)
  head_none f front none =
      let parts = sum_by-cons (λ x. cond (is_export x) 1 0) f front in
      (low (is_export f) (omega (arith, parts, none)), omega (arith, parts, none))
    where
      low : (b : Bool) → cond b 1 0 ≡ ◌+◌ 0 0 → b ≡ false
      low true h = absurd (omega (arith, h))
      low false h = refl

module _ {T P E R O J B : Type 0} where
  -- the entry is no call of the session
  record Skips (i : ℕ) (e : Entry T P E R O J B) : Type 0 where
    commands : (es : List (Entry T P E R O J B)) → commands_by i (e ∷ es) ≡ commands_by i es
    exports : (es : List (Entry T P E R O J B)) → exports_of i (e ∷ es) ≡ exports_of i es

  no_export : (i : ℕ) (e : Entry T P E R O J B) (es : List (Entry T P E R O J B)) → export_in e.what ≡ None → exports_of i (e ∷ es) ≡ exports_of i es
  no_export i e es none = either (is_session i e.actor)
    where
      either : (b : Bool) → filter_map (λ x. export_in x.what) (cond b (e ∷ of_session i es) (of_session i es)) ≡ filter_map (λ x. export_in x.what) (of_session i es)
      either true = ap (λ o. cons_option o (filter_map (λ x. export_in x.what) (of_session i es))) none
      either false = refl

  skips_quiet : (i : ℕ) (e : Entry T P E R O J B) → command_of e.what ≡ None → export_in e.what ≡ None → Skips i e
  skips_quiet i e none unexported = record { commands = λ es. no_call i e es none; exports = λ es. no_export i e es unexported }

  skips_other : (i j : ℕ) (c : Command E) (reply : Reply T P E R O J B) → eqb i j ≡ false → i ≢ j → Skips i (call_entry j c reply)
  skips_other i j c reply is not = record {
    commands = λ es. other_call i j c reply es not;
    exports = λ es. ap (λ b. filter_map (λ e. export_in e.what) (cond b (call_entry j c reply ∷ of_session i es) (of_session i es))) is;
  }

  skips_worker : (i k : ℕ) (c : Command E) (reply : Reply T P E R O J B) → Skips i (record { actor = Worker k; what = Call c reply })
  skips_worker i k c reply = record { commands = λ es. refl; exports = λ es. refl }

  own_export : (i : ℕ) (c : Command E) (reply : Reply T P E R O J B) (es : List (Entry T P E R O J B))
      → exports_of i (call_entry i c reply ∷ es) ≡ cons_option (reply_if (is_export c) reply) (exports_of i es)
  own_export i c reply es = elim (eqb_tells i i) [
    | inl same ↦ ap (λ b. filter_map (λ e. export_in e.what) (cond b (call_entry i c reply ∷ of_session i es) (of_session i es))) same.0
    | inr other ↦ absurd (other.1 refl)
  ]

  -- an entry is no call of the session, or one with this command and this reply
  which : (i : ℕ) (a : Actor) (w : What T P E R O J B)
      → Skips i (record { actor = a; what = w }) ⊎ ((c : Command E) × (reply : Reply T P E R O J B) × (record { actor = a; what = w } ≡ call_entry i c reply))
  which i (Session j) (Call c reply) = elim (eqb_tells i j) [
    | inl same ↦ inr (c, reply, ap (λ n. call_entry n c reply) (sym same.1))
    | inr other ↦ inl (skips_other i j c reply other.0 other.1)
  ]
  which i (Worker k) (Call c reply) = inl (skips_worker i k c reply)
  which i a (Start slot epoch) = inl (skips_quiet i _ refl refl)
  which i a (Finish slot epoch) = inl (skips_quiet i _ refl refl)
  which i a (Late slot since now) = inl (skips_quiet i _ refl refl)
  which i a Bye = inl (skips_quiet i _ refl refl)

  -- a session without calls has no exports
  none_made : (i : ℕ) (es : List (Entry T P E R O J B)) → commands_by i es ≡ [] → exports_of i es ≡ []
  none_made i [] none = refl
  none_made i (e ∷ es) none = elim (which i e.actor e.what) [
    | inl skips ↦ skips.exports es ∙ none_made i es (sym (skips.commands es) ∙ none)
    | inr (c, reply, is) ↦ absurd (let f : c ∷ commands_by i es ≡ [] = sym (own_call i i c reply es refl) ∙ ap (λ x. commands_by i (x ∷ es)) (sym is) ∙ none in cc)
  ]

  -- the one export of a session, after these commands of it
  record Found (i : ℕ) (front : List (Command E)) (es : List (Entry T P E R O J B)) : Type 0 where
    before : List (Entry T P E R O J B)
    after : List (Entry T P E R O J B)
    reply : Reply T P E R O J B
    split : es ≡ before ++ export_entry (Session i) reply ∷ after
    calls : commands_by i before ≡ front
    replies : exports_of i es ≡ reply ∷ []

  skipped : (i : ℕ) (front : List (Command E)) (e : Entry T P E R O J B) (es : List (Entry T P E R O J B)) → Skips i e → Found i front es → Found i front (e ∷ es)
  skipped i front e es skips f = record {
    before = e ∷ f.before;
    after = f.after;
    reply = f.reply;
    split = ap (λ l. e ∷ l) f.split;
    calls = skips.commands f.before ∙ f.calls;
    replies = skips.exports es ∙ f.replies;
  }

  -- the session's call of this command, with what comes after it
  taken : (i : ℕ) (front : List (Command E)) (c : Command E) (reply : Reply T P E R O J B) (es : List (Entry T P E R O J B)) → is_export c ≡ false
      → Found i front es → Found i (c ∷ front) (call_entry i c reply ∷ es)
  taken i front c reply es other f = record {
    before = call_entry i c reply ∷ f.before;
    after = f.after;
    reply = f.reply;
    split = ap (λ l. call_entry i c reply ∷ l) f.split;
    calls = own_call i i c reply f.before refl ∙ ap (λ l. c ∷ l) f.calls;
    replies = own_export i c reply es ∙ ap (λ b. cons_option (reply_if b reply) (exports_of i es)) other ∙ f.replies;
  }

  here : (i : ℕ) (c : Command E) (reply : Reply T P E R O J B) (es : List (Entry T P E R O J B)) → c ≡ Export → commands_by i es ≡ [] → Found i [] (call_entry i c reply ∷ es)
  here i c reply es is none = record {
    before = [];
    after = es;
    reply = reply;
    split = ap (λ d. call_entry i d reply ∷ es) is;
    calls = refl;
    replies = own_export i c reply es ∙ ap (λ d. cons_option (reply_if (is_export d) reply) (exports_of i es)) is ∙ ap (λ l. reply ∷ l) (none_made i es none);
  }

  find_here : (i : ℕ) (front : List (Command E)) (c : Command E) (reply : Reply T P E R O J B) (es : List (Entry T P E R O J B))
      → ((rest : List (Command E)) → commands_by i es ≡ rest ++ Export ∷ [] → count_by is_export rest ≡ 0 → Found i rest es)
      → c ∷ commands_by i es ≡ front ++ Export ∷ [] → count_by is_export front ≡ 0 → Found i front (call_entry i c reply ∷ es)
  find_here i [] c reply es more is none = here i c reply es (let f : c ≡ Export = cc in f) (let f : commands_by i es ≡ [] = cc in f)
  find_here i (f ∷ front) c reply es more is none =
      let head : c ≡ f = cc in
      let tail : commands_by i es ≡ front ++ Export ∷ [] = cc in
      let both = head_none f front none in
      subst (λ d. Found i (d ∷ front) (call_entry i c reply ∷ es)) head (taken i front c reply es (ap is_export head ∙ both.0) (more front tail both.1))

  find : (i : ℕ) (es : List (Entry T P E R O J B)) (front : List (Command E)) → commands_by i es ≡ front ++ Export ∷ [] → count_by is_export front ≡ 0 → Found i front es
  find i [] front is none = absurd (no_command front is)
  find i (e ∷ es) front is none = elim (which i e.actor e.what) [
    | inl skips ↦ skipped i front e es skips (find i es front (sym (skips.commands es) ∙ is) none)
    | inr (c, reply, by) ↦
        subst (λ x. Found i front (x ∷ es)) (sym by)
        (find_here i front c reply es (λ rest tail other. find i es rest tail other) (sym (own_call i i c reply es refl) ∙ ap (λ x. commands_by i (x ∷ es)) (sym by) ∙ is) none)
  ]

  module _ (m : Meaning P E R O) (commands : ℕ → List (Command E)) (count workers : ℕ) (relay : IsRelay commands count)
      (history : List (Entry T P E R O J B)) (whole : IsComplete m commands workers history) where
    -- an export leaves the plates
    same_plates : (i n : ℕ) (front : List (Command E)) → i ≡ suc n → commands i ≡ front ++ Export ∷ [] → plates_after m (relay_calls commands n ++ calls_by i front) ≡ plates_after m (relay_calls commands i)
    same_plates i n front is ends =
        let last : relay_calls commands i ≡ (relay_calls commands n ++ calls_by i front) ++ (i, Export) ∷ [] =
        ap (relay_calls commands) is ∙ ap (λ k. relay_calls commands n ++ calls_by k (commands k)) (sym is)
        ∙ ap (λ l. relay_calls commands n ++ l) (ap (calls_by i) ends ∙ map-append (λ c. (i, c)) front (Export ∷ []))
        ∙ sym (append_assoc (relay_calls commands n) (calls_by i front) ((i, Export) ∷ [])) in
        sym (ap (plates_after m) last ∙ plates_append m (record { edited = m.blank; applied = m.blank }) (relay_calls commands n ++ calls_by i front) ((i, Export) ∷ []))

    front_none : (i : ℕ) (ends : EndsInExport (commands i)) → count_by is_export ends.front ≡ 0
    front_none i ends =
        let parts = ap (count_by is_export) ends.last ∙ sum_by-append (λ x. cond (is_export x) 1 0) ends.front (Export ∷ []) in
        omega (arith, parts, ends.one)

    pub in_turn : (i : ℕ) → 1 ≤ i → i ≤ count → EndsInExport (commands i) → exports_of i history ≡ export_reply m (applied_after m (relay_calls commands i)) ∷ []
    in_turn i from to ends =
        let few = relay.few in
        let calls = whole.calls i from (omega (arith, to, few)) in
        let f = find i history ends.front (calls ∙ ends.last) (front_none i ends) in
        let t = turn_at m commands count workers relay history whole f.before (export_entry (Session i) f.reply ∷ f.after) f.split in
        let answer = answers m f.before f.after (Session i) f.reply (subst (IsLegal m) f.split whole.legal) in
        let made : plates_after m (calls_made f.before) ≡ plates_after m (relay_calls commands i) = elim (three_ways i (suc t.done)) [
          | inl early ↦ absurd (longer ends.front Export [] (commands i) (sym ends.last) (sym f.calls ∙ t.earlier i from (omega (arith, early))))
          | inr (inl now) ↦
              ap (plates_after m) (t.made ∙ ap (λ n. relay_calls commands t.done ++ calls_by n (commands_by n f.before)) (sym now) ∙ ap (λ l. relay_calls commands t.done ++ calls_by i l) f.calls)
              ∙ same_plates i t.done ends.front now ends.last
          | inr (inr late) ↦
              let p : ℕ = i - 1 in
              let i_is : i ≡ p + 1 = omega (arith, from) in
              let waits = relay.waits p (omega (arith, late)) (omega (arith, i_is, to)) in
              let none : ends.front ≡ [] = sym f.calls ∙ t.later i late (omega (arith, to, few)) in
              let first : slice_get (commands i) 0 ≡ Some Export = ap (λ l. slice_get l 0) (ends.last ∙ ap (λ l. l ++ Export ∷ []) none) in
              absurd (let g : Some Export ≡ Some (After p (length (commands p))) = sym first ∙ ap (λ n. slice_get (commands n) 0) i_is ∙ waits in cc)
        ] in
        f.replies ∙ ap (λ r. r ∷ []) (answer ∙ ap (λ plates. export_reply m plates.applied) made)
