-- The sessions of a relay take turns in order.
use Rattle.std.proofs.Common.{◌≡◌, ◌≢◌, ℕ, suc, ◌+◌, ◌-◌, ◌<◌, ◌≤◌, inl, inr, ◌⊎◌, List, [], ◌∷◌, ◌++◌, length, refl, ap, sym, subst, ◌∙◌, None, Some, arith, append_assoc}
use Rattle.std.specs.List.{slice_get}
use Rattle.std.proofs.lemmas.List.{append-nil, length-append, map-append}
use Rattle.std.proofs.lemmas.Bool.{cases_lt}
use Rattle.pl_ports.specs.declared.gate.Actor.{Actor}
use Rattle.pl_ports.specs.declared.gate.Actor.TheVariants.{Session, Worker}
use Rattle.pl_tech.specs.Technology.{Meaning}
use Rattle.pl_machine.specs.declared.entry.Command.{Command}
use Rattle.pl_machine.specs.declared.entry.Command.TheVariants.{After}
use Rattle.pl_machine.specs.declared.entry.Reply.{Reply}
use Rattle.pl_machine.specs.declared.entry.Reply.TheVariants.{Edited, Unchanged, Changed, Invalidated, Cancelled, Modes, Gcode, Refused, Passed}
use Rattle.pl_machine.specs.declared.entry.What.{What}
use Rattle.pl_machine.specs.declared.entry.What.TheVariants.{Call, Start, Finish, Late, Bye}
use Rattle.pl_machine.specs.declared.entry.Entry.{Entry}
use Rattle.pl_machine.specs.Machine.{Machine, Allows, Replies, blank, calls_of}
use Rattle.pl_machine.specs.History.{replay, IsLegal}
use Rattle.pl_machine.proofs.Runs.{run_split}
use Rattle.pl_session.specs.Complete.{command_of, commands_by, IsComplete}
use Rattle.pl_session.proofs.Entries.{commands_append}
use Rattle.pl_relay.specs.Relay.{IsRelay, calls_by, relay_calls, calls_made}
use Rattle.pl_relay.proofs.Calls.{made_append, call_entry, own_call, other_call, no_call, calls_counted}

module _ {A : Type 0} where
  pub longer : (xs : List A) (x : A) (ys zs : List A) → xs ++ x ∷ ys ≡ zs → xs ≡ zs → ⊥
  longer xs x ys zs is same = let long = length-append xs (x ∷ ys) in let a = ap length is in let b = ap length same in omega (arith, long, a, b)

  none_left : (xs ys zs : List A) → xs ++ ys ≡ zs → length zs ≤ length xs → xs ≡ zs
  none_left xs [] zs is long = sym (append-nil xs) ∙ is
  none_left xs (y ∷ ys) zs is long = let more = length-append xs (y ∷ ys) in let a = ap length is in absurd (omega (arith, more, a, long))

  not_long : (xs : List A) → length xs ≤ 0 → xs ≡ []
  not_long [] long = refl
  not_long (x ∷ xs) long = absurd (omega (arith, long))

  first_is : (x : A) (xs ys : List A) (y : A) → x ∷ xs ≡ ys → slice_get ys 0 ≡ Some y → x ≡ y
  first_is x xs ys y is here = let f : Some x ≡ Some y = ap (λ l. slice_get l 0) is ∙ here in cc

pub three_ways : (a b : ℕ) → (a < b) ⊎ ((a ≡ b) ⊎ (b < a))
three_ways a b = elim (cases_lt a b) [
  | inl below ↦ inl below
  | inr above ↦ elim (cases_lt b a) [
    | inl more ↦ inr (inr more)
    | inr same ↦ inr (inl (omega arith))
  ]
]

module _ {T P E R O J B : Type 0} (m : Meaning P E R O) where
  -- who waits for calls goes on when they are made
  waited : (st : Machine P) (s n : ℕ) (reply : Reply T P E R O J B) → Replies m st (After s n) reply → n ≤ calls_of st s
  waited st s n Passed may = may.2
  waited st s n (Gcode o) may = absurd may
  waited st s n (Refused p) may = absurd may
  waited st s n (Edited r) may = absurd may
  waited st s n Unchanged may = absurd may
  waited st s n Changed may = absurd may
  waited st s n (Invalidated set) may = absurd may
  waited st s n (Cancelled k) may = absurd may
  waited st s n (Modes present started finished) may = absurd may

  module _ (commands : ℕ → List (Command E)) (count workers : ℕ) (relay : IsRelay commands count) where
    -- the sessions up to `done` have made all their calls, those after the next one none
    pub record Turn (seen : List (Entry T P E R O J B)) : Type 0 where
      pub done : ℕ
      pub within : done ≤ count
      pub low : done ≤ 15
      pub earlier : (i : ℕ) → 1 ≤ i → i ≤ done → commands_by i seen ≡ commands i
      pub later : (i : ℕ) → suc done < i → i ≤ 16 → commands_by i seen ≡ []
      pub made : calls_made seen ≡ relay_calls commands done ++ calls_by (suc done) (commands_by (suc done) seen)

    -- an entry that is no call
    quiet : (h : List (Entry T P E R O J B)) (e : Entry T P E R O J B) → command_of e.what ≡ None → calls_made (e ∷ []) ≡ [] → Turn h → Turn (h ++ e ∷ [])
    quiet h e none uncalled t =
        let same : (i : ℕ) → commands_by i (h ++ e ∷ []) ≡ commands_by i h = λ i. commands_append i h (e ∷ []) ∙ ap (λ l. commands_by i h ++ l) (no_call i e [] none) ∙ append-nil (commands_by i h) in
        record {
          done = t.done;
          within = t.within;
          low = t.low;
          earlier = λ i from to. same i ∙ t.earlier i from to;
          later = λ i from to. same i ∙ t.later i from to;
          made = made_append h (e ∷ []) ∙ ap (λ l. calls_made h ++ l) uncalled ∙ append-nil (calls_made h) ∙ t.made ∙ ap (λ l. relay_calls commands t.done ++ calls_by (suc t.done) l) (sym (same (suc t.done)));
        }

    module _ (h : List (Entry T P E R O J B)) (j : ℕ) (c : Command E) (reply : Reply T P E R O J B) where
      own : commands_by j (h ++ call_entry j c reply ∷ []) ≡ commands_by j h ++ c ∷ []
      own = commands_append j h (call_entry j c reply ∷ []) ∙ ap (λ l. commands_by j h ++ l) (own_call j j c reply [] refl)

      others : (i : ℕ) → i ≢ j → commands_by i (h ++ call_entry j c reply ∷ []) ≡ commands_by i h
      others i not = commands_append i h (call_entry j c reply ∷ []) ∙ ap (λ l. commands_by i h ++ l) (other_call i j c reply [] not) ∙ append-nil (commands_by i h)

      -- the session whose turn it is makes a call
      same_turn : (t : Turn h) → j ≡ suc t.done → Turn (h ++ call_entry j c reply ∷ [])
      same_turn t is = record {
        done = t.done;
        within = t.within;
        low = t.low;
        earlier = λ i from to. others i (λ e. omega (arith, e, is, to)) ∙ t.earlier i from to;
        later = λ i from to. others i (λ e. omega (arith, e, is, from)) ∙ t.later i from to;
        made =
            made_append h (call_entry j c reply ∷ []) ∙ ap (λ l. l ++ (j, c) ∷ []) t.made
            ∙ append_assoc (relay_calls commands t.done) (calls_by (suc t.done) (commands_by (suc t.done) h)) ((j, c) ∷ [])
            ∙ ap (λ l. relay_calls commands t.done ++ l) (ap (λ n. calls_by n (commands_by n h) ++ (j, c) ∷ []) (sym is) ∙ sym (map-append (λ d. (j, d)) (commands_by j h) (c ∷ []))
            ∙ ap (calls_by j) (sym own) ∙ ap (λ n. calls_by n (commands_by n (h ++ call_entry j c reply ∷ []))) is);
      }

      -- the session after it makes its first call
      next_turn : (t : Turn h) → suc t.done < count → count ≤ 16 → j ≡ suc (suc t.done) → commands_by (suc t.done) h ≡ commands (suc t.done) → Turn (h ++ call_entry j c reply ∷ [])
      next_turn t below few is all = record {
        done = suc t.done;
        within = omega arith;
        low = omega arith;
        earlier = λ i from to. others i (λ e. omega (arith, e, is, to)) ∙ elim (cases_lt t.done i) [
          | inl last ↦ let same : i ≡ suc t.done = omega (arith, to, last) in ap (λ n. commands_by n h) same ∙ all ∙ ap commands (sym same)
          | inr early ↦ t.earlier i from early
        ];
        later = λ i from to. others i (λ e. omega (arith, e, is, from)) ∙ t.later i (omega (arith, from)) to;
        made =
            let first : commands_by j (h ++ call_entry j c reply ∷ []) ≡ c ∷ [] = own ∙ ap (λ l. l ++ c ∷ []) (t.later j (omega (arith, is)) (omega (arith, is, below, few))) in
            made_append h (call_entry j c reply ∷ []) ∙ ap (λ l. l ++ (j, c) ∷ []) (t.made ∙ ap (λ l. relay_calls commands t.done ++ calls_by (suc t.done) l) all)
            ∙ ap (λ l. relay_calls commands (suc t.done) ++ l) (ap (calls_by j) (sym first) ∙ ap (λ n. calls_by n (commands_by n (h ++ call_entry j c reply ∷ []))) is);
      }

    module _ (history : List (Entry T P E R O J B)) (whole : IsComplete m commands workers history) where
      -- a session's calls before a place and from it on
      parts : (h rest : List (Entry T P E R O J B)) (i : ℕ) → history ≡ h ++ rest → 1 ≤ i → i ≤ 16 → commands_by i h ++ commands_by i rest ≡ commands i
      parts h rest i is from to = sym (commands_append i h rest) ∙ ap (commands_by i) (sym is) ∙ whole.calls i from to

      call_step : (h rest : List (Entry T P E R O J B)) (j : ℕ) (c : Command E) (reply : Reply T P E R O J B) → history ≡ h ++ call_entry j c reply ∷ rest
          → 1 ≤ j → j ≤ 16 → Replies m (replay m h) c reply → IsLegal m h → Turn h → Turn (h ++ call_entry j c reply ∷ [])
      call_step h rest j c reply is from to replies legal t =
          let mine : commands_by j h ++ c ∷ commands_by j rest ≡ commands j = ap (λ l. commands_by j h ++ l) (sym (own_call j j c reply rest refl)) ∙ parts h (call_entry j c reply ∷ rest) j is from to in
          elim (three_ways j (suc t.done)) [
            | inl early ↦ absurd (longer (commands_by j h) c (commands_by j rest) (commands j) mine (t.earlier j from (omega (arith, early))))
            | inr (inl now) ↦ same_turn h j c reply t now
            | inr (inr late) ↦
                let p : ℕ = j - 1 in
                let p_is : j ≡ p + 1 = omega (arith, from) in
                let first : c ∷ commands_by j rest ≡ commands j = ap (λ l. l ++ c ∷ commands_by j rest) (sym (t.later j late to)) ∙ mine in
                let in_relay : j ≤ count = elim (cases_lt count j) [
                  | inl out ↦ absurd (let f : c ∷ commands_by j rest ≡ [] = first ∙ relay.others j out in cc)
                  | inr inside ↦ inside
                ] in
                let waits = relay.waits p (omega (arith, late)) (omega (arith, p_is, in_relay)) in
                let c_is : c ≡ After p (length (commands p)) = first_is c (commands_by j rest) (commands j) _ first (ap (λ n. slice_get (commands n) 0) p_is ∙ waits) in
                let enough : length (commands p) ≤ calls_of (replay m h) p = waited (replay m h) p (length (commands p)) reply (subst (λ d. Replies m (replay m h) d reply) c_is replies) in
                let counted = calls_counted m h p (omega (arith, late)) (omega (arith, to)) legal in
                let long : length (commands p) ≤ length (commands_by p h) = omega (arith, enough, counted) in
                elim (cases_lt (suc t.done) p) [
                  | inl far ↦
                      let empty = ap length (t.later p far (omega (arith, to))) in
                      absurd (relay.some p (omega (arith, far)) (omega (arith, p_is, in_relay)) (not_long (commands p) (omega (arith, long, empty))))
                  | inr near ↦
                      let p_now : p ≡ suc t.done = omega (arith, near, late) in
                      let all : commands_by p h ≡ commands p = none_left (commands_by p h) _ (commands p) (parts h (call_entry j c reply ∷ rest) p is (omega (arith, late)) (omega (arith, to))) long in
                      next_turn h j c reply t (omega (arith, p_now, p_is, in_relay)) relay.few (omega (arith, p_now, p_is)) (subst (λ n. commands_by n h ≡ commands n) p_now all)
                ]
          ]

      step : (h rest : List (Entry T P E R O J B)) (a : Actor) (w : What T P E R O J B) → history ≡ h ++ record { actor = a; what = w } ∷ rest
          → Allows m (replay m h) a w → IsLegal m h → Turn h → Turn (h ++ record { actor = a; what = w } ∷ [])
      step h rest (Session j) (Call c reply) is may legal t = call_step h rest j c reply is may.0.from_1 may.0.to_16 may.1 legal t
      step h rest (Worker k) (Call c reply) is may legal t = absurd may
      step h rest a (Start slot epoch) is may legal t = quiet h _ refl refl t
      step h rest a (Finish slot epoch) is may legal t = quiet h _ refl refl t
      step h rest a (Late slot since now) is may legal t = quiet h _ refl refl t
      step h rest a Bye is may legal t = quiet h _ refl refl t

      go : (h xs ys : List (Entry T P E R O J B)) → history ≡ h ++ (xs ++ ys) → Turn h → Turn (h ++ xs)
      go h [] ys is t = subst Turn (sym (append-nil h)) t
      go h (e ∷ xs) ys is t =
          let runs = run_split m (blank m) h (e ∷ (xs ++ ys)) (subst (IsLegal m) is whole.legal) in
          let more = step h (xs ++ ys) e.actor e.what is runs.1.0 runs.0 t in
          subst Turn (append_assoc h (e ∷ []) xs) (go (h ++ e ∷ []) xs ys (is ∙ sym (append_assoc h (e ∷ []) (xs ++ ys))) more)

      -- at each place of the history it is some session's turn
      pub turn_at : (seen rest : List (Entry T P E R O J B)) → history ≡ seen ++ rest → Turn seen
      turn_at seen rest is = go [] seen rest is (record {
        done = 0;
        within = omega arith;
        low = omega arith;
        earlier = λ i from to. absurd (omega (arith, from, to));
        later = λ i from to. refl;
        made = refl;
      })

      pub one_order : calls_made history ≡ relay_calls commands count
      one_order =
          let t = turn_at history [] (sym (append-nil history)) in
          elim (three_ways (suc t.done) count) [
            | inl less ↦
                let last : ℕ = suc (suc t.done) in
                let few = relay.few in
                let none : commands last ≡ [] = sym (whole.calls last (omega arith) (omega (arith, few, less))) ∙ t.later last (omega arith) (omega (arith, few, less)) in
                absurd (relay.some last (omega arith) (omega (arith, less)) none)
            | inr (inl now) ↦ t.made ∙ ap (λ l. relay_calls commands t.done ++ calls_by (suc t.done) l) (whole.calls (suc t.done) (omega arith) (omega (arith, t.low))) ∙ ap (relay_calls commands) now
            | inr (inr more) ↦
                let same : t.done ≡ count = omega (arith, more, t.within) in
                let none : commands_by (suc t.done) history ≡ [] = whole.calls (suc t.done) (omega arith) (omega (arith, t.low)) ∙ relay.others (suc t.done) more in
                t.made ∙ ap (λ l. relay_calls commands t.done ++ calls_by (suc t.done) l) none ∙ append-nil (relay_calls commands t.done) ∙ ap (relay_calls commands) same
          ]
